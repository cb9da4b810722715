-- Laws of specs/Lent: what the calls on lent keys are by the definitions of Image. `read_image_no` and `read_image_lent` say it of reading,
-- `write_image_in_write_image` and `image_in_lent_image_lent` of writing. Assumes nothing.
use Prim.Native.Nat.{ℕ, ◌-◌, ◌≤◌}
use mathlib.Core.Bool.{Bool, true, false, ◌&&◌}
use mathlib.Core.List.{List, [], ◌∷◌, ◌++◌}
use mathlib.Core.Logic.{⊎_elim}
use mathlib.Core.Path.{◌≡◌, refl, ap, sym, ◌∙◌, subst}
use native.Mathlib.Omega.{arith}
use borrow.Author.Tests.{le-leb, leb-true, eqb-true, eq-eqb}
use lib.Dec.{leb, eqb, lit<}
use lib.ListN.{length, take, drop, replicate}
use lib.Seq.{length-take-le}
use Rattle.keys.specs.Store.{limit, zeros, store_of, empty_store}
use Rattle.keys.specs.Lent.{store_with}
use Rattle.keys.specs.Place.{put_at}
use Rattle.keys.proofs.Tests.{and_left, and_right, eq_or_ne}
use Rattle.keys.proofs.PlaceLaws.{put_at_replicate}
use Rattle.keys.proofs.LentLaws.{store_with_store_of}
use Rattle.claims.specs.Question.{first_no}
use Rattle.claims.proofs.QuestionLaws.{first_no_zero, settle_refused, settle_number}
use Rattle.rule.specs.declared.node.Node.{Node}
use Rattle.claims.specs.declared.claim.Claim.{Claim}
use Rattle.rule.specs.Answer.{Rest}
use Rattle.rule.specs.Table.{table_limit}
use Rattle.rule.specs.Node.{table_by, node_keys, node_of, telling, saved_in_order, node_in_order}
use Rattle.rule.proofs.NodeLaws.{node_keys_node_of}
use Rattle.nodes.specs.Lent.{node_held, rest_of, admit_in}
use Rattle.nodes.proofs.LentLaws.{held_admit_in, admit_in_saved, admit_in_unsaved}
use Rattle.wire.specs.Claim.{count_width}
use Rattle.wire.specs.Run.{key, claim}
use Rattle.wire.specs.Sizes.{AsTold}
use Rattle.wire.specs.Image.{node_bytes, key_section, sections, count_of, behind, counts_fit, told_length}
use Rattle.wire.specs.Image.{parse, node_from, used, question14, no_image, read_image, write_image, image_lent}
use Rattle.wire.specs.Lent.{no_rest, read_image_in, read_image_in_lent, within_limits, write_image_in, image_in_lent}
use Rattle.wire.proofs.RunLaws.{length_read_run}
use Rattle.wire.proofs.ImageLaws.{ordered_counts}
use Rattle.wire.proofs.SizesLaws.{told_room}

-- ---- reading

module _ (bs : List ℕ) {r : Rest} (e : r ≡ read_image_in bs) where
  read_image_in_number : r.number ≡ first_no (question14 bs ∷ [])
  unfolding read_image_in
  read_image_in_number =
      ap (λ (x : Rest). x.number) e ∙ settle_number (λ (x : Rest). x.number) (first_no (question14 bs ∷ [])) _ no_rest refl (λ (k : ℕ). refl)

  -- refused with 14
  pub read_image_in_refused : (r.number ≡ 0 → ⊥) → no_image r.number ≡ read_image bs
  unfolding read_image
  read_image_in_refused f = go (question14 bs).yes refl
    where
      go : (t : Bool) → (question14 bs).yes ≡ t → no_image r.number ≡ read_image bs
      go true y = absurd (f (read_image_in_number ∙ rw y))
      go false y = rw (read_image_in_number, y)

  module _ (done : r.number ≡ 0) {ks : List ℕ} (k : ks ≡ read_image_in_lent bs empty_store.keys) where
    passed : (question14 bs).yes ≡ true
    passed = (first_no_zero (question14 bs) [] (lit< tt) (sym read_image_in_number ∙ done)).0

    -- the counts are those that the image tells: so many keys are there, and not too many claims
    told : AsTold bs (count_of bs) (count_of (behind key_section bs))
    told =
        let yes = passed in
        record {
          counts = and_left (counts_fit sections bs) (eqb (length bs) (told_length sections bs)) yes;
          whole = eqb-true (length bs) (told_length sections bs) (and_right (counts_fit sections bs) (eqb (length bs) (told_length sections bs)) yes);
          keys = refl;
          pending = refl;
        }

    counted : (r.held ≡ count_of bs) × (r.count ≡ count_of (behind key_section bs))
    unfolding read_image_in node_of store_of parse
    counted =
        let rest : r ≡ rest_of (node_from (parse bs)) = e ∙ rw passed in (
          ap (λ (x : Rest). x.held) rest ∙ length_read_run key (count_of bs) (drop count_width bs),
          ap (λ (x : Rest). x.count) rest ∙ length_read_run claim (count_of (behind key_section bs)) (drop count_width (behind key_section bs)),
        )

    read_image_in_few : (r.held ≤ limit) × (r.count ≤ table_limit)
    read_image_in_few = let (n, m) = counted in let (f, g, room) = told_room told in (rw n f, rw m g)

    -- the node of both
    abbrev read_node : Node
    read_node = node_held ks r

    short : length (parse bs).keys ≤ limit
    unfolding parse
    short = let (f, g, room) = told_room told in rw (length_read_run key (count_of bs) (drop count_width bs)) f

    read_image_in_node : read_node ≡ node_from (parse bs)
    unfolding read_image_in read_image_in_lent node_of store_of empty_store zeros
    read_image_in_node =
        let l = (parse bs).keys in
        let rest : r ≡ rest_of (node_from (parse bs)) = e ∙ rw passed in
        let p : ks ≡ l ++ replicate (limit - length l) 0 = k ∙ rw passed (put_at_replicate l limit 0) in
        let store : store_with ks r.held ≡ store_of l = (λ i. store_with (p i) (rest i).held) ∙ store_with_store_of l short in
        λ i. record { store = store i; pending = table_by (rest i).table (rest i).count }

    -- what is admitted of these keys and claims: what the image says of itself, by question 1 and without what fails 16
    module _ {a : Rest} (admitted : a ≡ admit_in (take r.held ks) r) where
      abbrev l : List ℕ
      l = (parse bs).keys

      abbrev t : List Claim
      t = (parse bs).pending

      admitted_is : a ≡ admit_in l (rest_of (node_of l t))
      unfolding read_image_in
      admitted_is =
          let keys : take r.held ks ≡ l = ap node_keys read_image_in_node ∙ node_keys_node_of l t in
          let rest : r ≡ rest_of (node_from (parse bs)) = e ∙ rw passed in
          admitted ∙ (λ i. admit_in (keys i) (rest i))

      few : length t ≤ table_limit
      unfolding node_of
      few = subst (λ (m : ℕ). m ≤ table_limit) (ap (λ (n : Node). n.pending.count) read_image_in_node) read_image_in_few.1

      saved_is : saved_in_order (node_of l t) ≡ true → a ≡ rest_of (node_of l (telling t))
      saved_is o = admitted_is ∙ admit_in_saved l t few o

      unsaved_is : saved_in_order (node_of l t) ≡ false → a.number ≡ 1
      unsaved_is o = ap (λ (x : Rest). x.number) admitted_is ∙ admit_in_unsaved l t few o

      judged_no : (a.number ≡ 0 → ⊥) → no_image a.number ≡ read_image bs
      unfolding read_image
      judged_no f = go (saved_in_order (node_of l t)) refl
        where
          go : (yes : Bool) → saved_in_order (node_of l t) ≡ yes → no_image a.number ≡ read_image bs
          go true o = absurd (f (ap (λ (x : Rest). x.number) (saved_is o)))
          go false o = rw (unsaved_is o, passed, o)

      judged_yes : a.number ≡ 0 → record { number = 0; node = node_held ks a } ≡ read_image bs
      unfolding read_image node_of
      judged_yes z = go (saved_in_order (node_of l t)) refl
        where
          go : (yes : Bool) → saved_in_order (node_of l t) ≡ yes → record { number = 0; node = node_held ks a } ≡ read_image bs
          go true o =
              let keys : ks ≡ (store_of l).keys = ap (λ (n : Node). n.store.keys) read_image_in_node in
              let is = saved_is o in
              let store : store_with ks a.held ≡ store_of l = (λ i. store_with (keys i) (is i).held) ∙ store_with_store_of l short in
              let node : node_held ks a ≡ node_from (used (parse bs)) =
              λ i. record { store = store i; pending = table_by (is i).table (is i).count } in
              (λ i. record { number = 0; node = node i }) ∙ rw (passed, o)
          go false o = absurd (let one : a.number ≡ 1 = unsaved_is o in omega arith)

  -- refused or not, not too many keys were read
  read_image_in_held : {ks : List ℕ} → ks ≡ read_image_in_lent bs empty_store.keys → r.held ≤ limit
  unfolding read_image_in
  read_image_in_held k = ⊎_elim {C = r.held ≤ limit}
      (λ (done : r.number ≡ 0). (read_image_in_few done k).0)
      (λ (f : r.number ≡ 0 → ⊥).
      let none : r ≡ no_rest (first_no (question14 bs ∷ [])) =
      e ∙ settle_refused (first_no (question14 bs ∷ [])) _ no_rest (λ z. f (read_image_in_number ∙ z)) in
      let held : r.held ≡ 0 = ap (λ (x : Rest). x.held) none in
      omega arith)
      (eq_or_ne r.number 0)

  -- .. so they are a part of the run
  pub read_image_in_part : {ks : List ℕ} → ks ≡ read_image_in_lent bs empty_store.keys → length ks ≡ limit → r.held ≡ length (take r.held ks)
  read_image_in_part {ks} k long = sym (length-take-le r.held ks (rw long (read_image_in_held k)))

  -- What is admitted of what was read is what reading an image gives: the number, or the node.
  module _ {ks : List ℕ} (k : ks ≡ read_image_in_lent bs empty_store.keys) {a : Rest} (admitted : a ≡ admit_in (take r.held ks) r) where
    refused_stays : (r.number ≡ 0 → ⊥) → a ≡ r
    unfolding admit_in
    refused_stays f = admitted ∙ settle_refused r.number _ (λ n. r) f

    -- as many keys are admitted as were read
    pub read_image_held : a.held ≤ limit
    read_image_held = rw (ap (λ (x : Rest). x.held) admitted ∙ held_admit_in (take r.held ks) r) (read_image_in_held k)

    pub read_image_no : (a.number ≡ 0 → ⊥) → no_image a.number ≡ read_image bs
    read_image_no f = ⊎_elim {C = no_image a.number ≡ read_image bs}
        (λ (done : r.number ≡ 0). judged_no done k admitted f)
        (λ (g : r.number ≡ 0 → ⊥). ap (λ (x : Rest). no_image x.number) (refused_stays g) ∙ read_image_in_refused g)
        (eq_or_ne r.number 0)

    pub read_image_lent : a.number ≡ 0 → record { number = 0; node = node_held ks a } ≡ read_image bs
    read_image_lent z = ⊎_elim {C = record { number = 0; node = node_held ks a } ≡ read_image bs}
        (λ (done : r.number ≡ 0). judged_yes done k admitted z)
        (λ (g : r.number ≡ 0 → ⊥). absurd (g (ap (λ (x : Rest). x.number) (sym (refused_stays g)) ∙ z)))
        (eq_or_ne r.number 0)

-- ---- writing

pub within_limits_yes : (keys : List ℕ) (held count : ℕ) → within_limits keys held count ≡ true → (length keys ≡ limit) × (held ≤ limit) × (count ≤ table_limit)
within_limits_yes keys held count e =
    let f = and_right (eqb (length keys) limit) (leb held limit && leb count table_limit) e in (
      eqb-true (length keys) limit (and_left (eqb (length keys) limit) (leb held limit && leb count table_limit) e),
      leb-true held limit (and_left (leb held limit) (leb count table_limit) f),
      leb-true count table_limit (and_right (leb held limit) (leb count table_limit) f),
    )

module _ (n : Node) (out : List ℕ) where
  pub write_image_in_0 : within_limits n.store.keys n.store.count n.pending.count ≡ true → length (node_bytes n) ≤ length out
      → (record { number = 0; length = length (node_bytes n) } ≡ write_image_in n (length out)) × (put_at out 0 (node_bytes n) ≡ image_in_lent n out)
  unfolding write_image_in image_in_lent
  write_image_in_0 fits h =
      let k = le-leb (length (node_bytes n)) (length out) h in
      (rw (fits, k), rw (fits, k))

  -- where the node is in order, this is the call that asks 1
  module _ (long : length n.store.keys ≡ limit) (ordered : node_in_order n ≡ true) where
    pub ordered_within_limits : within_limits n.store.keys n.store.count n.pending.count ≡ true
    ordered_within_limits =
        let (few, several) = ordered_counts n ordered in
        rw (eq-eqb (length n.store.keys) limit long, le-leb n.store.count limit few, le-leb n.pending.count table_limit several)

    pub write_image_in_write_image : write_image_in n (length out) ≡ write_image n (length out)
    unfolding write_image_in write_image
    write_image_in_write_image = rw (ordered, ordered_within_limits)

    pub image_in_lent_image_lent : image_in_lent n out ≡ image_lent n out
    unfolding image_in_lent image_lent
    image_in_lent_image_lent = rw (ordered, ordered_within_limits)
