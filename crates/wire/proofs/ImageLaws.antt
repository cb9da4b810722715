-- Laws of specs/Image: what a count tells, what the calls return once 14 and 1, or 1 and 15, are answered, and the length of a node's image.
-- Not here: the ways of the code (ImagePaths) and the round trips (ImageTrips). Assumes nothing.
use Prim.Native.Nat.{ℕ, ◌+◌, ◌*◌, ◌≤◌, ◌<◌}
use mathlib.Core.Bool.{true, false}
use mathlib.Core.List.{List, [], ◌∷◌}
use mathlib.Core.Path.{◌≡◌, refl, sym, ◌∙◌}
use borrow.Author.Tests.{le-leb, lt-leb, leb-true, eqb-true, eq-eqb}
use lib.Dec.{leb, eqb, lit<}
use lib.ListN.{length, length-append}
use lib.Seq.{length-take-le}
use Rattle.keys.specs.Store.{limit}
use Rattle.keys.specs.Place.{put_at}
use Rattle.keys.proofs.StoreLaws.{in_order_count}
use Rattle.keys.proofs.Tests.{and_left, and_right}
use Rattle.claims.specs.Question.{first_no}
use Rattle.claims.proofs.QuestionLaws.{Numbered, first_no_zero, settle_number}
use Rattle.claims.specs.declared.claim.Claim.{Claim}
use Rattle.rule.specs.declared.node.Node.{Node}
use Rattle.rule.specs.Table.{table_limit}
use Rattle.rule.specs.Node.{saved_in_order, node_in_order, node_keys, pending_of}
use Rattle.rule.specs.Question.{saved_question1, node_question1, question15}
use Rattle.rule.proofs.NodeLaws.{node_in_order_ordered}
use Rattle.wire.specs.Answer.{Length, Imaged}
use Rattle.wire.specs.Claim.{count_width}
use Rattle.wire.specs.Run.{Layout}
use Rattle.wire.specs.Length.{no_length}
use Rattle.wire.specs.Image.{key_section, claim_section, sections, section_length, image_limit, section_bytes, image_bytes, node_bytes, count_of, behind}
use Rattle.wire.specs.Image.{count_fits, counts_fit, told_length, question14, parse, node_from, read_image_questions, used, no_image, read_image}
use Rattle.wire.specs.Image.{write_image_questions, write_image, image_lent}
use Rattle.wire.specs.Sizes.{AsTold}
use Rattle.wire.specs.Lengths.{length_bytes}
use Rattle.wire.proofs.RunLaws.{Faithful, length_write_run, key_faithful, claim_faithful}

-- "An image may have 18,052 bytes" (document 02, slip 6).
pub image_size : image_limit ≡ 18052
image_size = refl

-- its questions have numbers
pub image_numbered : (bs : List ℕ) → Numbered (read_image_questions bs)
image_numbered bs = (lit< tt, (lit< tt, tt))

-- ---- a count

module _ (most : ℕ) (bs : List ℕ) where
  pub count_fits_missing : length bs < count_width → count_fits most bs ≡ false
  unfolding count_fits
  count_fits_missing h = rw (lt-leb count_width (length bs) h)

  pub count_fits_high : count_width ≤ length bs → most < count_of bs → count_fits most bs ≡ false
  unfolding count_fits
  count_fits_high h p = rw (le-leb count_width (length bs) h, lt-leb (count_of bs) most p)

  pub count_fits_of : count_width ≤ length bs → count_of bs ≤ most → count_fits most bs ≡ true
  unfolding count_fits
  count_fits_of h p = rw (le-leb count_width (length bs) h, le-leb (count_of bs) most p)

  pub count_fits_yes : count_fits most bs ≡ true → (count_width ≤ length bs) × (count_of bs ≤ most)
  unfolding count_fits
  count_fits_yes e =
      let there = leb count_width (length bs) in
      let low = leb (count_of bs) most in
      (leb-true count_width (length bs) (and_left there low e), leb-true (count_of bs) most (and_right there low e))

-- ---- reading

module _ {bs : List ℕ} {n m : ℕ} (told : AsTold bs n m) where
  pub whole_told : (question14 bs).yes ≡ true
  whole_told = rw told.counts (eq-eqb (length bs) (told_length sections bs) told.whole)

  pub read_image_0 : saved_in_order (node_from (parse bs)) ≡ true → record { number = 0; node = node_from (used (parse bs)) } ≡ read_image bs
  unfolding read_image
  read_image_0 e = rw (whole_told, e)

module _ (bs : List ℕ) where
  pub read_image_number : (read_image bs).number ≡ first_no (read_image_questions bs)
  unfolding read_image
  read_image_number = settle_number (λ (r : Imaged). r.number) (first_no (read_image_questions bs)) _ no_image refl (λ (k : ℕ). refl)

  -- an image that is accepted has passed 14 and 1
  pub read_image_yes : (read_image bs).number ≡ 0 → AsTold bs (count_of bs) (count_of (behind key_section bs)) × (saved_in_order (node_from (parse bs)) ≡ true)
  read_image_yes h =
      let (y, h₁) = first_no_zero (question14 bs) (saved_question1 (node_from (parse bs)) ∷ []) (lit< tt) (sym read_image_number ∙ h) in
      let same = eqb (length bs) (told_length sections bs) in
      let c = and_left (counts_fit sections bs) same y in
      let w = eqb-true (length bs) (told_length sections bs) (and_right (counts_fit sections bs) same y) in
      (record { counts = c; whole = w; keys = refl; pending = refl }, (first_no_zero (saved_question1 (node_from (parse bs))) [] (lit< tt) h₁).0)

-- ---- writing

pub length_section_bytes : {A : Type 0} {l : Layout A} {Fit : A → Type 0} → Faithful l Fit → (xs : List A)
    → length (section_bytes l xs) ≡ count_width + l.size * length xs
length_section_bytes faith xs = rw (length-append, length_bytes, length_write_run faith)

pub length_image_bytes : (ks : List ℕ) (cs : List Claim)
    → length (image_bytes ks cs) ≡ section_length key_section (length ks) + section_length claim_section (length cs)
unfolding image_bytes
length_image_bytes ks cs = rw (length-append, length_section_bytes key_faithful ks, length_section_bytes claim_faithful cs)

module _ (n : Node) where
  -- the counts of a node in order are not too high
  pub ordered_counts : node_in_order n ≡ true → (n.store.count ≤ limit) × (n.pending.count ≤ table_limit)
  ordered_counts e = let o = node_in_order_ordered n e in (in_order_count n.store o.store, o.count)

  module _ (long : length n.store.keys ≡ limit) (all : length n.pending.claims ≡ table_limit) (few : n.store.count ≤ limit) (several : n.pending.count ≤ table_limit) where
    pub length_node_keys : length (node_keys n) ≡ n.store.count
    length_node_keys = length-take-le n.store.count n.store.keys (rw long few)

    pub length_pending : length (pending_of n) ≡ n.pending.count
    length_pending = length-take-le n.pending.count n.pending.claims (rw all several)

    pub length_node_bytes : length (node_bytes n) ≡ section_length key_section n.store.count + section_length claim_section n.pending.count
    length_node_bytes = rw (length_image_bytes, length_node_keys, length_pending)

  module _ (out : List ℕ) where
    pub write_image_0 : node_in_order n ≡ true → length (node_bytes n) ≤ length out
        → (record { number = 0; length = length (node_bytes n) } ≡ write_image n (length out)) × (put_at out 0 (node_bytes n) ≡ image_lent n out)
    unfolding write_image image_lent
    write_image_0 e h = let k = le-leb (length (node_bytes n)) (length out) h in (rw (e, k), rw (e, k))

    -- an image that is written has passed 1 and 15
    pub write_image_yes : (write_image n (length out)).number ≡ 0 → (node_in_order n ≡ true) × (length (node_bytes n) ≤ length out)
    unfolding write_image
    write_image_yes h =
        let size = length (node_bytes n) in
        let number = settle_number (λ (r : Length). r.number) (first_no (write_image_questions n (length out))) _ no_length refl (λ (k : ℕ). refl) in
        let (o, h₁) = first_no_zero (node_question1 n) (question15 (length out) size ∷ []) (lit< tt) (sym number ∙ h) in
        (o, leb-true size (length out) (first_no_zero (question15 (length out) size) [] (lit< tt) h₁).0)
