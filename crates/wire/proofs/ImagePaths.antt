-- The ways of src/images.rt, one law for each, in the code's own terms: k and m are counts that were read, s the sizes, r a refusal, and o₁ to o₄ are the lent
-- bytes in between. Assumes nothing.
use Prim.Native.Nat.{ℕ, ◌+◌, ◌-◌, ◌*◌, ◌≤◌, ◌<◌}
use native.Mathlib.Nat.{add-zero}
use native.Mathlib.Omega.{arith}
use mathlib.Core.Bool.{true, false}
use mathlib.Core.List.{List, ◌++◌}
use mathlib.Core.Path.{◌≡◌, refl, ap, sym, ◌∙◌}
use borrow.Author.Tests.{le-leb, lt-leb, ne_eqb}
use lib.ListN.{length, take, drop, replicate, length-drop, length-replicate}
use lib.Seq.{drop-drop, length-take-le}
use Rattle.std.specs.Prelude.{Ok, Err}
use Rattle.keys.specs.declared.store.Store.{Store}
use Rattle.keys.specs.Store.{limit, store_of, empty_store}
use Rattle.keys.specs.Lent.{store_with, renewed_from, store_by}
use Rattle.keys.specs.Place.{put_at}
use Rattle.keys.proofs.PlaceLaws.{put_at_zero, put_at_then, put_at_replicate}
use Rattle.keys.proofs.LentLaws.{resummed_zeros}
use Rattle.claims.specs.declared.claim.Claim.{Claim}
use Rattle.claims.specs.declared.refusal.Refusal.{Refusal}
use Rattle.claims.specs.declared.refusal.Refusal.TheVariants.{WrongImageLength}
use Rattle.claims.specs.Claim.{no_claim}
use Rattle.claims.specs.Refusal.{refusal_number}
use Rattle.claims.proofs.RefusalLaws.{refusal_number_ne}
use Rattle.rule.specs.declared.node.Node.{Node}
use Rattle.rule.specs.declared.node.Table.{Table}
use Rattle.rule.specs.declared.answer.Rest.{Rest as Beside}
use Rattle.rule.specs.Answer.{Rest, rest_given, rest_by}
use Rattle.rule.specs.Table.{table_limit}
use Rattle.rule.specs.Node.{blanks, table_by, node_of, node_in_order}
use Rattle.nodes.specs.Lent.{node_with, admit_in}
use Rattle.wire.specs.declared.images.Sizes.{Sizes}
use Rattle.wire.specs.Number.{bytes, number_at}
use Rattle.wire.specs.Claim.{key_width, count_width, claim_size}
use Rattle.wire.specs.Run.{Layout, key, claim, read_run, write_run}
use Rattle.wire.specs.Answer.{Length, imaged_by}
use Rattle.wire.specs.Length.{no_length}
use Rattle.wire.specs.Image.{key_section, sections, section_length, section_bytes, image_bytes, node_bytes, count_of, behind}
use Rattle.wire.specs.Image.{counts_fit, told_length}
use Rattle.wire.specs.Image.{parse, no_image, read_image, image_length, write_image, image_lent}
use Rattle.wire.specs.Sizes.{count_told, sizes_of, length_of, AsTold, Readable}
use Rattle.wire.specs.Lent.{no_rest, read_image_in, read_image_in_lent, within_limits, write_image_in, image_in_lent}
use Rattle.wire.specs.Lengths.{length_bytes}
use Rattle.wire.proofs.NumberLaws.{number_at_drop}
use Rattle.wire.proofs.RunLaws.{length_read_run, key_faithful}
use Rattle.wire.proofs.ImageLaws.{count_fits_missing, count_fits_high, count_fits_of, whole_told, length_section_bytes, length_image_bytes, length_node_bytes}
use Rattle.wire.proofs.SizesLaws.{count_told_no, count_told_yes, count_told_err, count_told_ok}
use Rattle.wire.proofs.SizesLaws.{sizes_of_no, sizes_of_yes, sizes_of_err, sizes_of_ok, told_length_of, told_room}
use Rattle.wire.proofs.LentLaws.{within_limits_yes, write_image_in_0, write_image_in_write_image, image_in_lent_image_lent}
use Rattle.wire.proofs.LentLaws.{read_image_in_refused, read_image_in_part, read_image_held, read_image_no, read_image_lent}

-- ---- count_at

module _ (most : ℕ) (bs : List ℕ) (at : ℕ) where
  pub count_missing : length bs < at + count_width → Err WrongImageLength ≡ count_told most (drop at bs)
  count_missing h = count_told_no most (drop at bs) (count_fits_missing most (drop at bs) (rw length-drop (omega arith)))

  module _ (there : at + count_width ≤ length bs) {k : ℕ} (read : k ≡ number_at bs at count_width) where
    counted : k ≡ count_of (drop at bs)
    counted = read ∙ sym (number_at_drop bs at 0 count_width ∙ rw add-zero)

    long : count_width ≤ length (drop at bs)
    long = rw length-drop (omega arith)

    pub count_high : most < k → Err WrongImageLength ≡ count_told most (drop at bs)
    count_high h = count_told_no most (drop at bs) (count_fits_high most (drop at bs) long (rw counted at h))

    pub count_few : k ≤ most → Ok k ≡ count_told most (drop at bs)
    count_few h = count_told_yes most (drop at bs) counted (count_fits_of most (drop at bs) long (rw counted at h))

-- ---- sizes_of

module _ (bs : List ℕ) where
  pub sizes_keys : (r : Refusal) → Err r ≡ count_told limit bs → Err r ≡ sizes_of bs
  unfolding counts_fit
  sizes_keys r h =
      let (unfit, is) = count_told_err limit bs h in
      rw is (sizes_of_no bs (rw unfit))

  module _ {k : ℕ} (keys : Ok k ≡ count_told limit bs) where
    place : drop (count_width + key_width * k) bs ≡ behind key_section bs
    place = rw (count_told_ok limit bs keys).1

    pub sizes_pending : (r : Refusal) → Err r ≡ count_told table_limit (drop (count_width + key_width * k) bs) → Err r ≡ sizes_of bs
    unfolding counts_fit
    sizes_pending r h =
        let (unfit, is) = count_told_err table_limit (behind key_section bs) (rw place at h) in
        rw is (sizes_of_no bs (rw ((count_told_ok limit bs keys).0, unfit)))

    pub sizes_both : {m : ℕ} → Ok m ≡ count_told table_limit (drop (count_width + key_width * k) bs) → Ok (record { keys = k; pending = m }) ≡ sizes_of bs
    unfolding counts_fit
    sizes_both h =
        let (fits, is) = count_told_ok limit bs keys in
        let (fit, are) = count_told_ok table_limit (behind key_section bs) (rw place at h) in
        sizes_of_yes bs (λ i. record { keys = is i; pending = are i }) (rw (fits, fit))

-- ---- image_length, read_image_in

module _ (bs : List ℕ) where
  pub image_length_counts : (r : Refusal) → Err r ≡ sizes_of bs → no_length (refusal_number r) ≡ image_length bs
  unfolding image_length
  image_length_counts r h = let (unfit, is) = sizes_of_err bs h in rw (is, unfit)

  pub read_image_in_counts : (keys : List ℕ) (r : Refusal) → Err r ≡ sizes_of bs
      → (no_rest (refusal_number r) ≡ read_image_in bs) × (keys ≡ read_image_in_lent bs keys)
  unfolding read_image_in read_image_in_lent
  read_image_in_counts keys r h = let (unfit, is) = sizes_of_err bs h in (rw (is, unfit), rw unfit)

  -- k is how long the image is, as the counts tell
  module _ {s : Sizes} (told : Ok s ≡ sizes_of bs) {k : ℕ} (long : k ≡ length_of s) where
    all_fit : counts_fit sections bs ≡ true
    all_fit = (sizes_of_ok bs told).0

    lengths : k ≡ told_length sections bs
    lengths = long ∙ (ap length_of (sizes_of_ok bs told).1 ∙ sym (told_length_of bs))

    pub image_length_short : length bs < k → no_length 14 ≡ image_length bs
    unfolding image_length
    image_length_short h = rw (all_fit, lt-leb (told_length sections bs) (length bs) (rw (← lengths) h))

    pub image_length_0 : k ≤ length bs → record { number = 0; length = k } ≡ image_length bs
    unfolding image_length
    image_length_0 h = rw (all_fit, le-leb (told_length sections bs) (length bs) (rw (← lengths) h), lengths)

    pub read_image_in_length : (keys : List ℕ) → (length bs ≡ k → ⊥) → (no_rest 14 ≡ read_image_in bs) × (keys ≡ read_image_in_lent bs keys)
    unfolding read_image_in read_image_in_lent
    read_image_in_length keys f =
        let other = ne_eqb (length bs) (told_length sections bs) (λ z. f (z ∙ sym lengths)) in (rw (all_fit, other), rw (all_fit, other))

    told_as : length bs ≡ k → AsTold bs s.keys s.pending
    told_as whole =
        let is = (sizes_of_ok bs told).1 in
        record { counts = all_fit; whole = whole ∙ lengths; keys = λ i. (is i).keys; pending = λ i. (is i).pending }

    pub told_readable : length bs ≡ k → Readable bs s
    told_readable whole =
        let (keys, pending, room) = told_room (told_as whole) in
        record { told = told_as whole; few = record { keys = keys; pending = pending }; enough = room }

-- ---- table_at, contents

-- a table of zeros
abbrev none_pending : List Claim
none_pending = replicate table_limit no_claim

pub table_read : (bs : List ℕ) (at m : ℕ) {cs : List Claim} → m ≤ table_limit → cs ≡ read_run claim (length (take m none_pending)) (drop at bs)
    → record { claims = cs ++ drop m none_pending; count = m } ≡ table_by (put_at (blanks table_limit) 0 (read_run claim m (drop at bs))) m
unfolding blanks
table_read bs at m {cs} few read =
    let places : length (take m none_pending) ≡ m = length-take-le m none_pending (omega (arith, length-replicate table_limit no_claim)) in
    let is : cs ≡ read_run claim m (drop at bs) = read ∙ rw places in
    let long : length cs ≡ m = ap length is ∙ length_read_run claim m (drop at bs) in
    let put : cs ++ drop m none_pending ≡ put_at none_pending 0 (read_run claim m (drop at bs)) =
    sym (put_at_zero none_pending cs ∙ rw long) ∙ ap (put_at none_pending 0) is in
    λ i. table_by (put i) m

module _ {bs : List ℕ} {s : Sizes} (readable : Readable bs s) where
  -- what stands where the code reads is the contents
  keys_parsed : read_run key s.keys (drop count_width bs) ≡ (parse bs).keys
  unfolding parse
  keys_parsed = rw readable.told.keys

  pending_parsed : read_run claim s.pending (drop (count_width + key_width * s.keys + count_width) bs) ≡ (parse bs).pending
  unfolding parse
  pending_parsed = rw (readable.told.keys, readable.told.pending, ← drop-drop count_width (section_length key_section (count_of bs)) bs)

  pub contents_read : {t : Table}
      → t ≡ table_by (put_at (blanks table_limit) 0 (read_run claim s.pending (drop (count_width + key_width * s.keys + count_width) bs))) s.pending
      → rest_given (record { held = s.keys; pending = t }) ≡ read_image_in bs
  unfolding read_image_in node_of store_of blanks
  contents_read {t} e =
      let cs = (parse bs).pending in
      let q : t.claims ≡ cs ++ replicate (table_limit - length cs) no_claim =
      ap (λ (x : Table). x.claims) e ∙ rw pending_parsed (put_at_replicate cs table_limit no_claim) in
      let u : s.keys ≡ length (parse bs).keys = sym (length_read_run key s.keys (drop count_width bs)) ∙ ap length keys_parsed in
      let v : t.count ≡ length cs =
      ap (λ (x : Table). x.count) e
      ∙ (sym (length_read_run claim s.pending (drop (count_width + key_width * s.keys + count_width) bs)) ∙ ap length pending_parsed) in
      (λ i. record { number = 0; held = u i; table = q i; count = v i }) ∙ rw (whole_told readable.told)

  pub contents_lent : (keys : List ℕ) {ks : List ℕ} → length keys ≡ limit → ks ≡ read_run key (length (take s.keys keys)) (drop count_width bs)
      → ks ++ drop s.keys keys ≡ read_image_in_lent bs keys
  unfolding read_image_in_lent
  contents_lent keys {ks} all read =
      let places : length (take s.keys keys) ≡ s.keys = length-take-le s.keys keys (rw all readable.few.keys) in
      let is : ks ≡ read_run key s.keys (drop count_width bs) = read ∙ rw places in
      let long : length ks ≡ s.keys = ap length is ∙ length_read_run key s.keys (drop count_width bs) in
      let put : ks ++ drop s.keys keys ≡ put_at keys 0 ks = sym (put_at_zero keys ks ∙ rw long) in
      put ∙ (ap (put_at keys 0) (is ∙ keys_parsed) ∙ rw (whole_told readable.told))

-- ---- read_image

pub image_unread : (bs : List ℕ) (r : Refusal) → no_rest (refusal_number r) ≡ read_image_in bs → no_image (refusal_number r) ≡ read_image bs
image_unread bs r read = read_image_in_refused bs read (refusal_number_ne r)

module _ (bs : List ℕ) {s : Store} (empty : s ≡ empty_store) {r : Rest} (read : r ≡ read_image_in bs) {ks : List ℕ} (lent : ks ≡ read_image_in_lent bs s.keys) where
  fresh : ks ≡ read_image_in_lent bs empty_store.keys
  fresh = lent ∙ ap (λ (x : Store). read_image_in_lent bs x.keys) empty

  pub image_part : length ks ≡ limit → r.held ≡ length (take r.held ks)
  image_part = read_image_in_part bs read fresh

  module _ {a : Rest} (admitted : a ≡ admit_in (take r.held ks) r) where
    pub image_refused : (q : Refusal) → a.number ≡ refusal_number q → no_image (refusal_number q) ≡ read_image bs
    image_refused q e = rw (← e) (read_image_no bs read fresh admitted (λ z. refusal_number_ne q (sym e ∙ z)))

    pub image_read : a.number ≡ 0 → length ks ≡ limit → (t : Store) → t ≡ renewed_from 0 (store_by ks s.sums a.held)
        → record { number = 0; node = record { store = t; pending = table_by a.table a.count } } ≡ read_image bs
    unfolding empty_store
    image_read z long t anew =
        let sums = resummed_zeros ks a.held long (read_image_held bs read fresh admitted) in
        let store : t ≡ store_with ks a.held =
        anew ∙ (ap (λ (x : Store). renewed_from 0 (store_by ks x.sums a.held)) empty ∙ (λ i. store_by ks (sums i) a.held)) in
        (λ i. record { number = 0; node = record { store = store i; pending = table_by a.table a.count } }) ∙ read_image_lent bs read fresh admitted z

-- .. where both calls answer with what stands beside the keys: x what was read
module _ (bs : List ℕ) (s : Store) (ks : List ℕ) (x : Beside) (empty : s ≡ empty_store) (read : rest_given x ≡ read_image_in bs)
    (lent : ks ≡ read_image_in_lent bs s.keys) where
  pub told_part : length ks ≡ limit → x.held ≡ length (take x.held ks)
  told_part = image_part bs empty read lent

  pub told_refused : (r : Refusal) → rest_by x (Err r) ≡ admit_in (take x.held ks) (rest_given x) → imaged_by (Err r) ≡ read_image bs
  told_refused r admitted = image_refused bs empty read lent admitted r refl

-- ---- put_image: a count and the things right after it, and a section right after another

pub section_put : {A : Type 0} (l : Layout A) (out : List ℕ) (at : ℕ) (xs : List A) {o₁ o₂ : List ℕ} → at + count_width ≤ length out
    → o₁ ≡ put_at out at (bytes count_width (length xs)) → o₂ ≡ put_at o₁ (at + count_width) (write_run l xs) → o₂ ≡ put_at out at (section_bytes l xs)
section_put l out at xs room e₁ e₂ =
    put_at_then out at (at + count_width) (bytes count_width (length xs)) (write_run l xs) (omega (arith, length_bytes count_width (length xs))) room e₁ e₂

module _ (ks : List ℕ) (cs : List Claim) (out : List ℕ) (room : length (image_bytes ks cs) ≤ length out) where
  pub keys_room : section_length key_section (length ks) ≤ length out
  keys_room = let long = length_image_bytes ks cs in omega arith

  pub pending_room : section_length key_section (length ks) + count_width + claim_size * length cs ≤ length out
  pending_room = let long = length_image_bytes ks cs in omega arith

  pub image_put : {o₁ o₂ : List ℕ} → o₁ ≡ put_at out 0 (section_bytes key ks)
      → o₂ ≡ put_at o₁ (section_length key_section (length ks)) (section_bytes claim cs) → o₂ ≡ put_at out 0 (image_bytes ks cs)
  unfolding image_bytes
  image_put e₁ e₂ =
      let size = length_section_bytes key_faithful ks in
      let long : section_length key_section (length ks) ≡ 0 + length (section_bytes key ks) = omega arith in
      put_at_then out 0 (section_length key_section (length ks)) (section_bytes key ks) (section_bytes claim cs) long keys_room e₁ e₂

-- ---- write_parts

module _ (n : Node) (out : List ℕ) where
  pub write_in_1 : false ≡ within_limits n.store.keys n.store.count n.pending.count → (no_length 1 ≡ write_image_in n (length out)) × (out ≡ image_in_lent n out)
  unfolding write_image_in image_in_lent
  write_in_1 e = (rw (← e), rw (← e))

  -- k is how long the image is
  module _ (fits : true ≡ within_limits n.store.keys n.store.count n.pending.count) (all : length n.pending.claims ≡ table_limit)
      {k : ℕ} (told : k ≡ length_of (record { keys = n.store.count; pending = n.pending.count })) where
    long_is : k ≡ length (node_bytes n)
    long_is =
        let (long, few, several) = within_limits_yes n.store.keys n.store.count n.pending.count (sym fits) in
        told ∙ rw (length_node_bytes n long all few several)

    pub write_in_15 : length out < k → (no_length 15 ≡ write_image_in n (length out)) × (out ≡ image_in_lent n out)
    unfolding write_image_in image_in_lent
    write_in_15 h = let l = lt-leb (length (node_bytes n)) (length out) (rw (← long_is) h) in (rw (← fits, l), rw (← fits, l))

    module _ (enough : k ≤ length out) where
      pub write_in_room : length (node_bytes n) ≤ length out
      write_in_room = rw (← long_is) enough

      pub write_in_done : {after : List ℕ} → after ≡ put_at out 0 (node_bytes n)
          → (record { number = 0; length = k } ≡ write_image_in n (length out)) × (after ≡ image_in_lent n out)
      write_in_done put =
          let w = write_image_in_0 n out (sym fits) write_in_room in
          ((λ i. record { number = 0; length = long_is i }) ∙ w.0, put ∙ w.1)

-- ---- write_image

module _ (n : Node) (out : List ℕ) where
  pub write_image_1 : false ≡ node_in_order n → (no_length 1 ≡ write_image n (length out)) × (out ≡ image_lent n out)
  unfolding write_image image_lent
  write_image_1 e = (rw (← e), rw (← e))

  -- an image has no sums
  pub write_image_done : true ≡ node_in_order n → length n.store.keys ≡ limit → {r : Length} {after : List ℕ}
      → r ≡ write_image_in (node_with n.store.keys n.store.count n.pending) (length out)
      → after ≡ image_in_lent (node_with n.store.keys n.store.count n.pending) out
      → (r ≡ write_image n (length out)) × (after ≡ image_lent n out)
  unfolding write_image_in image_in_lent
  write_image_done e long p q = (p ∙ write_image_in_write_image n out long (sym e), q ∙ image_in_lent_image_lent n out long (sym e))
