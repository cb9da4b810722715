-- The round trips of images, over the definitions that the contracts of `read_image` and `write_image` cite: every image of a node in order is
-- accepted, and read as that node; bytes that begin with one tell its length; no two nodes in order have the same image; an image that is written is
-- read as the same node; one that is accepted holds a node in order, and is written again as the same bytes, without the claims that were left out. The
-- lemmas come first, the theorems last. Assumes nothing.
use Prim.Native.Nat.{ℕ, ◌+◌, ◌^◌, ◌≤◌, ◌<◌}
use native.Mathlib.Omega.{arith}
use mathlib.Core.Bool.{true}
use mathlib.Core.List.{List, [], ◌++◌, append-nil, append_assoc}
use mathlib.Core.Path.{◌≡◌, refl, ap, sym, ◌∙◌, subst}
use borrow.Author.Tests.{le-leb}
use lib.ListN.{length, take, length-append, length-drop, drop_of_length-le}
use Rattle.keys.specs.Store.{limit}
use Rattle.keys.specs.Place.{put_at}
use Rattle.keys.proofs.PlaceLaws.{take_front}
use Rattle.claims.specs.declared.claim.Claim.{Claim}
use Rattle.claims.specs.Reply.{same}
use Rattle.rule.specs.declared.node.Node.{Node}
use Rattle.rule.specs.Table.{table_limit}
use Rattle.rule.specs.Node.{node_keys, pending_of, node_of, all_tell, saved_in_order, node_in_order}
use Rattle.rule.proofs.NodeLaws.{node_in_order_ordered, ordered_node_in_order, saved_in_order_saved, saved_saved_in_order, ordered_saved, ordered_tells}
use Rattle.rule.proofs.NodeLaws.{telling_all, ordered_telling, node_of_same, node_keys_node_of, pending_of_node_of}
use Rattle.wire.specs.Number.{byte, Below}
use Rattle.wire.specs.Claim.{key_width, count_width, ClaimFits}
use Rattle.wire.specs.Run.{key, claim, Each}
use Rattle.wire.specs.Image.{key_section, claim_section, sections, section_length, image_limit, section_bytes, image_bytes, node_bytes, Shaped}
use Rattle.wire.specs.Image.{Contents, NodeFits, count_of, behind, count_fits, counts_fit, told_length, things_in, parse, node_from, read_image, write_image}
use Rattle.wire.specs.Image.{used, used_bytes, image_lent, image_length}
use Rattle.wire.specs.Sizes.{AsTold}
use Rattle.wire.proofs.NumberLaws.{below_drop}
use Rattle.wire.proofs.RunLaws.{each_take, key_faithful, claim_faithful}
use Rattle.wire.proofs.ImageLaws.{ordered_counts, length_node_bytes, length_node_keys, length_pending, read_image_0, read_image_yes, write_image_0}
use Rattle.wire.proofs.ImageLaws.{write_image_yes}
use Rattle.wire.proofs.SectionLaws.{length_section_bytes, count_of_section, things_in_section, behind_section, count_fits_section, section_bytes_things_in}

-- ---- an image's bytes are read as its keys and claims, whatever follows them

module _ (ks : List ℕ) (cs : List Claim) (few : length ks ≤ limit) (several : length cs ≤ table_limit) where
  small : length ks < byte ^ count_width
  small = omega arith

  little : length cs < byte ^ count_width
  little = omega arith

  module _ (rest : List ℕ) where
    front : image_bytes ks cs ++ rest ≡ section_bytes key ks ++ (section_bytes claim cs ++ rest)
    unfolding image_bytes
    front = append_assoc (section_bytes key ks) (section_bytes claim cs) rest

    front_behind : behind key_section (image_bytes ks cs ++ rest) ≡ section_bytes claim cs ++ rest
    front_behind = rw front (behind_section key_faithful ks (section_bytes claim cs ++ rest) small)

    front_keys : count_of (image_bytes ks cs ++ rest) ≡ length ks
    front_keys = rw front (count_of_section key_faithful ks (section_bytes claim cs ++ rest) small)

    front_pending : count_of (behind key_section (image_bytes ks cs ++ rest)) ≡ length cs
    front_pending = rw front_behind (count_of_section claim_faithful cs rest little)

    front_counts : counts_fit sections (image_bytes ks cs ++ rest) ≡ true
    unfolding counts_fit
    front_counts =
        let r : count_fits limit (image_bytes ks cs ++ rest) ≡ true = rw front (count_fits_section key_faithful ks (section_bytes claim cs ++ rest) small limit few) in
        let s : count_fits table_limit (behind key_section (image_bytes ks cs ++ rest)) ≡ true =
        rw front_behind (count_fits_section claim_faithful cs rest little table_limit several) in
        rw (r, s)

    front_length : told_length sections (image_bytes ks cs ++ rest) ≡ length (image_bytes ks cs)
    unfolding told_length image_bytes
    front_length =
        let p = front_keys in
        let q = front_pending in
        let long : length (image_bytes ks cs) ≡ section_length key_section (length ks) + section_length claim_section (length cs) =
        rw (length-append (section_bytes key ks), length_section_bytes key_faithful, length_section_bytes claim_faithful) in
        omega arith

    front_parse : Each (λ (k : ℕ). k < byte ^ key_width) ks → Each ClaimFits cs → parse (image_bytes ks cs ++ rest) ≡ record { keys = ks; pending = cs }
    unfolding parse
    front_parse f g =
        let p : things_in key (image_bytes ks cs ++ rest) ≡ ks = rw front (things_in_section key_faithful ks (section_bytes claim cs ++ rest) small f) in
        let q : things_in claim (behind key_section (image_bytes ks cs ++ rest)) ≡ cs = rw front_behind (things_in_section claim_faithful cs rest little g) in
        λ i. record { keys = p i; pending = q i }

  -- nothing follows

  parse_image_bytes : Each (λ (k : ℕ). k < byte ^ key_width) ks → Each ClaimFits cs → parse (image_bytes ks cs) ≡ record { keys = ks; pending = cs }
  parse_image_bytes f g = ap parse (sym (append-nil (image_bytes ks cs))) ∙ front_parse [] f g

  image_bytes_told : AsTold (image_bytes ks cs) (length ks) (length cs)
  image_bytes_told =
      subst (λ (bs : List ℕ). AsTold bs (length ks) (length cs)) (append-nil (image_bytes ks cs))
      (record {
        counts = front_counts [];
        whole = omega (arith, front_length [], length-append (image_bytes ks cs) []);
        keys = sym (front_keys []);
        pending = sym (front_pending []);
      })

-- ---- an image's keys and claims are written as its bytes

image_bytes_parse : (bs : List ℕ) → Below byte bs → length bs ≡ told_length sections bs → image_bytes (parse bs).keys (parse bs).pending ≡ bs
unfolding image_bytes parse told_length
image_bytes_parse bs below whole =
    let tail = behind key_section bs in
    let rest : length tail ≡ section_length claim_section (count_of tail) = rw length-drop (omega arith) in
    let last : section_bytes claim (things_in claim tail) ≡ tail =
    let e = section_bytes_things_in claim_faithful tail (below_drop (section_length key_section (count_of bs)) bs below) (omega arith) in
    let none : behind claim_section tail ≡ [] = drop_of_length-le tail {i = section_length claim_section (count_of tail)} (omega arith) in
    sym (append-nil (section_bytes claim (things_in claim tail))) ∙ (ap (λ (l : List ℕ). section_bytes claim (things_in claim tail) ++ l) (sym none) ∙ e) in
    rw last (section_bytes_things_in key_faithful bs below (omega arith))

-- ---- the theorems

-- no image is longer than the longest (its size: `image_size`)
pub image_at_most : (n : Node) → Shaped n → node_in_order n ≡ true → length (node_bytes n) ≤ image_limit
image_at_most n shaped e = let (few, several) = ordered_counts n e in rw (length_node_bytes n shaped.store.keys shaped.pending few several) (omega arith)

-- Every image of a node in order is accepted, and read as that node.
pub image_accepted : (n : Node) → NodeFits n → node_in_order n ≡ true → read_image (node_bytes n) ≡ record { number = 0; node = n }
image_accepted n fit e =
    let (few, several) = ordered_counts n e in
    let ks = node_keys n in
    let cs = pending_of n in
    let k : length ks ≤ limit = rw (length_node_keys n fit.shaped.store.keys fit.shaped.pending few several) few in
    let c : length cs ≤ table_limit = rw (length_pending n fit.shaped.store.keys fit.shaped.pending few several) several in
    let parsed =
    parse_image_bytes ks cs k c (each_take _ n.store.count n.store.keys fit.keys) (each_take ClaimFits n.pending.count n.pending.claims fit.pending) in
    let o = node_in_order_ordered n e in
    let same : n ≡ node_of ks cs = node_of_same n fit.shaped.store fit.shaped.pending o in
    let saved : saved_in_order (node_from (parse (node_bytes n))) ≡ true = rw (ap node_from parsed, ← same) (saved_saved_in_order n (ordered_saved n o)) in
    let node : node_from (used (parse (node_bytes n))) ≡ n =
    ap (λ (x : Contents). node_from (used x)) parsed ∙ (ap (node_of ks) (telling_all cs (ordered_tells n o)) ∙ sym same) in
    sym (read_image_0 (image_bytes_told ks cs k c) saved) ∙ (λ i. record { number = 0; node = node i })

-- Bytes that begin with the image of a node in order tell its length.
pub image_length_is_told : (n : Node) (rest : List ℕ) → Shaped n → node_in_order n ≡ true
    → image_length (node_bytes n ++ rest) ≡ record { number = 0; length = length (node_bytes n) }
unfolding image_length
image_length_is_told n rest shaped e =
    let (few, several) = ordered_counts n e in
    let k : length (node_keys n) ≤ limit = rw (length_node_keys n shaped.store.keys shaped.pending few several) few in
    let c : length (pending_of n) ≤ table_limit = rw (length_pending n shaped.store.keys shaped.pending few several) several in
    let long : length (node_bytes n) ≤ length (node_bytes n ++ rest) = rw (length-append (node_bytes n) rest) (omega arith) in
    let counts = front_counts (node_keys n) (pending_of n) k c rest in
    let told = front_length (node_keys n) (pending_of n) k c rest in
    rw (counts, told, le-leb (length (node_bytes n)) (length (node_bytes n ++ rest)) long)

-- No two nodes in order have the same image.
pub image_tells_node : (n m : Node) → NodeFits n → NodeFits m → node_in_order n ≡ true → node_in_order m ≡ true → node_bytes n ≡ node_bytes m → n ≡ m
image_tells_node n m fn fm en em same = λ i. ((sym (image_accepted n fn en) ∙ (ap read_image same ∙ image_accepted m fm em)) i).node

-- An image that is written is read as the same node.
pub image_written_is_read : (n : Node) (out : List ℕ) → NodeFits n → (write_image n (length out)).number ≡ 0
    → read_image (take (write_image n (length out)).length (image_lent n out)) ≡ record { number = 0; node = n }
image_written_is_read n out fit done =
    let (o, room) = write_image_yes n out done in
    let (w, lent) = write_image_0 n out o room in
    let long : (write_image n (length out)).length ≡ length (node_bytes n) = λ i. (sym w i).length in
    let front : take (length (node_bytes n)) (put_at out 0 (node_bytes n)) ≡ node_bytes n = take_front out (node_bytes n) _ refl in
    rw (long, ← lent, front) (image_accepted n fit o)

-- The node of an image that is accepted is in order, as a node that is given: 16 included.
pub image_read_ordered : (bs : List ℕ) → (read_image bs).number ≡ 0 → node_in_order (read_image bs).node ≡ true
image_read_ordered bs done =
    let (told, saved) = read_image_yes bs done in
    rw (← read_image_0 told saved)
    (ordered_node_in_order _ (ordered_telling (parse bs).keys (parse bs).pending (saved_in_order_saved (node_from (parse bs)) saved)))

-- its image is that of the bytes, without the claims that were left out
pub image_read_bytes : (bs : List ℕ) → (read_image bs).number ≡ 0 → node_bytes (read_image bs).node ≡ used_bytes bs
image_read_bytes bs done =
    let (told, saved) = read_image_yes bs done in
    rw (← read_image_0 told saved, node_keys_node_of, pending_of_node_of)

-- "Such an image is written back without it" (document 02, slip 2): an image that is accepted is written as its own bytes but for the claims that were left
-- out, past which the buffer keeps its contents.
pub image_read_is_written_without : (bs out : List ℕ) → (read_image bs).number ≡ 0 → length (used_bytes bs) ≤ length out
    → (write_image (read_image bs).node (length out) ≡ record { number = 0; length = length (used_bytes bs) })
    × (image_lent (read_image bs).node out ≡ put_at out 0 (used_bytes bs))
image_read_is_written_without bs out done room =
    let n = (read_image bs).node in
    let same = image_read_bytes bs done in
    let (w, lent) = write_image_0 n out (image_read_ordered bs done) (rw same room) in
    (sym w ∙ (λ i. record { number = 0; length = length (same i) }), sym lent ∙ ap (put_at out 0) same)

-- where none is left out, all bytes of an image are used
pub image_all_used : (bs : List ℕ) → Below byte bs → (read_image bs).number ≡ 0 → all_tell (parse bs).pending ≡ true → used_bytes bs ≡ bs
image_all_used bs below done none =
    ap (image_bytes (parse bs).keys) (telling_all (parse bs).pending none) ∙ image_bytes_parse bs below (read_image_yes bs done).0.whole

-- .. "so the same-bytes rule holds for images that have none": one that is accepted and holds no claim that fails 16 is written again as the same bytes.
pub image_read_is_written : (bs out : List ℕ) → Below byte bs → (read_image bs).number ≡ 0 → all_tell (parse bs).pending ≡ true → length bs ≤ length out
    → (write_image (read_image bs).node (length out) ≡ record { number = 0; length = length bs }) × (image_lent (read_image bs).node out ≡ put_at out 0 bs)
image_read_is_written bs out below done none room =
    let same : used_bytes bs ≡ bs = image_all_used bs below done none in
    rw same at (image_read_is_written_without bs out done (rw same room))
