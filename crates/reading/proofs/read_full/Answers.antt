-- A turn of `read_full`: what the read gave stands behind what was read before. Assumes nothing.
use Rattle.std.proofs.Common.{◌≡◌, ℕ, ◌+◌, ◌-◌, ◌≤◌, List, ◌++◌, rules, length, take, sym, ap, ◌∙◌, subst, length-take-le}
use Rattle.std.specs.Io.KnownBytes.{Consumes}
use Rattle.std.proofs.KnownBytes.{Consumes-trans}
use Rattle.std.proofs.lemmas.List.{take-append-le}
use Rattle.std.proofs.Math.Seq.{take-append-add}
use borrow.Rule.Slice.PartMut.{put_mid, post_of}
use Rattle.reading.proofs.read_full.Goals as goal

-- the front of a buffer, once n more bytes of it are read
front_read : (a k n : ℕ) (xs ys : List ℕ) → a ≤ length xs → n ≤ length ys → take a xs ++ take n ys ≡ take (a + n) (put_mid a k xs ys)
front_read a k n xs ys within fits =
    let front = take a xs in
    let long : length front ≡ a = length-take-le a xs within in
    ap (λ l. front ++ l) (sym (take-append-le n ys (post_of a k xs) fits))
    ∙ sym (take-append-add front (ys ++ post_of a k xs) n) ∙ ap (λ m. take (m + n) (front ++ (ys ++ post_of a k xs))) long

pub loop-done-preserved : goal.loop-done-preserved
loop-done-preserved g c =
    let (_, within, read) = c.loop-done.invariant in
    let front = front_read _ (length c.loop-done.buffer - c.loop-done.done) _ c.loop-done.buffer _ within c.in_ok-n.ensures.bound.0 in
    (search rules, search rules, subst (Consumes _ _) front (Consumes-trans _ _ _ _ _ read c.in_ok-n.ensures.bytes.0))
