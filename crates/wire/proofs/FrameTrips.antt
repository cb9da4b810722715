-- The round trips of frames, over the definitions that the contracts of `read_frame` and `write_frame` cite: every frame of claims that pass is accepted, and
-- read as these; a frame that is written is read as the same contents, and one that is accepted is written again as the same bytes. The lemmas come first, the
-- theorems last. Assumes nothing.
use Prim.Native.Nat.{ℕ, suc, ◌*◌, ◌≤◌}
use native.Mathlib.Omega.{arith}
use mathlib.Core.Bool.{true, ◌&&◌}
use mathlib.Core.List.{List, [], ◌∷◌, append-nil}
use mathlib.Core.Path.{◌≡◌, ap, sym, ◌∙◌}
use borrow.Author.Tests.{le-leb, eqb-true, eq-eqb}
use lib.Dec.{leb, eqb}
use lib.ListN.{length, take, drop, get_or}
use lib.Seq.{take_all, length-take-le}
use Rattle.keys.specs.Place.{put_at}
use Rattle.keys.proofs.Tests.{and_left, and_right}
use Rattle.keys.proofs.PlaceLaws.{take_front}
use Rattle.claims.specs.declared.claim.Claim.{Claim}
use Rattle.claims.specs.Question.{first_no}
use Rattle.wire.specs.Number.{byte, Below}
use Rattle.wire.specs.Claim.{claim_size, ClaimFits}
use Rattle.wire.specs.Run.{claim, read_run, write_run, Each}
use Rattle.wire.specs.Frame.{version, version_place, frame_limit, head_size, frame_length, frame_most, head_bytes, frame_bytes, frame_count}
use Rattle.wire.specs.Frame.{frame_claims, marked, sized, head_questions, all_pass, four_of, read_frame, write_frame_questions, write_frame, frame_lent}
use Rattle.wire.proofs.RunLaws.{each_take, claim_faithful, length_read_run, length_write_run, read_run_write_run, write_run_read_run}
use Rattle.wire.proofs.FrameLaws.{head_yes, sized_yes, read_frame_0, writable_0, writable_yes, write_frame_0, countable_of, countable_yes}
use Rattle.wire.proofs.FrameLaws.{take_four_of, read_frame_number, read_frame_yes, write_frame_number, frame_lent_yes}

-- ---- a frame's bytes are read as its claims

pub length_frame_bytes : (cs : List Claim) → length (frame_bytes cs) ≡ frame_length (length cs)
unfolding frame_bytes head_bytes
length_frame_bytes cs = let e : length (write_run claim cs) ≡ claim_size * length cs = length_write_run claim_faithful cs in omega arith

frame_claims_frame_bytes : (cs : List Claim) → Each ClaimFits cs → frame_claims (frame_bytes cs) ≡ cs
unfolding frame_bytes head_bytes
frame_claims_frame_bytes cs f = rw (append-nil (write_run claim cs)) at (read_run_write_run claim_faithful cs f [])

head_frame_bytes : (cs : List Claim) → 1 ≤ length cs → length cs ≤ frame_limit → first_no (head_questions (frame_bytes cs)) ≡ 0
unfolding frame_bytes head_bytes marked sized
head_frame_bytes cs p q =
    let e : length (write_run claim cs) ≡ claim_size * length cs = length_write_run claim_faithful cs in
    let m : marked (frame_bytes cs) ≡ true = rw (le-leb head_size (suc (suc (suc (suc (length (write_run claim cs)))))) (omega arith)) in
    let s : sized (frame_bytes cs) ≡ true = rw (countable_of (length cs) p q) (eq-eqb _ _ (length_frame_bytes cs)) in
    rw (m, s)

-- ---- a frame's claims are written as its bytes

frame_bytes_frame_claims : (bs : List ℕ) → Below byte bs → marked bs ≡ true → get_or bs version_place 0 ≡ version → length bs ≡ frame_length (frame_count bs)
    → frame_bytes (frame_claims bs) ≡ bs
unfolding frame_bytes head_bytes marked
frame_bytes_frame_claims [] h m v e = absurd (let z : ⊥ = omega arith in z)
frame_bytes_frame_claims (a ∷ []) h m v e = absurd (let z : ⊥ = omega arith in z)
frame_bytes_frame_claims (a ∷ (b ∷ [])) h m v e = absurd (let z : ⊥ = omega arith in z)
frame_bytes_frame_claims (a ∷ (b ∷ (d ∷ []))) h m v e = absurd (let z : ⊥ = omega arith in z)
frame_bytes_frame_claims (a ∷ (b ∷ (d ∷ (n ∷ bs)))) h m v e =
    let both = and_right (leb head_size (suc (suc (suc (suc (length bs)))))) (eqb a 0x4C && (eqb b 0x43 && true)) m in
    let first = eqb-true a 0x4C (and_left (eqb a 0x4C) (eqb b 0x43 && true) both) in
    let second = eqb-true b 0x43 (and_left (eqb b 0x43) true (and_right (eqb a 0x4C) (eqb b 0x43 && true) both)) in
    let long : length bs ≡ claim_size * n = omega arith in
    let count = length_read_run claim n bs in
    let rest : write_run claim (read_run claim n bs) ≡ bs =
    write_run_read_run claim_faithful n bs (λ (i : ℕ). h (suc (suc (suc (suc i))))) (omega arith) ∙ take_all (claim_size * n) bs (omega arith) in
    λ i. sym first i ∷ (sym second i ∷ (sym v i ∷ (count i ∷ rest i)))

-- ---- the theorems

-- "At most 108 bytes."
pub frame_at_most : (cs : List Claim) → length cs ≤ frame_limit → length (frame_bytes cs) ≤ frame_most
frame_at_most cs h = rw length_frame_bytes (omega arith)

-- Every frame of one to four claims that pass 13 is accepted, and read as these claims.
pub frame_accepted : (cs : List Claim) → Each ClaimFits cs → 1 ≤ length cs → length cs ≤ frame_limit → all_pass cs ≡ true
    → read_frame (frame_bytes cs) ≡ record { number = 0; claims = four_of cs; count = length cs }
unfolding frame_bytes head_bytes
frame_accepted cs f p q a =
    let c : frame_claims (frame_bytes cs) ≡ cs = frame_claims_frame_bytes cs f in
    let r = read_frame_0 (frame_bytes cs) (head_frame_bytes cs p q) (rw c a) in
    sym r ∙ (λ i. record { number = 0; claims = four_of (c i); count = length cs })

-- A frame that is written is read as the same contents: the claims that were given, with zeros past the count. (The claims' fields fit their
-- widths, as those of every claim that the code holds do.)
pub frame_written_is_read : (cs : List Claim) (n : ℕ) (out : List ℕ) → length cs ≡ frame_limit → Each ClaimFits cs → (write_frame cs n (length out)).number ≡ 0
    → read_frame (take (write_frame cs n (length out)).length (frame_lent cs n out)) ≡ record { number = 0; claims = four_of (take n cs); count = n }
frame_written_is_read cs n out long fit done =
    let e = sym (write_frame_number cs n (length out)) ∙ done in
    let y = writable_yes cs n (length out) e in
    let z = countable_yes n y.0 in
    let count : length (take n cs) ≡ n = length-take-le n cs (rw long z.1) in
    let written : (write_frame cs n (length out)).length ≡ frame_length n = λ i. (sym (write_frame_0 cs n (length out) e) i).length in
    let front : take (frame_length n) (put_at out 0 (frame_bytes (take n cs))) ≡ frame_bytes (take n cs) =
    take_front out (frame_bytes (take n cs)) (frame_length n) (length_frame_bytes (take n cs) ∙ ap frame_length count) in
    let read = frame_accepted (take n cs) (each_take ClaimFits n cs fit) (rw count z.0) (rw count z.1) y.1 in
    rw (written, frame_lent_yes cs n out e, front) (read ∙ (λ i. record { number = 0; claims = four_of (take n cs); count = count i }))

-- A frame that is accepted is written again as the same bytes, past which the buffer keeps its contents.
pub frame_read_is_written : (bs out : List ℕ) → Below byte bs → (read_frame bs).number ≡ 0 → length bs ≤ length out
    → (write_frame (read_frame bs).claims (read_frame bs).count (length out) ≡ record { number = 0; length = length bs })
    × (frame_lent (read_frame bs).claims (read_frame bs).count out ≡ put_at out 0 bs)
frame_read_is_written bs out below done room =
    let e = sym (read_frame_number bs) ∙ done in
    let (h, pass) = read_frame_yes bs e in
    let y = head_yes bs h in
    let z = sized_yes bs y.2 in
    let n = frame_count bs in
    let cs = four_of (frame_claims bs) in
    let front : take n cs ≡ frame_claims bs = take_four_of (frame_claims bs) n (length_read_run claim n (drop head_size bs)) in
    let w : first_no (write_frame_questions cs n (length out)) ≡ 0 =
    sym (writable_0 cs n (length out) (countable_of n z.0 z.1) (rw front pass) (rw (← z.2) room)) in
    let same : frame_bytes (take n cs) ≡ bs = rw front (frame_bytes_frame_claims bs below y.0 y.1 z.2) in
    let read : record { number = 0; claims = cs; count = n } ≡ read_frame bs = read_frame_0 bs h pass in
    let told = sym (write_frame_0 cs n (length out) w) ∙ (λ i. record { number = 0; length = sym z.2 i }) in
    rw (← read) (told, frame_lent_yes cs n out w ∙ ap (put_at out 0) same)
