-- Laws of specs/Frame: what each question's yes tells, what the calls return once 10 to 13, or 12, 13 and 15, are answered, and the claims with zeros
-- past them. Not here: the ways of the code (FramePaths) and the round trips (FrameTrips). Assumes nothing.
use Prim.Native.Nat.{ℕ, ◌-◌, ◌≤◌}
use mathlib.Core.Bool.{true}
use mathlib.Core.List.{List, [], ◌∷◌}
use mathlib.Core.Path.{◌≡◌, refl, sym}
use borrow.Author.Tests.{ne_eqb, le-leb, leb-true, eqb-true, eq-eqb}
use lib.Dec.{leb, eqb, lit<}
use lib.ListN.{length, take, get_or}
use lib.Seq.{take_at}
use Rattle.keys.specs.Place.{put_at}
use Rattle.keys.proofs.Tests.{and_left, and_right}
use Rattle.keys.proofs.PlaceLaws.{put_at_replicate}
use Rattle.claims.specs.declared.claim.Claim.{Claim}
use Rattle.claims.specs.Claim.{no_claim}
use Rattle.claims.specs.Question.{first_no}
use Rattle.claims.proofs.QuestionLaws.{Numbered, first_no_zero, first_no_front, settle_done, settle_number}
use Rattle.rule.specs.Node.{blanks}
use Rattle.rule.specs.Question.{question15}
use Rattle.claims.specs.declared.refusal.Refusal.{Refusal}
use Rattle.claims.specs.Refusal.{refusal_number, number_told}
use Rattle.claims.proofs.RefusalLaws.{refusal_number_ne}
use Rattle.std.specs.Prelude.{Result, Ok, Err, is_ok}
use Rattle.wire.specs.Answer.{Framed, Length}
use Rattle.wire.specs.Claim.{claim_size}
use Rattle.wire.specs.Length.{no_length}
use Rattle.wire.specs.Frame.{version, frame_limit, version_place, head_size, frame_length, frame_most, head_bytes, frame_bytes, frame_count, frame_claims}
use Rattle.wire.specs.Frame.{marked, question10, question11, countable, sized, question12n, question12, all_pass, question13, four_of}
use Rattle.wire.specs.Frame.{head_questions}
use Rattle.wire.specs.Frame.{read_frame_questions, no_frame, read_frame, write_frame_questions, write_frame, frame_lent}

-- the sizes that document 01 names
pub frame_sizes : (claim_size ≡ 26) × (frame_most ≡ 108)
frame_sizes = (refl, refl)

-- ---- the questions of a frame

-- they have numbers
pub frame_numbered : (bs : List ℕ) → Numbered (read_frame_questions bs)
frame_numbered bs = (lit< tt, (lit< tt, (lit< tt, (lit< tt, tt))))

pub countable_yes : (n : ℕ) → countable n ≡ true → (1 ≤ n) × (n ≤ frame_limit)
unfolding countable
countable_yes n h = (leb-true 1 n (and_left (leb 1 n) (leb n frame_limit) h), leb-true n frame_limit (and_right (leb 1 n) (leb n frame_limit) h))

pub countable_of : (n : ℕ) → 1 ≤ n → n ≤ frame_limit → countable n ≡ true
unfolding countable
countable_of n p q = rw (le-leb 1 n p, le-leb n frame_limit q)

-- a frame that passes 12 has from 1 to 4 claims, and their length
pub sized_yes : (bs : List ℕ) → sized bs ≡ true → (1 ≤ frame_count bs) × (frame_count bs ≤ frame_limit) × (length bs ≡ frame_length (frame_count bs))
unfolding sized
sized_yes bs h =
    let n = frame_count bs in
    let y = countable_yes n (and_left (countable n) (eqb (length bs) (frame_length n)) h) in
    (y.0, y.1, eqb-true (length bs) (frame_length n) (and_right (countable n) (eqb (length bs) (frame_length n)) h))

pub head_yes : (bs : List ℕ) → first_no (head_questions bs) ≡ 0 → (marked bs ≡ true) × (get_or bs version_place 0 ≡ version) × (sized bs ≡ true)
head_yes bs h =
    let (m, h₁) = first_no_zero (question10 bs) (question11 bs ∷ question12 bs ∷ []) (lit< tt) h in
    let (v, h₂) = first_no_zero (question11 bs) (question12 bs ∷ []) (lit< tt) h₁ in
    (m, eqb-true (get_or bs version_place 0) version v, (first_no_zero (question12 bs) [] (lit< tt) h₂).0)

-- a claim that is not refused passes 13
pub passes_is : {A : Type 0} (r : Result A Refusal) {k : ℕ} → number_told r ≡ k → is_ok r ≡ eqb k 0
passes_is (Ok x) e = rw (← e)
passes_is (Err r) e = rw (← e, ne_eqb (refusal_number r) 0 (refusal_number_ne r))

-- ---- the claims, with zeros past them

pub blanks_four : no_claim ∷ (no_claim ∷ (no_claim ∷ (no_claim ∷ []))) ≡ blanks frame_limit
unfolding blanks
blanks_four = refl

pub put_at_four : (cs : List Claim) → put_at (blanks frame_limit) 0 cs ≡ four_of cs
unfolding blanks
put_at_four cs = put_at_replicate cs frame_limit no_claim

-- what stands before the zeros is what was read
pub take_four_of : (cs : List Claim) (n : ℕ) → length cs ≡ n → take n (four_of cs) ≡ cs
take_four_of cs n e = take_at cs (blanks (frame_limit - length cs)) n e

-- ---- reading

pub read_frame_number : (bs : List ℕ) → (read_frame bs).number ≡ first_no (read_frame_questions bs)
unfolding read_frame
read_frame_number bs = settle_number (λ (r : Framed). r.number) (first_no (read_frame_questions bs)) _ no_frame refl (λ (k : ℕ). refl)

-- a frame that is accepted passes 13
pub read_frame_yes : (bs : List ℕ) → first_no (read_frame_questions bs) ≡ 0 → (first_no (head_questions bs) ≡ 0) × (all_pass (frame_claims bs) ≡ true)
read_frame_yes bs e =
    let h = first_no_front (head_questions bs) (question13 (frame_claims bs) ∷ []) e in
    let (m, v, s) = head_yes bs h in
    let e₁ : first_no (question13 (frame_claims bs) ∷ []) ≡ 0 = rw (m, eq-eqb (get_or bs version_place 0) version v, s) at e in
    (h, (first_no_zero (question13 (frame_claims bs)) [] (lit< tt) e₁).0)

pub read_frame_0 : (bs : List ℕ) → first_no (head_questions bs) ≡ 0 → all_pass (frame_claims bs) ≡ true
    → record { number = 0; claims = four_of (frame_claims bs); count = frame_count bs } ≡ read_frame bs
unfolding read_frame
read_frame_0 bs h e = let (m, v, s) = head_yes bs h in rw (m, eq-eqb (get_or bs version_place 0) version v, s, e)

-- ---- writing

pub length_head_bytes : (n : ℕ) → length (head_bytes n) ≡ head_size
unfolding head_bytes
length_head_bytes n = refl

module _ (cs : List Claim) (n room : ℕ) where
  pub writable_0 : countable n ≡ true → all_pass (take n cs) ≡ true → frame_length n ≤ room → 0 ≡ first_no (write_frame_questions cs n room)
  writable_0 e f h = rw (e, f, le-leb (frame_length n) room h)

  pub writable_yes : first_no (write_frame_questions cs n room) ≡ 0 → (countable n ≡ true) × (all_pass (take n cs) ≡ true) × (frame_length n ≤ room)
  writable_yes h =
      let (y, h₁) = first_no_zero (question12n n) (question13 (take n cs) ∷ question15 room (frame_length n) ∷ []) (lit< tt) h in
      let (p, h₂) = first_no_zero (question13 (take n cs)) (question15 room (frame_length n) ∷ []) (lit< tt) h₁ in
      (y, p, leb-true (frame_length n) room (first_no_zero (question15 room (frame_length n)) [] (lit< tt) h₂).0)

  pub write_frame_number : (write_frame cs n room).number ≡ first_no (write_frame_questions cs n room)
  unfolding write_frame
  write_frame_number = settle_number (λ (w : Length). w.number) (first_no (write_frame_questions cs n room)) _ no_length refl (λ (k : ℕ). refl)

  pub write_frame_0 : first_no (write_frame_questions cs n room) ≡ 0 → record { number = 0; length = frame_length n } ≡ write_frame cs n room
  unfolding write_frame
  write_frame_0 e = sym (settle_done (first_no (write_frame_questions cs n room)) _ no_length e)

pub frame_lent_yes : (cs : List Claim) (n : ℕ) (out : List ℕ) → first_no (write_frame_questions cs n (length out)) ≡ 0
    → frame_lent cs n out ≡ put_at out 0 (frame_bytes (take n cs))
unfolding frame_lent
frame_lent_yes cs n out e = settle_done (first_no (write_frame_questions cs n (length out))) _ (λ (k : ℕ). out) e
