-- The ways of src/frames.rt, one law for each, in the code's own terms: n is the count that the heading tells, cs what was read, r a refusal, and o₂ what is lent
-- afterwards. Assumes nothing.
use Prim.Native.Nat.{ℕ, ◌+◌, ◌*◌, ◌≤◌}
use native.Mathlib.Omega.{arith}
use mathlib.Core.Bool.{true, false}
use mathlib.Core.List.{List, [], ◌∷◌, ◌++◌}
use mathlib.Core.Path.{◌≡◌, ap, sym, ◌∙◌}
use borrow.Author.Tests.{eq-eqb}
use lib.ListN.{length, take, drop, get_or}
use lib.Seq.{length-take-le, take_at}
use Rattle.keys.specs.Place.{put_at}
use Rattle.keys.proofs.PlaceLaws.{put_at_then, put_at_zero}
use Rattle.claims.specs.declared.claim.Claim.{Claim}
use Rattle.claims.specs.declared.refusal.Refusal.{Refusal}
use Rattle.claims.specs.Claim.{no_claim}
use Rattle.claims.specs.Question.{first_no}
use Rattle.claims.specs.Refusal.{refusal_number}
use Rattle.claims.proofs.QuestionLaws.{first_no_append_no, settle_refused}
use Rattle.claims.proofs.RefusalLaws.{refusal_number_ne}
use Rattle.wire.specs.Answer.{frame_limit}
use Rattle.wire.specs.Claim.{claim_size}
use Rattle.wire.specs.Run.{claim, read_run, write_run}
use Rattle.wire.specs.Length.{no_length}
use Rattle.wire.specs.Frame.{version, version_place, head_size, frame_length, head_bytes, frame_bytes, frame_count, frame_claims}
use Rattle.wire.specs.Frame.{all_pass, question13, four_of, head_questions, read_frame_questions, no_frame, read_frame}
use Rattle.wire.specs.Frame.{write_frame_questions, write_frame, frame_lent}
use Rattle.wire.proofs.RunLaws.{length_read_run}
use Rattle.wire.proofs.FrameLaws.{countable_yes, sized_yes, head_yes, put_at_four, blanks_four, read_frame_0, length_head_bytes}
use Rattle.wire.proofs.FrameLaws.{writable_yes, write_frame_0, frame_lent_yes}

-- four claims of zeros
abbrev pub four : List Claim
four = no_claim ∷ (no_claim ∷ (no_claim ∷ (no_claim ∷ [])))

-- ---- read_frame

pub read_frame_head : (bs : List ℕ) (r : Refusal) → refusal_number r ≡ first_no (head_questions bs) → no_frame (refusal_number r) ≡ read_frame bs
unfolding read_frame
read_frame_head bs r e =
    let other : first_no (head_questions bs) ≡ 0 → ⊥ = λ z. refusal_number_ne r (e ∙ z) in
    let q : first_no (read_frame_questions bs) ≡ refusal_number r =
    first_no_append_no (head_questions bs) (question13 (frame_claims bs) ∷ []) other ∙ sym e in
    sym (settle_refused (first_no (read_frame_questions bs)) _ no_frame (λ z. refusal_number_ne r (sym q ∙ z)) ∙ ap no_frame q)

module _ (bs : List ℕ) {n : ℕ} (asked : 0 ≡ first_no (head_questions bs)) (counted : n ≡ frame_count bs) where
  head_few : n ≤ frame_limit
  head_few = rw counted (sized_yes bs (head_yes bs (sym asked)).2).1

  -- how many places are read into, and that so many claims are there
  pub head_places : n ≡ length (take n four)
  head_places = sym (length-take-le n four head_few)

  pub head_room : head_size + claim_size * length (take n four) ≤ length bs
  head_room = let h = sized_yes bs (head_yes bs (sym asked)).2 in rw (← head_places, counted) (omega arith)

  module _ {cs : List Claim} (read : cs ≡ read_run claim (length (take n four)) (drop head_size bs)) where
    read_is : cs ≡ frame_claims bs
    read_is = read ∙ ap (λ (m : ℕ). read_run claim m (drop head_size bs)) (sym head_places ∙ counted)

    long : length cs ≡ n
    long = ap length read ∙ (length_read_run claim (length (take n four)) (drop head_size bs) ∙ sym head_places)

    front : take n (cs ++ drop n four) ≡ cs
    front = take_at cs (drop n four) n long

    pub read_places : n ≡ length (take n (cs ++ drop n four))
    read_places = rw (front, long)

    pass_is : all_pass (take n (cs ++ drop n four)) ≡ all_pass (frame_claims bs)
    pass_is = ap all_pass (front ∙ read_is)

    pub read_frame_13 : false ≡ all_pass (take n (cs ++ drop n four)) → no_frame 13 ≡ read_frame bs
    unfolding read_frame
    read_frame_13 fails = let (m, v, s) = head_yes bs (sym asked) in rw (m, eq-eqb (get_or bs version_place 0) version v, s, ← pass_is, ← fails)

    pub read_frame_done : true ≡ all_pass (take n (cs ++ drop n four)) → record { number = 0; claims = cs ++ drop n four; count = n } ≡ read_frame bs
    read_frame_done pass =
        let places : cs ++ drop n four ≡ four_of (frame_claims bs) = rw (← long, ← put_at_zero four cs, read_is, blanks_four, put_at_four) in
        (λ i. record { number = 0; claims = places i; count = counted i }) ∙ read_frame_0 bs (sym asked) (sym (pass ∙ pass_is))

-- ---- write_frame

module _ (cs : List Claim) (n : ℕ) (out : List ℕ) where
  pub write_frame_refused : (r : Refusal) → refusal_number r ≡ first_no (write_frame_questions cs n (length out))
      → (no_length (refusal_number r) ≡ write_frame cs n (length out)) × (out ≡ frame_lent cs n out)
  unfolding write_frame frame_lent
  write_frame_refused r asked =
      let first = first_no (write_frame_questions cs n (length out)) in
      let other : first ≡ 0 → ⊥ = λ z. refusal_number_ne r (asked ∙ z) in
      (sym (settle_refused first _ no_length other ∙ ap no_length (sym asked)), sym (settle_refused first _ (λ (x : ℕ). out) other))

  -- the head, and the claims right after it
  pub write_frame_done : {k : ℕ} {head o₂ : List ℕ} → length cs ≡ frame_limit → 0 ≡ first_no (write_frame_questions cs n (length out)) → k ≡ frame_length n
      → head ≡ 0x4C ∷ (0x43 ∷ (version ∷ (n ∷ []))) → o₂ ≡ put_at (head ++ drop head_size out) head_size (write_run claim (take n cs))
      → (record { number = 0; length = k } ≡ write_frame cs n (length out)) × (o₂ ≡ frame_lent cs n out)
  unfolding frame_bytes head_bytes
  write_frame_done {k} {head} {o₂} all asked told copied wrote =
      let yes = writable_yes cs n (length out) (sym asked) in
      let few = (countable_yes n yes.0).1 in
      let long : length (take n cs) ≡ n = length-take-le n cs (rw all few) in
      let front : head ++ drop head_size out ≡ put_at out 0 (head_bytes n) = rw copied (sym (put_at_zero out (head_bytes n))) in
      let room = yes.2 in
      let put : o₂ ≡ put_at out 0 (head_bytes n ++ write_run claim (take n cs)) =
      put_at_then out 0 head_size (head_bytes n) (write_run claim (take n cs)) (omega (arith, length_head_bytes n)) (omega arith) front wrote in
      let counted = ap (λ (m : ℕ). put_at out 0 (head_bytes m ++ write_run claim (take n cs))) (sym long) in (
        (λ i. record { number = 0; length = told i }) ∙ write_frame_0 cs n (length out) (sym asked),
        put ∙ (counted ∙ sym (frame_lent_yes cs n out (sym asked))),
      )
