-- Every claim that a beat sends is the claim of some keys of the store, so it passes questions 2 to 5 and 16 and may go into a frame. Assumes nothing.
use Prim.Native.Nat.{ℕ, ◌≤◌, ◌<◌}
use native.Mathlib.Omega.{arith}
use mathlib.Core.Bool.{true}
use mathlib.Core.List.Memᴰ
use mathlib.Core.List.{List, [], ◌∷◌, Memᴰ}
use mathlib.Core.Logic.{⊎_elim}
use mathlib.Core.Path.{◌≡◌, refl, sym, ◌∙◌, subst}
use borrow.Author.Tests.{eq-eqb}
use lib.Dec.{eqb}
use lib.ListN.{length}
use Rattle.keys.specs.Store.{limit}
use Rattle.keys.proofs.Tests.{and_both}
use Rattle.keys.proofs.Rising.{Rising}
use Rattle.claims.specs.declared.claim.Claim.{Claim}
use Rattle.claims.specs.Claim.{whole_claim}
use Rattle.claims.specs.Call.{judged}
use Rattle.claims.proofs.QuestionLaws.{Passes, passes_first_no, judged_first_no}
use Rattle.claims.proofs.Span.{between_first_last}
use Rattle.claims.proofs.ClaimLaws.{span_claim, span_claim_passes, whole_claim_span}
use Rattle.claims.proofs.ReplyLaws.{spanned_keys, Spanned}
use Rattle.rule.specs.Table.{serve, sending}
use Rattle.rule.proofs.TableLaws.{sent_mem}
use Rattle.rule.proofs.NodeLaws.{Fits, fits_spanned}
use Rattle.wire.specs.Frame.{all_pass}

pub all_pass_mem : (cs : List Claim) → ((c : Claim) → Memᴰ c cs → Passes c) → all_pass cs ≡ true
all_pass_mem [] f = refl
all_pass_mem (c ∷ cs) f =
    and_both (eqb (judged c) 0) (all_pass cs) (eq-eqb (judged c) 0 (judged_first_no c ∙ passes_first_no c (f c (Memᴰ.head refl))))
    (all_pass_mem cs (λ d m. f d (Memᴰ.tail m)))

-- the whole claim, and the claims of answers by the store as it is, which has the ends of a pending claim
pub sending_spanned : (l : List ℕ) → Rising l → (t : List Claim) → ((c : Claim) → Memᴰ c t → Fits c l)
    → (d : Claim) → Memᴰ d (sending l t) → Spanned l d
sending_spanned l rise t f d m =
    ⊎_elim
    {C = Spanned l d}
    (whole l rise)
    (λ (n : Memᴰ d (serve l t).sent).
    let (c, i, o) = sent_mem l t d n in
    fits_spanned c l (f c i) rise d o)
    (Memᴰ.append_cases (whole_claim l) m)
  where
    whole : (k : List ℕ) → Rising k → Memᴰ d (whole_claim k) → Spanned k d
    whole [] r n = absurd (Memᴰ.not-nil n)
    whole (k ∷ ks) r n =
        let some : 0 < length (k ∷ ks) = omega arith in
        let e : d ≡ span_claim (k ∷ ks) = Memᴰ.eq_of_singleton (subst (Memᴰ d) (whole_claim_span (k ∷ ks) some) n) in
        record { keys = k ∷ ks; claim = e; some = some; whole = sym (between_first_last (k ∷ ks) r) }

module _ (l : List ℕ) (rise : Rising l) (short : length l ≤ limit) where
  pub spanned_passes : (d : Claim) → Spanned l d → Passes d
  spanned_passes d s =
      let (r, sub, n) = spanned_keys l d rise s in
      subst Passes (sym s.claim) (span_claim_passes s.keys r s.some (omega arith))

  pub sending_passes : (t : List Claim) → ((c : Claim) → Memᴰ c t → Fits c l) → all_pass (sending l t) ≡ true
  sending_passes t f = all_pass_mem (sending l t) (λ d m. spanned_passes d (sending_spanned l rise t f d m))
