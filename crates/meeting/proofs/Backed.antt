-- What a claim is worth, whoever made it and whenever it arrives: it is the claim of some span of keys of u (`Backed`). In order: the record; it
-- stays so while u grows, however late or often the claim is delivered; such a claim passes questions 2 to 5 and 16 and adds only keys of u; all claims that
-- the calls make are backed: of positions, of a reply, of a beat, of a round. Assumes nothing.
use Prim.Native.Nat.{ℕ, zero, suc, ◌+◌, ◌-◌, ◌≤◌, ◌<◌}
use mathlib.Core.List.Memᴰ
use mathlib.Core.List.{List, [], ◌∷◌, ◌++◌, Memᴰ}
use mathlib.Core.Logic.{⊎_elim}
use mathlib.Core.Path.{◌≡◌, refl, sym, ap, subst}
use native.Mathlib.Omega.{arith}
use lib.ListN.{length, drop}
use Rattle.keys.specs.Store.{limit}
use Rattle.keys.proofs.Rising.{Rising, Sub, sub_trans, sub_take, sub_drop, rising_length}
use Rattle.claims.specs.declared.claim.Claim.{Claim}
use Rattle.claims.specs.Claim.{span, claim_of, whole_claim}
use Rattle.claims.specs.Reply.{ends, adding, hear, reply, claims_of}
use Rattle.claims.proofs.Span.{length_span, span_rising}
use Rattle.claims.proofs.QuestionLaws.{Passes}
use Rattle.claims.proofs.ClaimLaws.{span_claim, span_claim_passes, claim_of_span, whole_claim_span}
use Rattle.claims.proofs.ReplyLaws.{spanned_keys, adding_ends, adding_span, hear_rising, Spanned, reply_spanned}
use Rattle.rule.specs.Table.{serve, sending}
use Rattle.rule.specs.Round.{union, End, left_end, right_end, Pair, pair, Entry, delivered, answers, Line, Run, run, half, round_of}
use Rattle.rule.proofs.TableLaws.{sent_mem}
use Rattle.rule.proofs.NodeLaws.{Fits, fits_spanned}
use Rattle.rule.proofs.Pair.{Rises, rises_pair, union_of}
use Rattle.rule.proofs.Entry.{Sound, sound_within}
use Rattle.rule.proofs.Half.{Fine, fine_step, opening, halfway_opening, half_run, half_fine, half_union}

pub record Backed (u : List ℕ) (c : Claim) : Type 0 where
  pub keys : List ℕ
  pub claim : c ≡ span_claim keys
  pub rises : Rising keys
  pub some : 0 < length keys
  pub fits : length keys ≤ limit
  pub within : Sub keys u

-- ---- what it gives

pub backed_sub : (u v : List ℕ) (c : Claim) → Sub u v → Backed u c → Backed v c
backed_sub u v c s b =
    record { keys = b.keys; claim = b.claim; rises = b.rises; some = b.some; fits = b.fits; within = sub_trans b.keys u v b.within s }

pub backed_passes : (u : List ℕ) (c : Claim) → Backed u c → Passes c
backed_passes u c b = subst Passes (sym b.claim) (span_claim_passes b.keys b.rises b.some b.fits)

pub backed_adding : (u : List ℕ) (c : Claim) (l : List ℕ) → Backed u c → Sub (adding c l) u
backed_adding u c l b =
    subst (λ (d : Claim). Sub (adding d l) u) (sym b.claim)
    (sub_trans (adding (span_claim b.keys) l) b.keys u (adding_span b.keys l b.some) b.within)

pub backed_ends : (u : List ℕ) (c : Claim) → Backed u c → Sub (ends c) u
backed_ends u c b = sub_trans (ends c) (adding c []) u (adding_ends c []) (backed_adding u c [] b)

-- ---- the claims that are made

pub spanned_backed : (u l : List ℕ) (c : Claim) → Rising l → length l ≤ limit → Sub l u → Spanned l c → Backed u c
spanned_backed u l c r h s t =
    let (rk, sk, n) = spanned_keys l c r t in
    record { keys = t.keys; claim = t.claim; rises = rk; some = t.some; fits = omega arith; within = sub_trans t.keys l u sk s }

pub claim_of_backed : (u l : List ℕ) (i j : ℕ) → Rising l → length l ≤ limit → Sub l u → i ≤ j → j < length l → Backed u (claim_of i j l)
claim_of_backed u l i j r f s h g =
    let n : length (span i j l) ≡ j - i + 1 = length_span i j l h g in
    record {
      keys = span i j l;
      claim = claim_of_span i j l h g;
      rises = span_rising i j l r;
      some = omega arith;
      fits = omega arith;
      within = sub_trans (span i j l) (drop i l) u (sub_take (j - i + 1) (drop i l)) (sub_trans (drop i l) l u (sub_drop i l) s);
    }

pub whole_claim_backed : (u l : List ℕ) → Rising l → length l ≤ limit → Sub l u → (c : Claim) → Memᴰ c (whole_claim l) → Backed u c
whole_claim_backed u [] r h s c m = absurd (Memᴰ.not-nil m)
whole_claim_backed u (k ∷ ks) r h s c m = record {
  keys = k ∷ ks;
  claim = Memᴰ.eq_of_singleton (subst (λ (x : List Claim). Memᴰ c x) (whole_claim_span (k ∷ ks) (omega arith)) m);
  rises = r;
  some = omega arith;
  fits = h;
  within = s;
}

pub reply_backed : (u l : List ℕ) (c : Claim) → Rising l → Passes c → length (hear c l) ≤ limit → Sub (hear c l) u → (d : Claim) →
    Memᴰ d (claims_of (reply c l)) → Backed u d
reply_backed u l c r p h s d m = spanned_backed u (hear c l) d (hear_rising c l r) h s (reply_spanned c l r p d m)

-- a beat's: of the whole store, or of an answer by the store as it is, which has the ends of a pending claim
pub sending_backed : (u l : List ℕ) (t : List Claim) → Rising l → length l ≤ limit → Sub l u → ((c : Claim) → Memᴰ c t → Fits c l) →
    (d : Claim) → Memᴰ d (sending l t) → Backed u d
sending_backed u l t r h s f d m =
    ⊎_elim
    {C = Backed u d}
    (whole_claim_backed u l r h s d)
    (λ (n : Memᴰ d (serve l t).sent).
    let (c, i, o) = sent_mem l t d n in
    spanned_backed u l d r h s (fits_spanned c l (f c i) r d o))
    (Memᴰ.append_cases (whole_claim l) m)

-- ---- the claims of a round

pub sound_backed : (u : List ℕ) (p : Pair) (q : List Entry) (e : Entry) → Fine u p q → Sound p e → Backed u e.claim
sound_backed u p q e f s =
    let w : Sub e.claimed u = sound_within u p e s f.within in
    let n : length e.claimed ≤ length u = rising_length e.claimed u s.rises f.whole w in
    let h : length u ≤ limit = f.fits in
    record { keys = e.claimed; claim = s.is; rises = s.rises; some = s.some; fits = omega arith; within = w }

abbrev pub AllBacked : List ℕ → List Line → Type 0
AllBacked u xs = (x : Line) → Memᴰ x xs → Backed u x.delivery.claim

pub run_backed : (n : ℕ) (u : List ℕ) (p : Pair) (q : List Entry) → Fine u p q → AllBacked u (run n p q).lines
unfolding run
run_backed zero u p q f x m = absurd (Memᴰ.not-nil m)
run_backed (suc n) u p [] f x m = absurd (Memᴰ.not-nil m)
run_backed (suc n) u p (e ∷ q) f x (Memᴰ.head i) =
    subst (λ (y : Line). Backed u y.delivery.claim) (sym i) (sound_backed u p (e ∷ q) e f (f.sound e (Memᴰ.head refl)))
run_backed (suc n) u p (e ∷ q) f x (Memᴰ.tail m) = run_backed n u (delivered e p) (q ++ answers e p) (fine_step u p e q f) x m

half_backed : (s : End) (p : Pair) → Rises p → length (union_of p) ≤ limit → AllBacked (union_of p) (half s p).lines
half_backed s p r h x m =
    run_backed (length (union_of p)) (union_of p) p (opening s p) (halfway_opening s p r h).fine x
    (subst (λ (y : List Line). Memᴰ x y) (ap (λ (z : Run). z.lines) (half_run s p)) m)

pub round_backed : (l r : List ℕ) → Rising l → Rising r → length (union l r) ≤ limit → AllBacked (union l r) (round_of l r).lines
unfolding round_of
round_backed l r rl rr h x m =
    let p : Pair = pair l r in
    let rp : Rises p = rises_pair l r rl rr in
    let p' : Pair = (half left_end p).stores in
    let u : union_of p' ≡ union_of p = half_union left_end p rp h in
    ⊎_elim
    {C = Backed (union l r) x.delivery.claim}
    (half_backed left_end p rp h x)
    (λ (n : Memᴰ x (half right_end p').lines).
    subst (λ (v : List ℕ). Backed v x.delivery.claim) u
    (half_backed right_end p' (half_fine left_end p rp h).rises (subst (λ (v : List ℕ). length v ≤ limit) (sym u) h) x n))
    (Memᴰ.append_cases (half left_end p).lines m)
