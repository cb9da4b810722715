-- The calls on a lent run that write (src/lent.rt): one law for each way that the code goes, over the definitions of specs/Lent. What these mean where the
-- run is a store in order is in LentLaws. Assumes nothing.
use mathlib.Core.Path.{◌≡◌, sym, ◌∙◌, ap, subst}
use mathlib.Core.Bool.{Bool, true, false, not}
use mathlib.Core.List.{List}
use Rattle.std.specs.Prelude.{Option, Some, None}
use Prim.Native.Nat.{ℕ, ◌+◌, ◌-◌, ◌^◌, ◌≤◌, ◌<◌, max}
use native.Mathlib.Omega.{arith}
use borrow.Author.Tests.{ne_eqb, not-true, not-false}
use lib.ListN.{length}
use Rattle.keys.specs.declared.lent.Added.{Added}
use Rattle.keys.specs.declared.store.Store.{Store}
use Rattle.keys.specs.Store.{limit}
use Rattle.keys.specs.Lent.{resummed, store_by, store_with, Grown, grown, unfit, grown_with, add_in, add_both_in, Marked}
use Rattle.keys.proofs.LentLaws.{add_in_count, Laid, add_both_in_laid, add_both_in_unfit}
use Rattle.claims.specs.declared.claim.Claim.{Claim}
use Rattle.claims.specs.declared.refusal.Refusal.{Refusal}
use Rattle.claims.specs.Refusal.{refusal_number}
use Rattle.claims.specs.Answer.{Answer, Refused}
use Rattle.claims.specs.Claim.{middle_key}
use Rattle.claims.specs.Question.{question16}
use Rattle.claims.specs.Reply.{z_of}
use Rattle.claims.specs.Call.{judged}
use Rattle.claims.specs.Lent.{Hearing, tells_third, heard, unheard, hear_in, Positions, answer_at, mark_heard, reply_in}
use Rattle.claims.proofs.QuestionLaws.{judged_formerly_lem}
use Rattle.claims.proofs.RefusalLaws.{refusal_number_ne}
use Rattle.claims.proofs.LentLaws.{standing, hear_in_judged, hear_in_unfit, hear_in_fit, hear_in_kept, hear_in_laid}

-- `hear_in`

module _ (keys : List ℕ) (count : ℕ) (c : Claim) where
  -- the store that the run is of
  abbrev given : Store
  given = store_with keys count

  pub heard_judged : (r : Refusal) → refusal_number r ≡ judged c → unheard given (refusal_number r) ≡ hear_in given c
  heard_judged r e = ap (unheard given) e ∙ sym (hear_in_judged given c (λ z. refusal_number_ne r (e ∙ z)))

  -- by what adding the ends told
  module _ (pass : 0 ≡ judged c) (after : List ℕ) (found : Option Added) (gave : grown_with after count found ≡ add_both_in given c.lo c.hi) where
    pub heard_unfit : found ≡ None → unheard (store_with after count) 6 ≡ hear_in given c
    heard_unfit none =
        let full : unfit (store_with after count) ≡ add_both_in given c.lo c.hi = sym (ap (grown_with after count) none) ∙ gave in
        let no : (add_both_in given c.lo c.hi).fits ≡ false = sym (ap (λ (g : Grown). g.fits) full) in
        let kept : store_with after count ≡ given =
        ap (λ (g : Grown). g.store) full ∙ add_both_in_unfit given c.lo c.hi no in
        ap (λ (s : Store). unheard s 6) kept ∙ sym (hear_in_unfit given c (sym pass) no)

    -- the ends fit
    module _ (ends : Added) (some : found ≡ Some ends) where
      abbrev added : Grown
      added = grown (store_with after ends.count) ends.first ends.last

      fitted : added ≡ add_both_in given c.lo c.hi
      fitted = sym (ap (grown_with after count) some) ∙ gave

      fit : (add_both_in given c.lo c.hi).fits ≡ true
      fit = sym (ap (λ (g : Grown). g.fits) fitted)

      laid : Laid added
      laid = subst Laid (sym fitted) (add_both_in_laid given c.lo c.hi fit)

      heard_is : hear_in given c ≡ heard c added
      heard_is = hear_in_fit given c (sym pass) fit ∙ ap (heard c) (sym fitted)

      pub ends_rise : ends.first ≤ ends.last
      ends_rise = laid.rise

      -- 16 was answered yes
      pub third_told : (question16 c).yes ≡ true
      third_told = (judged_formerly_lem c (sym pass)).1

      module _ (told : Bool) (tells : told ≡ tells_third ends.first ends.last c) where
        pub heard_ends : not told ≡ true
            → record { number = 0; store = store_with after ends.count; first = ends.first; last = ends.last } ≡ hear_in given c
        heard_ends e = sym (heard_is ∙ rw (← tells, not-true told e))

        -- the third key, by what adding it told
        module _ (e : not told ≡ false) (held : ℕ) (run : List ℕ)
            (grew : store_with run held ≡ (add_in (store_with after ends.count) (middle_key c)).store) where
          count_is : held ≡ (add_in (store_with after ends.count) (middle_key c)).store.count
          count_is = ap (λ (s : Store). s.count) grew

          pub third_grows : ends.count ≤ held
          third_grows = omega (arith, count_is, (add_in_count (store_with after ends.count) (middle_key c)).0)

          pub third_room : ends.last + (held - ends.count) < 2 ^ 64
          third_room = omega (arith, count_is, (add_in_count (store_with after ends.count) (middle_key c)).1, laid.inside, laid.short)

          pub heard_third : record { number = 0; store = store_with run held; first = ends.first; last = ends.last + (held - ends.count) } ≡ hear_in given c
          heard_third =
              ap (λ (s : Store). record { number = 0; store = s; first = ends.first; last = ends.last + (s.count - ends.count) }) grew
              ∙ sym (heard_is ∙ rw (← tells, not-false told e))

-- `reply_in`

module _ (s : Store) (mark : ℕ) (c : Claim) (after : List ℕ) where
  -- the store that is lent, with its mark
  abbrev lent : Marked
  lent = record { store = s; mark = mark }

  pub reply_refused : (r : Refusal) → unheard (store_with after s.count) (refusal_number r) ≡ hear_in (store_with s.keys s.count) c
      → record { marked = record { store = store_by after s.sums s.count; mark = mark }; answer = Refused (refusal_number r) } ≡ reply_in lent c
  unfolding reply_in
  reply_refused r unsaid =
      let number : refusal_number r ≡ (hear_in (store_with s.keys s.count) c).number = ap (λ (x : Hearing). x.number) unsaid in
      let same : (hear_in (store_with s.keys s.count) c).store ≡ store_with s.keys s.count =
      hear_in_kept (store_with s.keys s.count) c (λ e. refusal_number_ne r (number ∙ e)) in
      let kept : after ≡ s.keys = ap (λ (x : Hearing). x.store.keys) unsaid ∙ ap (λ (t : Store). t.keys) same in
      rw (← number, ne_eqb (refusal_number r) 0 (refusal_number_ne r), kept)

  module _ (count first last : ℕ)
      (heard : record { number = 0; store = store_with after count; first = first; last = last } ≡ hear_in (store_with s.keys s.count) c) where
    stands : Laid (grown (store_with after count) first last)
    stands = subst (λ (x : Hearing). Laid (standing x)) (sym heard)
        (hear_in_laid (store_with s.keys s.count) c (sym (ap (λ (x : Hearing). x.number) heard)))

    -- hi stands below the limit
    heard_last : last < limit
    heard_last = omega (arith, stands.inside, stands.short)

    pub heard_end : last + 1 < 2 ^ 64
    heard_end = omega (arith, heard_last)

    -- lo and hi stand at positions then
    pub heard_positions : (sums : List ℕ) → length after ≡ limit → length sums ≡ limit → Positions after sums first last
    heard_positions sums long summed =
        record { rise = stands.rise; short = heard_last; inside = omega (arith, heard_last); summed = omega (arith, heard_last) }

    module _ (known : ℕ) (marks : known ≡ mark_heard mark s.count count first) (sums : List ℕ) (anew : sums ≡ resummed after s.sums known (last + 1)) where
      pub reply_told : (most : ℕ) → most ≡ max known (last + 1) → (a : Answer) → a ≡ answer_at after sums first last c
          → record { marked = record { store = store_by after sums count; mark = most }; answer = a } ≡ reply_in lent c
      unfolding reply_in
      reply_told most e a f = rw (← heard, f, e, ← marks, ← anew)

-- where the claims that help stand: among the keys between the two positions, all of them or those of either half

module _ (keys sums : List ℕ) (first last : ℕ) (places : Positions keys sums first last) where
  inner_places : (a b : ℕ) → a ≤ b → b ≤ last → Positions keys sums a b
  inner_places a b h g = record { rise = h; short = omega (arith, places.short); inside = omega (arith, places.inside); summed = omega (arith, places.summed) }

  pub one_places : first + 1 < last → Positions keys sums (first + 1) (last - 1)
  one_places h = inner_places (first + 1) (last - 1) (omega arith) (omega arith)

  pub left_places : 3 ≤ last - 1 - (first + 1) → Positions keys sums (first + 1) (first + 1 + z_of (first + 1) (last - 1))
  left_places h = inner_places (first + 1) (first + 1 + z_of (first + 1) (last - 1)) (omega arith) (omega arith)

  pub right_places : 3 ≤ last - 1 - (first + 1) → Positions keys sums (first + 1 + z_of (first + 1) (last - 1) + 1) (last - 1)
  right_places h = inner_places (first + 1 + z_of (first + 1) (last - 1) + 1) (last - 1) (omega arith) (omega arith)
