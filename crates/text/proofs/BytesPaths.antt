-- One law for each way that src/bytes.rt goes: a text finds no room, or room for its n characters, and ends there. Assumes nothing.
use Prim.Native.Nat.{ℕ, ◌+◌, ◌≤◌}
use native.Mathlib.Omega.{arith}
use mathlib.Core.Bool.{Bool, true, false}
use mathlib.Core.List.{List}
use mathlib.Core.Path.{◌≡◌, ap, sym, ◌∙◌}
use borrow.Author.Tests.{leb-true, leb-false}
use lib.Dec.{leb}
use lib.ListN.{length}
use Rattle.keys.specs.Place.{put_at}
use Rattle.text.specs.Put.{put_from, end_from}
use Rattle.text.proofs.PutLaws.{from_room, from_none}

module _ (s : List ℕ) (at : ℕ) (text : List ℕ) {n : ℕ} (many : n ≡ length text) {b : Bool} (asked : b ≡ leb (at + n) (length s)) where
  pub text_unfit : b ≡ false → (at ≡ end_from s at text) × (s ≡ put_from s at text)
  text_unfit is =
      let (ends, puts) = from_none s at text (let h = leb-false (at + n) (length s) (sym asked ∙ is) in omega arith) in
      (sym ends, sym puts)

  pub text_fits : b ≡ true → at + n ≤ length s
  text_fits is = leb-true (at + n) (length s) (sym asked ∙ is)

  -- .. from i on, which is told by where it ends
  pub text_put : b ≡ true → (i : ℕ) → i + length text ≡ at + n → {t : List ℕ} → t ≡ put_at s i text → (at + n ≡ end_from s at text) × (t ≡ put_from s at text)
  text_put is i e f =
      let place : i ≡ at = omega arith in
      let (ends, puts) = from_room s at text (let h = text_fits is in omega arith) in
      (ap (λ (m : ℕ). at + m) many ∙ sym ends, f ∙ ap (λ (m : ℕ). put_at s m text) place ∙ sym puts)
