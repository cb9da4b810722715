-- Lists that rise by a strict order, of things of any type: such a list is told by its members. In order: strict orders; sorted lists; the orders of keys and
-- of claims, and that rising keys and climbing tables are sorted by them. Assumes nothing.
use Prim.Native.Nat.{ℕ}
use mathlib.Core.Bool.{Bool, true, false, false≢true}
use mathlib.Core.List.Memᴰ
use mathlib.Core.List.{List, [], ◌∷◌, Memᴰ}
use mathlib.Core.Path.{◌≡◌, refl, sym, ap₂, ◌∙◌, subst}
use native.Mathlib.Omega.{arith}
use borrow.Author.Tests.{ltb-true, ltb-false, lt-ltb, le-ltb, eq-eqb}
use lib.Dec.{ltb}
use Rattle.keys.proofs.Rising.{Rising, above_mem}
use Rattle.keys.proofs.Tests.{and_left, and_right}
use Rattle.claims.specs.declared.claim.Claim.{Claim}
use Rattle.claims.proofs.ClaimLaws.{same_claim}
use Rattle.rule.specs.Table.{ranking, before, climbs_from, climbs}
use Rattle.rule.proofs.TableLaws.{before_trans, ranking_same, words_before_total}

-- all things of the one list are things of the other
abbrev pub Among : {A : Type 0} → List A → List A → Type 0
Among {A} l m = (x : A) → Memᴰ x l → Memᴰ x m

-- ---- strict orders, by their test

pub record Strict (A : Type 0) (first : A → A → Bool) : Type 0 where
  pub itself : (x : A) → first x x ≡ false
  pub on : (x y z : A) → first x y ≡ true → first y z ≡ true → first x z ≡ true
  pub total : (x y : A) → first x y ≡ false → first y x ≡ false → x ≡ y

-- ---- sorted lists: each thing comes before all that follow it

abbrev pub Sorted : {A : Type 0} → (A → A → Bool) → List A → Type 0
Sorted {A} first [] = Unit
Sorted {A} first (x ∷ xs) = ((y : A) → Memᴰ y xs → first x y ≡ true) × Sorted first xs

module _ {A : Type 0} {first : A → A → Bool} (strict : Strict A first) where
  never_itself : (x : A) → first x x ≡ true → ⊥
  never_itself x h = false≢true (sym (strict.itself x) ∙ h)

  -- two sorted lists with the same things are one list
  pub sorted_ext : (l m : List A) → Sorted first l → Sorted first m → Among l m → Among m l → l ≡ m
  sorted_ext [] [] p q a b = refl
  sorted_ext [] (y ∷ ys) p q a b = absurd (Memᴰ.not-nil (b y (Memᴰ.head refl)))
  sorted_ext (x ∷ xs) [] p q a b = absurd (Memᴰ.not-nil (a x (Memᴰ.head refl)))
  sorted_ext (x ∷ xs) (y ∷ ys) p q a b =
      let e : x ≡ y = heads (a x (Memᴰ.head refl)) (b y (Memᴰ.head refl)) in
      ap₂ (λ (z : A) (zs : List A). z ∷ zs) e
      (sorted_ext xs ys p.1 q.1
      (λ z m. behind x xs y ys p.0 e z m (a z (Memᴰ.tail m)))
      (λ z m. behind y ys x xs q.0 (sym e) z m (b z (Memᴰ.tail m))))
    where
      heads : Memᴰ x (y ∷ ys) → Memᴰ y (x ∷ xs) → x ≡ y
      heads (Memᴰ.head e) n = e
      heads (Memᴰ.tail m) (Memᴰ.head e) = sym e
      heads (Memᴰ.tail m) (Memᴰ.tail n) = absurd (never_itself x (strict.on x y x (p.0 y n) (q.0 x m)))

      behind : (u : A) (us : List A) (v : A) (vs : List A) → ((z : A) → Memᴰ z us → first u z ≡ true) → u ≡ v
          → (z : A) → Memᴰ z us → Memᴰ z (v ∷ vs) → Memᴰ z vs
      behind u us v vs above e z m (Memᴰ.head i) =
          absurd (never_itself u (subst (λ (w : A). first u w ≡ true) (i ∙ sym e) (above z m)))
      behind u us v vs above e z m (Memᴰ.tail n) = n

-- ---- keys

pub strict_keys : Strict ℕ ltb
strict_keys = record {
  itself = λ x. le-ltb x x (omega arith);
  on = λ x y z h g. lt-ltb x z (omega (arith, ltb-true x y h, ltb-true y z g));
  total = λ x y h g. omega (arith, ltb-false x y h, ltb-false y x g);
}

pub sorted_rising : (l : List ℕ) → Rising l → Sorted ltb l
sorted_rising [] r = tt
sorted_rising (k ∷ ks) r = (λ j m. lt-ltb k j (above_mem k ks r.0 j m), sorted_rising ks r.1)

-- ---- claims

pub strict_claims : Strict Claim before
strict_claims = record {
  itself = λ c. rw (eq-eqb c.cnt c.cnt refl, eq-eqb c.lo c.lo refl, eq-eqb c.hi c.hi refl, eq-eqb c.sum c.sum refl);
  on = before_trans;
  total = λ c d h g. same_claim c d (ranking_same c d (words_before_total (ranking c) (ranking d) h g));
}

-- what climbs from above a claim comes after it
climbs_from_mem : (b : Claim) (t : List Claim) → climbs_from b t ≡ true → (c : Claim) → Memᴰ c t → before b c ≡ true
climbs_from_mem b [] h c m = absurd (Memᴰ.not-nil m)
climbs_from_mem b (d ∷ ds) h c (Memᴰ.head e) = subst (λ (x : Claim). before b x ≡ true) (sym e) (and_left (before b d) (climbs_from d ds) h)
climbs_from_mem b (d ∷ ds) h c (Memᴰ.tail m) =
    before_trans b d c (and_left (before b d) (climbs_from d ds) h) (climbs_from_mem d ds (and_right (before b d) (climbs_from d ds) h) c m)

sorted_climbs_from : (b : Claim) (t : List Claim) → climbs_from b t ≡ true → Sorted before t
sorted_climbs_from b [] h = tt
sorted_climbs_from b (c ∷ cs) h =
    let g : climbs_from c cs ≡ true = and_right (before b c) (climbs_from c cs) h in
    (climbs_from_mem c cs g, sorted_climbs_from c cs g)

pub sorted_climbs : (t : List Claim) → climbs t ≡ true → Sorted before t
sorted_climbs [] h = tt
sorted_climbs (c ∷ cs) h = (climbs_from_mem c cs h, sorted_climbs_from c cs h)
