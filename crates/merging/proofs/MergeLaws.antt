-- Two lists in one (specs/Merge). In order: the next thing; how many there are; members; it is sorted if both are; of keys it is the union, of tables the two in one.
-- Not here: the walk that makes it (Walk). Assumes nothing.
use Prim.Native.Nat.{ℕ, ◌≤◌}
use native.Mathlib.Omega.{arith}
use mathlib.Core.Bool.{Bool, true, false, cond}
use mathlib.Core.List.Memᴰ
use mathlib.Core.List.{List, [], ◌∷◌, Memᴰ}
use mathlib.Core.Path.{◌≡◌, refl, sym, ◌∙◌, subst}
use lib.Dec.{ltb}
use lib.ListN.{length}
use Rattle.keys.proofs.Rising.{Rising}
use Rattle.claims.specs.declared.claim.Claim.{Claim}
use Rattle.rule.specs.Table.{before, climbs, insert_claims}
use Rattle.rule.specs.Round.{union}
use Rattle.rule.proofs.Union.{union_left, union_right, union_sub, union_rising}
use Rattle.rule.proofs.Sorted.{Among, Strict, Sorted, sorted_ext, strict_keys, sorted_rising, strict_claims, sorted_climbs}
use Rattle.rule.proofs.Joining.{insert_claims_old, insert_claims_new, insert_claims_among, climbs_insert_claims}
use Rattle.merging.specs.Merge.{merged}

module _ {A : Type 0} (first : A → A → Bool) where
  -- ---- nothing in one of the lists, and the next thing

  pub merged_nil : (l : List A) → merged first l [] ≡ l
  merged_nil [] = refl
  merged_nil (x ∷ xs) = refl

  module _ (x y : A) (xs ys : List A) where
    pub merged_first : first x y ≡ true → merged first (x ∷ xs) (y ∷ ys) ≡ x ∷ merged first xs (y ∷ ys)
    merged_first h = rw h

    pub merged_second : first x y ≡ false → first y x ≡ true → merged first (x ∷ xs) (y ∷ ys) ≡ y ∷ merged first (x ∷ xs) ys
    merged_second h g = rw (h, g)

    pub merged_same : first x y ≡ false → first y x ≡ false → merged first (x ∷ xs) (y ∷ ys) ≡ x ∷ merged first xs ys
    merged_same h g = rw (h, g)

  -- ---- at least as many as in the first list

  pub length_merged : (l m : List A) → length l ≤ length (merged first l m)
  length_merged [] m = omega arith
  length_merged (x ∷ xs) [] = omega arith
  length_merged (x ∷ xs) (y ∷ ys) = go (first x y) (first y x) (length_merged xs (y ∷ ys)) (length_merged (x ∷ xs) ys) (length_merged xs ys)
    where
      go : (s t : Bool) → length xs ≤ length (merged first xs (y ∷ ys)) → length (x ∷ xs) ≤ length (merged first (x ∷ xs) ys)
          → length xs ≤ length (merged first xs ys)
          → length (x ∷ xs) ≤ length (cond s (x ∷ merged first xs (y ∷ ys)) (cond t (y ∷ merged first (x ∷ xs) ys) (x ∷ merged first xs ys)))
      go true t a b c = omega (arith, a)
      go false true a b c = omega (arith, b)
      go false false a b c = omega (arith, c)

  -- ---- members

  -- what holds of all things of both holds of all
  pub merged_all : (P : A → Type 0) (l m : List A) → ((z : A) → Memᴰ z l → P z) → ((z : A) → Memᴰ z m → P z)
      → (z : A) → Memᴰ z (merged first l m) → P z
  merged_all P [] m f g z i = g z i
  merged_all P (x ∷ xs) [] f g z i = f z i
  merged_all P (x ∷ xs) (y ∷ ys) f g z i =
      go (first x y) (first y x) i
      (merged_all P xs (y ∷ ys) (λ w k. f w (Memᴰ.tail k)) g z)
      (merged_all P (x ∷ xs) ys f (λ w k. g w (Memᴰ.tail k)) z)
      (merged_all P xs ys (λ w k. f w (Memᴰ.tail k)) (λ w k. g w (Memᴰ.tail k)) z)
    where
      go : (s t : Bool) → Memᴰ z (cond s (x ∷ merged first xs (y ∷ ys)) (cond t (y ∷ merged first (x ∷ xs) ys) (x ∷ merged first xs ys)))
          → (Memᴰ z (merged first xs (y ∷ ys)) → P z) → (Memᴰ z (merged first (x ∷ xs) ys) → P z) → (Memᴰ z (merged first xs ys) → P z) → P z
      go true t (Memᴰ.head e) a b c = f z (Memᴰ.head e)
      go true t (Memᴰ.tail k) a b c = a k
      go false true (Memᴰ.head e) a b c = g z (Memᴰ.head e)
      go false true (Memᴰ.tail k) a b c = b k
      go false false (Memᴰ.head e) a b c = f z (Memᴰ.head e)
      go false false (Memᴰ.tail k) a b c = c k

  -- the things of the first list are there
  pub merged_left : (l m : List A) → Among l (merged first l m)
  merged_left [] m z i = absurd (Memᴰ.not-nil i)
  merged_left (x ∷ xs) [] z i = i
  merged_left (x ∷ xs) (y ∷ ys) z i = go (first x y) (first y x) i (merged_left xs (y ∷ ys) z) (merged_left (x ∷ xs) ys z) (merged_left xs ys z)
    where
      go : (s t : Bool) → Memᴰ z (x ∷ xs) → (Memᴰ z xs → Memᴰ z (merged first xs (y ∷ ys)))
          → (Memᴰ z (x ∷ xs) → Memᴰ z (merged first (x ∷ xs) ys)) → (Memᴰ z xs → Memᴰ z (merged first xs ys))
          → Memᴰ z (cond s (x ∷ merged first xs (y ∷ ys)) (cond t (y ∷ merged first (x ∷ xs) ys) (x ∷ merged first xs ys)))
      go true t (Memᴰ.head e) a b c = Memᴰ.head e
      go true t (Memᴰ.tail k) a b c = Memᴰ.tail (a k)
      go false true k a b c = Memᴰ.tail (b k)
      go false false (Memᴰ.head e) a b c = Memᴰ.head e
      go false false (Memᴰ.tail k) a b c = Memᴰ.tail (c k)

  module _ (strict : Strict A first) where
    -- .. and those of the second: of two that come before none of each other, which are one, the first is there
    pub merged_right : (l m : List A) → Among m (merged first l m)
    merged_right [] m z i = i
    merged_right (x ∷ xs) [] z i = absurd (Memᴰ.not-nil i)
    merged_right (x ∷ xs) (y ∷ ys) z i =
        go (first x y) refl (first y x) refl i (merged_right xs (y ∷ ys) z) (merged_right (x ∷ xs) ys z) (merged_right xs ys z)
      where
        go : (s : Bool) → first x y ≡ s → (t : Bool) → first y x ≡ t → Memᴰ z (y ∷ ys)
            → (Memᴰ z (y ∷ ys) → Memᴰ z (merged first xs (y ∷ ys))) → (Memᴰ z ys → Memᴰ z (merged first (x ∷ xs) ys))
            → (Memᴰ z ys → Memᴰ z (merged first xs ys))
            → Memᴰ z (cond s (x ∷ merged first xs (y ∷ ys)) (cond t (y ∷ merged first (x ∷ xs) ys) (x ∷ merged first xs ys)))
        go true h t g k a b c = Memᴰ.tail (a k)
        go false h true g (Memᴰ.head e) a b c = Memᴰ.head e
        go false h true g (Memᴰ.tail k) a b c = Memᴰ.tail (b k)
        go false h false g (Memᴰ.head e) a b c = Memᴰ.head (e ∙ sym (strict.total x y h g))
        go false h false g (Memᴰ.tail k) a b c = Memᴰ.tail (c k)

    -- ---- sorted

    -- what comes before the first thing of a sorted list comes before all
    before_all : (u x : A) (xs : List A) → first u x ≡ true → Sorted first (x ∷ xs) → (z : A) → Memᴰ z (x ∷ xs) → first u z ≡ true
    before_all u x xs h p z (Memᴰ.head e) = subst (λ (w : A). first u w ≡ true) (sym e) h
    before_all u x xs h p z (Memᴰ.tail k) = strict.on u x z h (p.0 z k)

    pub sorted_merged : (l m : List A) → Sorted first l → Sorted first m → Sorted first (merged first l m)
    sorted_merged [] m p q = q
    sorted_merged (x ∷ xs) [] p q = p
    sorted_merged (x ∷ xs) (y ∷ ys) p q =
        go (first x y) refl (first y x) refl (sorted_merged xs (y ∷ ys) p.1 q) (sorted_merged (x ∷ xs) ys p q.1) (sorted_merged xs ys p.1 q.1)
      where
        go : (s : Bool) → first x y ≡ s → (t : Bool) → first y x ≡ t
            → Sorted first (merged first xs (y ∷ ys)) → Sorted first (merged first (x ∷ xs) ys) → Sorted first (merged first xs ys)
            → Sorted first (cond s (x ∷ merged first xs (y ∷ ys)) (cond t (y ∷ merged first (x ∷ xs) ys) (x ∷ merged first xs ys)))
        go true h t g a b c = (merged_all (λ (z : A). first x z ≡ true) xs (y ∷ ys) p.0 (before_all x y ys h q), a)
        go false h true g a b c = (merged_all (λ (z : A). first y z ≡ true) (x ∷ xs) ys (before_all y x xs g p) q.0, b)
        go false h false g a b c =
            (merged_all (λ (z : A). first x z ≡ true) xs ys p.0 (subst (λ (w : A). (z : A) → Memᴰ z ys → first w z ≡ true) (sym (strict.total x y h g)) q.0), c)

-- ---- of keys and of tables

pub merged_union : (l r : List ℕ) → Rising l → Rising r → merged ltb l r ≡ union l r
merged_union l r p q =
    sorted_ext strict_keys (merged ltb l r) (union l r) (sorted_merged ltb strict_keys l r (sorted_rising l p) (sorted_rising r q))
    (sorted_rising (union l r) (union_rising l r q))
    (merged_all ltb (λ (k : ℕ). Memᴰ k (union l r)) l r (union_left l r) (union_right l r))
    (union_sub l r (merged ltb l r) (merged_left ltb l r) (merged_right ltb strict_keys l r))

pub merged_claims : (s t : List Claim) → climbs s ≡ true → climbs t ≡ true → merged before s t ≡ insert_claims s t
merged_claims s t h g =
    sorted_ext strict_claims (merged before s t) (insert_claims s t) (sorted_merged before strict_claims s t (sorted_climbs s h) (sorted_climbs t g))
    (sorted_climbs (insert_claims s t) (climbs_insert_claims s t g))
    (merged_all before (λ (c : Claim). Memᴰ c (insert_claims s t)) s t (insert_claims_new s t) (insert_claims_old s t))
    (insert_claims_among s t (merged before s t) (merged_left before s t) (merged_right before strict_claims s t))
