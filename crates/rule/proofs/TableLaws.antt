-- The pending table: `before`, `climbs`, `those`, `insert_claim`, `table_with` and `serve` of Table. In order: words compared; claims compared; climbing
-- tables stay so when a claim is put in, the last is dropped and some leave; how many claims there are; what a beat sends and keeps.
-- Not here: the node around the table (NodeLaws). Assumes nothing.
use Prim.Native.Nat.{ℕ, zero, suc, ◌*◌, ◌≤◌, ◌<◌}
use mathlib.Core.Bool.{Bool, true, false, cond, not, ◌&&◌, false≢true}
use mathlib.Core.List.{List, [], ◌∷◌, ◌++◌, Memᴰ}
use mathlib.Core.List.{append-nil}
use mathlib.Core.Logic.{◌⊎◌, inl, inr, ⊎_elim}
use mathlib.Core.Path.{◌≡◌, refl, sym, ap, ◌∙◌}
use native.Mathlib.Omega.{arith}
use borrow.Author.Tests.{lt-ltb, le-ltb, eq-eqb, ne_eqb}
use lib.ListN.{length, take, drop, length-append, length-take, take-append-drop}
use Rattle.keys.proofs.Rising.{take_mem, drop_mem}
use Rattle.keys.proofs.Tests.{and_left, and_right, and_both, Order, less, equal, greater, order}
use Rattle.claims.specs.declared.claim.Claim.{Claim}
use Rattle.claims.specs.Answer.{Answer}
use Rattle.claims.specs.Answer.{Refused, Match, Ask, One, Two}
use Rattle.claims.specs.Claim.{whole_claim}
use Rattle.claims.specs.Reply.{same, answer, claims_of, matches}
use Rattle.claims.proofs.ClaimLaws.{claim_ext, claim_same}
use Rattle.rule.specs.Table.{table_limit, ranking, words_before, before, climbs_from, climbs, those, insert_claim, table_with, remains}
use Rattle.rule.specs.Table.{beat_replies, unmatched, replies_to, asking, serve, sending, beat_limit}

-- ---- words compared

pub words_before_less : (x y : ℕ) (xs ys : List ℕ) → x < y → words_before (x ∷ xs) (y ∷ ys) ≡ true
words_before_less x y xs ys h = rw (ne_eqb x y (λ (e : x ≡ y). omega arith), lt-ltb x y h)

pub words_before_equal : (x y : ℕ) (xs ys : List ℕ) → x ≡ y → words_before (x ∷ xs) (y ∷ ys) ≡ words_before xs ys
words_before_equal x y xs ys e = rw (eq-eqb x y e)

pub words_before_greater : (x y : ℕ) (xs ys : List ℕ) → y < x → words_before (x ∷ xs) (y ∷ ys) ≡ false
words_before_greater x y xs ys h = rw (ne_eqb x y (λ (e : x ≡ y). omega arith), le-ltb x y (omega arith))

pub words_before_trans : (xs ys zs : List ℕ) → words_before xs ys ≡ true → words_before ys zs ≡ true → words_before xs zs ≡ true
words_before_trans [] [] zs h g = absurd (false≢true h)
words_before_trans [] (y ∷ ys) [] h g = g
words_before_trans [] (y ∷ ys) (z ∷ zs) h g = refl
words_before_trans (x ∷ xs) [] zs h g = absurd (false≢true h)
words_before_trans (x ∷ xs) (y ∷ ys) [] h g = g
words_before_trans (x ∷ xs) (y ∷ ys) (z ∷ zs) h g = go (order x y) (order y z) (words_before_trans xs ys zs)
  where
    go : Order x y → Order y z → (words_before xs ys ≡ true → words_before ys zs ≡ true → words_before xs zs ≡ true) → words_before (x ∷ xs) (z ∷ zs) ≡ true
    go (less p) (less q) below = words_before_less x z xs zs (omega arith)
    go (less p) (equal q) below = words_before_less x z xs zs (omega arith)
    go (less p) (greater q) below = absurd (false≢true (sym (words_before_greater y z ys zs q) ∙ g))
    go (equal p) (less q) below = words_before_less x z xs zs (omega arith)
    go (equal p) (equal q) below =
        words_before_equal x z xs zs (p ∙ q) ∙ below (sym (words_before_equal x y xs ys p) ∙ h) (sym (words_before_equal y z ys zs q) ∙ g)
    go (equal p) (greater q) below = absurd (false≢true (sym (words_before_greater y z ys zs q) ∙ g))
    go (greater p) q below = absurd (false≢true (sym (words_before_greater x y xs ys p) ∙ h))

-- of two lists of words neither of which comes first, one is the other
pub words_before_total : (xs ys : List ℕ) → words_before xs ys ≡ false → words_before ys xs ≡ false → xs ≡ ys
words_before_total [] [] h g = refl
words_before_total [] (y ∷ ys) h g = absurd (false≢true (sym h))
words_before_total (x ∷ xs) [] h g = absurd (false≢true (sym g))
words_before_total (x ∷ xs) (y ∷ ys) h g = go (order x y) (words_before_total xs ys)
  where
    go : Order x y → (words_before xs ys ≡ false → words_before ys xs ≡ false → xs ≡ ys) → x ∷ xs ≡ y ∷ ys
    go (less p) below = absurd (false≢true (sym h ∙ words_before_less x y xs ys p))
    go (equal p) below = let q : xs ≡ ys = below (sym (words_before_equal x y xs ys p) ∙ h) (sym (words_before_equal y x ys xs (sym p)) ∙ g) in cc
    go (greater p) below = absurd (false≢true (sym g ∙ words_before_less y x ys xs p))

-- ---- claims compared

pub before_trans : (b c d : Claim) → before b c ≡ true → before c d ≡ true → before b d ≡ true
before_trans b c d h g = words_before_trans (ranking b) (ranking c) (ranking d) h g

-- equal words are equal fields
pub ranking_same : (c d : Claim) → ranking c ≡ ranking d → same c d ≡ true
ranking_same c d e = claim_same c d (claim_ext c d (cc) (cc) (cc) (cc))

pub before_total : (c d : Claim) → before d c ≡ false → same d c ≡ false → before c d ≡ true
before_total c d h g = go (before c d) refl
  where
    go : (t : Bool) → before c d ≡ t → t ≡ true
    go true e = refl
    go false e = absurd (false≢true (sym g ∙ ranking_same d c (words_before_total (ranking d) (ranking c) h e)))

-- ---- climbing tables

pub climbs_from_lower : (b c : Claim) (t : List Claim) → before b c ≡ true → climbs_from c t ≡ true → climbs_from b t ≡ true
climbs_from_lower b c [] h g = refl
climbs_from_lower b c (d ∷ ds) h g =
    and_both (before b d) (climbs_from d ds) (before_trans b c d h (and_left (before c d) (climbs_from d ds) g)) (and_right (before c d) (climbs_from d ds) g)

pub climbs_from_climbs : (c : Claim) (t : List Claim) → climbs_from c t ≡ true → climbs t ≡ true
climbs_from_climbs c [] h = refl
climbs_from_climbs c (d ∷ ds) h = and_right (before c d) (climbs_from d ds) h

climbs_from_insert_claim : (b c : Claim) (t : List Claim) → before b c ≡ true → climbs_from b t ≡ true → climbs_from b (insert_claim c t) ≡ true
climbs_from_insert_claim b c [] h g = and_both (before b c) true h refl
climbs_from_insert_claim b c (d ∷ ds) h g = go (before d c) refl (same d c) refl (climbs_from_insert_claim d c ds)
  where
    p : before b d ≡ true
    p = and_left (before b d) (climbs_from d ds) g

    q : climbs_from d ds ≡ true
    q = and_right (before b d) (climbs_from d ds) g

    go : (s : Bool) → before d c ≡ s → (t : Bool) → same d c ≡ t → (before d c ≡ true → climbs_from d ds ≡ true → climbs_from d (insert_claim c ds) ≡ true) →
        climbs_from b (cond s (d ∷ insert_claim c ds) (cond t (d ∷ ds) (c ∷ (d ∷ ds)))) ≡ true
    go true e t f below = and_both (before b d) (climbs_from d (insert_claim c ds)) p (below e q)
    go false e true f below = g
    go false e false f below = and_both (before b c) (before c d && climbs_from d ds) h (and_both (before c d) (climbs_from d ds) (before_total c d e f) q)

pub climbs_insert_claim : (c : Claim) (t : List Claim) → climbs t ≡ true → climbs (insert_claim c t) ≡ true
climbs_insert_claim c [] g = refl
climbs_insert_claim c (d ∷ ds) g = go (before d c) refl (same d c) refl
  where
    go : (s : Bool) → before d c ≡ s → (t : Bool) → same d c ≡ t → climbs (cond s (d ∷ insert_claim c ds) (cond t (d ∷ ds) (c ∷ (d ∷ ds)))) ≡ true
    go true e t f = climbs_from_insert_claim d c ds e g
    go false e true f = g
    go false e false f = and_both (before c d) (climbs_from d ds) (before_total c d e f) g

climbs_from_take : (n : ℕ) (c : Claim) (t : List Claim) → climbs_from c t ≡ true → climbs_from c (take n t) ≡ true
climbs_from_take zero c t h = refl
climbs_from_take (suc n) c [] h = refl
climbs_from_take (suc n) c (d ∷ ds) h =
    and_both (before c d) (climbs_from d (take n ds)) (and_left (before c d) (climbs_from d ds) h)
    (climbs_from_take n d ds (and_right (before c d) (climbs_from d ds) h))

pub climbs_take : (n : ℕ) (t : List Claim) → climbs t ≡ true → climbs (take n t) ≡ true
climbs_take zero t h = refl
climbs_take (suc n) [] h = refl
climbs_take (suc n) (c ∷ cs) h = climbs_from_take n c cs h

pub climbs_table_with : (c : Claim) (t : List Claim) → climbs t ≡ true → climbs (table_with c t) ≡ true
climbs_table_with c t h = climbs_take table_limit (insert_claim c t) (climbs_insert_claim c t h)

-- .. where some leave, and those behind them stay
climbs_from_those : (keeps : Claim → Bool) (b : Claim) (t u : List Claim) → climbs_from b (t ++ u) ≡ true → climbs_from b (those keeps t ++ u) ≡ true
climbs_from_those keeps b [] u h = h
climbs_from_those keeps b (c ∷ cs) u h = go (keeps c) (λ d. climbs_from_those keeps d cs u)
  where
    p : before b c ≡ true
    p = and_left (before b c) (climbs_from c (cs ++ u)) h

    q : climbs_from c (cs ++ u) ≡ true
    q = and_right (before b c) (climbs_from c (cs ++ u)) h

    go : (t : Bool) → ((d : Claim) → climbs_from d (cs ++ u) ≡ true → climbs_from d (those keeps cs ++ u) ≡ true) →
        climbs_from b (cond t (c ∷ those keeps cs) (those keeps cs) ++ u) ≡ true
    go true below = and_both (before b c) (climbs_from c (those keeps cs ++ u)) p (below c q)
    go false below = below b (climbs_from_lower b c (cs ++ u) p q)

climbs_those_front : (keeps : Claim → Bool) (t u : List Claim) → climbs (t ++ u) ≡ true → climbs (those keeps t ++ u) ≡ true
climbs_those_front keeps [] u h = h
climbs_those_front keeps (c ∷ cs) u h = go (keeps c) (climbs_those_front keeps cs u (climbs_from_climbs c (cs ++ u) h))
  where
    go : (t : Bool) → climbs (those keeps cs ++ u) ≡ true → climbs (cond t (c ∷ those keeps cs) (those keeps cs) ++ u) ≡ true
    go true below = climbs_from_those keeps c cs u h
    go false below = below

pub climbs_those : (keeps : Claim → Bool) (t : List Claim) → climbs t ≡ true → climbs (those keeps t) ≡ true
climbs_those keeps t h =
    rw (← append-nil (those keeps t)) (climbs_those_front keeps t [] (rw (append-nil t) h))

-- what a beat keeps
pub climbs_kept : (l : List ℕ) (t : List Claim) → climbs t ≡ true → climbs (serve l t).kept ≡ true
climbs_kept l t h =
    let answers : Claim → Answer = λ (c : Claim). answer c l in
    let left : List Claim = unmatched answers t in
    climbs_those_front (λ (c : Claim). remains (answers c)) (take beat_replies left) (drop beat_replies left)
    (rw (take-append-drop beat_replies left) (climbs_those (λ (c : Claim). not (matches (answers c))) t h))

-- ---- members

pub insert_claim_mem : (c : Claim) (t : List Claim) (d : Claim) → Memᴰ d (insert_claim c t) → (d ≡ c) ⊎ Memᴰ d t
insert_claim_mem c [] d (mathlib.Core.List.Memᴰ.head e) = inl e
insert_claim_mem c [] d (mathlib.Core.List.Memᴰ.tail m) = absurd (mathlib.Core.List.Memᴰ.not-nil m)
insert_claim_mem c (b ∷ bs) d m = go (before b c) (same b c) m (insert_claim_mem c bs d)
  where
    go : (s t : Bool) → Memᴰ d (cond s (b ∷ insert_claim c bs) (cond t (b ∷ bs) (c ∷ (b ∷ bs)))) →
        (Memᴰ d (insert_claim c bs) → (d ≡ c) ⊎ Memᴰ d bs) → (d ≡ c) ⊎ Memᴰ d (b ∷ bs)
    go true t (mathlib.Core.List.Memᴰ.head e) below = inr (mathlib.Core.List.Memᴰ.head e)
    go true t (mathlib.Core.List.Memᴰ.tail n) below =
        ⊎_elim {C = (d ≡ c) ⊎ Memᴰ d (b ∷ bs)} (λ (e : d ≡ c). inl e) (λ (o : Memᴰ d bs). inr (mathlib.Core.List.Memᴰ.tail o)) (below n)
    go false true n below = inr n
    go false false (mathlib.Core.List.Memᴰ.head e) below = inl e
    go false false (mathlib.Core.List.Memᴰ.tail n) below = inr n

pub table_with_mem : (c : Claim) (t : List Claim) (d : Claim) → Memᴰ d (table_with c t) → (d ≡ c) ⊎ Memᴰ d t
table_with_mem c t d m = insert_claim_mem c t d (take_mem table_limit (insert_claim c t) d m)

pub those_mem : (keeps : Claim → Bool) (t : List Claim) (d : Claim) → Memᴰ d (those keeps t) → Memᴰ d t × (keeps d ≡ true)
those_mem keeps [] d m = absurd (mathlib.Core.List.Memᴰ.not-nil m)
those_mem keeps (c ∷ cs) d m = go (keeps c) refl m (those_mem keeps cs d)
  where
    go : (t : Bool) → keeps c ≡ t → Memᴰ d (cond t (c ∷ those keeps cs) (those keeps cs))
        → (Memᴰ d (those keeps cs) → Memᴰ d cs × (keeps d ≡ true)) → Memᴰ d (c ∷ cs) × (keeps d ≡ true)
    go true e (mathlib.Core.List.Memᴰ.head f) below = (mathlib.Core.List.Memᴰ.head f, ap keeps f ∙ e)
    go true e (mathlib.Core.List.Memᴰ.tail n) below = let (o, k) = below n in (mathlib.Core.List.Memᴰ.tail o, k)
    go false e n below = let (o, k) = below n in (mathlib.Core.List.Memᴰ.tail o, k)

-- one claim more
pub those_snoc : (keeps : Claim → Bool) (t : List Claim) (c : Claim) → those keeps (t ++ (c ∷ [])) ≡ those keeps t ++ cond (keeps c) (c ∷ []) []
those_snoc keeps [] c = refl
those_snoc keeps (d ∷ ds) c = go (keeps d) (those_snoc keeps ds c)
  where
    go : (t : Bool) → those keeps (ds ++ (c ∷ [])) ≡ those keeps ds ++ cond (keeps c) (c ∷ []) []
        → cond t (d ∷ those keeps (ds ++ (c ∷ []))) (those keeps (ds ++ (c ∷ [])))
        ≡ cond t (d ∷ those keeps ds) (those keeps ds) ++ cond (keeps c) (c ∷ []) []
    go true below = ap (λ (l : List Claim). d ∷ l) below
    go false below = below

-- where all pass, they are all
pub those_all : (keeps : Claim → Bool) (t : List Claim) → ((c : Claim) → Memᴰ c t → keeps c ≡ true) → those keeps t ≡ t
those_all keeps [] f = refl
those_all keeps (c ∷ cs) f = rw (f c (mathlib.Core.List.Memᴰ.head refl), those_all keeps cs (λ d m. f d (mathlib.Core.List.Memᴰ.tail m)))

-- a claim of the replies to some is one of the answer to one of them
replies_to_mem : (answers : Claim → Answer) (t : List Claim) (d : Claim) → Memᴰ d (replies_to answers t)
    → (c : Claim) × Memᴰ c t × Memᴰ d (claims_of (answers c))
replies_to_mem answers [] d m = absurd (mathlib.Core.List.Memᴰ.not-nil m)
replies_to_mem answers (c ∷ cs) d m =
    ⊎_elim
    {C = (b : Claim) × Memᴰ b (c ∷ cs) × Memᴰ d (claims_of (answers b))}
    (λ (n : Memᴰ d (claims_of (answers c))). (c, mathlib.Core.List.Memᴰ.head refl, n))
    (λ (n : Memᴰ d (replies_to answers cs)). let (b, i, o) = replies_to_mem answers cs d n in (b, mathlib.Core.List.Memᴰ.tail i, o))
    (mathlib.Core.List.Memᴰ.append_cases (claims_of (answers c)) m)

unmatched_mem : (answers : Claim → Answer) (t : List Claim) (d : Claim) → Memᴰ d (unmatched answers t) → Memᴰ d t
unmatched_mem answers t d m = (those_mem (λ (c : Claim). not (matches (answers c))) t d m).0

pub kept_mem : (l : List ℕ) (t : List Claim) (d : Claim) → Memᴰ d (serve l t).kept → Memᴰ d t
kept_mem l t d m =
    let answers : Claim → Answer = λ (c : Claim). answer c l in
    let left : List Claim = unmatched answers t in
    let front : List Claim = take beat_replies left in
    unmatched_mem answers t d
    (⊎_elim
    {C = Memᴰ d left}
    (λ (n : Memᴰ d (asking answers front)). take_mem beat_replies left d (those_mem (λ (c : Claim). remains (answers c)) front d n).0)
    (λ (n : Memᴰ d (drop beat_replies left)). drop_mem beat_replies left d n)
    (mathlib.Core.List.Memᴰ.append_cases (asking answers front) m))

-- a claim that is sent for the table is a claim of the answer to some pending claim
pub sent_mem : (l : List ℕ) (t : List Claim) (d : Claim) → Memᴰ d (serve l t).sent → (c : Claim) × Memᴰ c t × Memᴰ d (claims_of (answer c l))
sent_mem l t d m =
    let answers : Claim → Answer = λ (c : Claim). answer c l in
    let left : List Claim = unmatched answers t in
    let (c, i, o) = replies_to_mem answers (take beat_replies left) d m in
    (c, unmatched_mem answers t c (take_mem beat_replies left c i), o)

-- ---- how many claims there are

pub length_table_with : (c : Claim) (t : List Claim) → length (table_with c t) ≤ table_limit
length_table_with c t = rw (length-take table_limit (insert_claim c t)) (omega arith)

pub length_those : (keeps : Claim → Bool) (t : List Claim) → length (those keeps t) ≤ length t
length_those keeps [] = omega arith
length_those keeps (c ∷ cs) = go (keeps c) (length_those keeps cs)
  where
    go : (t : Bool) → length (those keeps cs) ≤ length cs → length (cond t (c ∷ those keeps cs) (those keeps cs)) ≤ length (c ∷ cs)
    go true h = omega arith
    go false h = omega arith

pub length_kept : (l : List ℕ) (t : List Claim) → length (serve l t).kept ≤ length t
length_kept l t =
    let answers : Claim → Answer = λ (c : Claim). answer c l in
    let left : List Claim = unmatched answers t in
    let front : List Claim = take beat_replies left in
    omega (
      arith,
      length-append (asking answers front) (drop beat_replies left),
      length_those (λ (c : Claim). remains (answers c)) front,
      length-append front (drop beat_replies left),
      ap length (take-append-drop beat_replies left),
      length_those (λ (c : Claim). not (matches (answers c))) t,
    )

-- an answer carries at most two claims
pub length_claims_of : (a : Answer) → length (claims_of a) ≤ 2
length_claims_of (Refused n) = omega arith
length_claims_of Match = omega arith
length_claims_of (Ask c) = omega arith
length_claims_of (One c) = omega arith
length_claims_of (Two c d) = omega arith

length_replies_to : (answers : Claim → Answer) (t : List Claim) → length (replies_to answers t) ≤ 2 * length t
length_replies_to answers [] = omega arith
length_replies_to answers (c ∷ cs) =
    rw (length-append (claims_of (answers c)) (replies_to answers cs)) (omega (arith, length_claims_of (answers c), length_replies_to answers cs))

length_sent : (l : List ℕ) (t : List Claim) → length (serve l t).sent ≤ 2 * beat_replies
length_sent l t =
    let answers : Claim → Answer = λ (c : Claim). answer c l in
    let front : List Claim = take beat_replies (unmatched answers t) in
    omega (arith, length_replies_to answers front, length-take beat_replies (unmatched answers t))

length_whole_claim : (l : List ℕ) → length (whole_claim l) ≤ 1
length_whole_claim [] = omega arith
length_whole_claim (k ∷ ks) = omega arith

-- so what a beat writes fits the places that question 15 asks for, whatever is pending
pub length_sending : (l : List ℕ) (t : List Claim) → length (sending l t) ≤ beat_limit
length_sending l t = omega (arith, length-append (whole_claim l) (serve l t).sent, length_whole_claim l, length_sent l t)
