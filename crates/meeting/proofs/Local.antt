-- A delivery depends only on the keys in its claim's range, and changes none outside it; where a middle key is wanted, also on there being space for it,
-- which in a round there always is (`fine_roomy`). In order: keys added, seen through a range; what is added; a reply; what waits, its answers and its
-- line; a whole run (`run_local`). Assumes nothing.
use Prim.Native.Nat.{ℕ, zero, suc, ◌-◌, ◌≤◌, ◌<◌}
use mathlib.Core.Bool.{Bool, true, cond, not, ◌&&◌}
use mathlib.Core.List.Memᴰ
use mathlib.Core.List.{List, [], ◌∷◌, ◌++◌, Memᴰ}
use mathlib.Core.Logic.{◌⊎◌, inl, inr, ⊎_elim}
use mathlib.Core.Path.{◌≡◌, refl, sym, ap, ap₂, ◌∙◌, subst}
use native.Mathlib.Omega.{arith}
use lib.Dec.{eqb}
use lib.ListN.{length}
use Rattle.keys.specs.Store.{limit, same_keys, insert, insert_all}
use Rattle.keys.proofs.Rising.{Rising, Sub, sub_trans, rising_length}
use Rattle.keys.proofs.Insert.{insert_rising, insert_sub, length_insert_missing, insert_all_sub}
use Rattle.claims.specs.declared.claim.Claim.{Claim}
use Rattle.claims.specs.Answer.{Answer}
use Rattle.claims.specs.Claim.{between, middle_key, middle_inside}
use Rattle.claims.specs.Reply.{ends, with_ends, wants_middle, adding, hear, answer, reply, claims_of, matches}
use Rattle.claims.proofs.Between.{Lies, within, below, beyond, lies, inside, between_between, between_insert_within, between_insert_outside}
use Rattle.claims.proofs.Span.{first, last, first_between, last_between}
use Rattle.claims.proofs.QuestionLaws.{Passes}
use Rattle.claims.proofs.ClaimLaws.{span_claim}
use Rattle.claims.proofs.ReplyLaws.{Wanted, wanted, third_wanted, with_ends_rising}
use Rattle.claims.proofs.ThirdLaws.{own_length, wanted_missing}
use Rattle.claims.proofs.ReplyLaws.{hear_rising, hear_lo, hear_hi, Answered, matched, asked, helped_one, helped_two, Part, reply_answered, answer_by, answer_by_lem}
use Rattle.rule.specs.Round.{End, Pair, keys_at, holding, Entry, waits, receiver, keys_before, delivered, answers, Line, line, run}
use Rattle.rule.proofs.Pair.{Rises}
use Rattle.rule.proofs.Entry.{Sound, sound_ends, sound_within}
use Rattle.rule.proofs.Deliver.{sound_middle}
use Rattle.rule.proofs.Half.{Fine, fine_passes, fine_step}

-- ---- keys added, seen through a range

between_insert_local : (a b k : ℕ) (l m : List ℕ) → Rising l → Rising m → between a b l ≡ between a b m → between a b (insert k l) ≡ between a b (insert k m)
between_insert_local a b k l m r q e = go (lies a b k)
  where
    go : Lies a b k → between a b (insert k l) ≡ between a b (insert k m)
    go (within h g) = between_insert_within a b k l r h g ∙ ap (insert k) e ∙ sym (between_insert_within a b k m q h g)
    go (below h) = between_insert_outside a b k l (inl h) ∙ e ∙ sym (between_insert_outside a b k m (inl h))
    go (beyond h) = between_insert_outside a b k l (inr h) ∙ e ∙ sym (between_insert_outside a b k m (inr h))

pub between_insert_all_local : (a b : ℕ) (ks l m : List ℕ) → Rising l → Rising m → between a b l ≡ between a b m →
    between a b (insert_all ks l) ≡ between a b (insert_all ks m)
between_insert_all_local a b [] l m r q e = e
between_insert_all_local a b (k ∷ ks) l m r q e =
    between_insert_all_local a b ks (insert k l) (insert k m) (insert_rising k l r) (insert_rising k m q) (between_insert_local a b k l m r q e)

pub between_insert_all_outside : (a b : ℕ) (ks l : List ℕ) → ((k : ℕ) → Memᴰ k ks → (k < a) ⊎ (b < k)) → between a b (insert_all ks l) ≡ between a b l
between_insert_all_outside a b [] l f = refl
between_insert_all_outside a b (k ∷ ks) l f =
    between_insert_all_outside a b ks (insert k l) (λ x m. f x (Memᴰ.tail m)) ∙ between_insert_outside a b k l (f k (Memᴰ.head refl))

-- of two stores to which a claim adds the same keys
pub hear_local : (c : Claim) (a b : ℕ) (l m : List ℕ) → Rising l → Rising m → adding c l ≡ adding c m → between a b l ≡ between a b m →
    between a b (hear c l) ≡ between a b (hear c m)
hear_local c a b l m r q s e = between_insert_all_local a b (adding c l) l m r q e ∙ ap (λ (ks : List ℕ). between a b (insert_all ks m)) s

-- ---- what is added

-- There is space for the middle key of a claim, where it is wanted. (Whether there is depends on the whole store, and on no range.)
abbrev pub Roomy : Claim → List ℕ → Type 0
Roomy c l = wants_middle c (with_ends c l) ≡ true → length (with_ends c l) < limit

-- where there is, a claim adds the same keys to stores that agree from lo to hi
pub adding_local : (c : Claim) (l m : List ℕ) → Rising l → Rising m → c.lo ≤ c.hi → Roomy c l → Roomy c m →
    between c.lo c.hi l ≡ between c.lo c.hi m → adding c l ≡ adding c m
adding_local c l m r q o a b e =
    ap (λ (ks : List ℕ). ends c ++ ks)
    (third_wanted c (with_ends c l) a ∙ ap (λ (t : Bool). cond t (middle_key c ∷ []) []) both_want ∙ sym (third_wanted c (with_ends c m) b))
  where
    both_want : wants_middle c (with_ends c l) ≡ wants_middle c (with_ends c m)
    both_want =
        ap (λ (n : ℕ). eqb c.cnt 3 && (eqb n 2 && middle_inside c))
        (own_length c l r o ∙ ap length (between_insert_all_local c.lo c.hi (ends c) l m r q e) ∙ sym (own_length c m q o))

-- ---- a reply

pub answer_local : (c : Claim) (l m : List ℕ) → Rising l → Rising m → Passes c → Memᴰ c.lo l → Memᴰ c.hi l → Memᴰ c.lo m →
    Memᴰ c.hi m →
    between c.lo c.hi l ≡ between c.lo c.hi m → answer c l ≡ answer c m
answer_local c l m r q p a b x y e =
    let i : inside c.lo c.hi l ≡ inside c.lo c.hi m
    = sym (between_between c.lo c.hi (suc c.lo) (c.hi - 1) l (omega arith) (omega arith))
    ∙ ap (between (suc c.lo) (c.hi - 1)) e
    ∙ between_between c.lo c.hi (suc c.lo) (c.hi - 1) m (omega arith) (omega arith) in
    answer_by_lem c l r p a b ∙ ap₂ (answer_by c) e i ∙ sym (answer_by_lem c m q p x y)

-- a reply depends only on the keys from lo to hi, where there is space for a middle key that is wanted
pub reply_local : (c : Claim) (l m : List ℕ) → Rising l → Rising m → Passes c → Roomy c l → Roomy c m →
    between c.lo c.hi l ≡ between c.lo c.hi m → reply c l ≡ reply c m
reply_local c l m r q p a b e =
    answer_local c (hear c l) (hear c m) (hear_rising c l r) (hear_rising c m q) p (hear_lo c l) (hear_hi c l) (hear_lo c m) (hear_hi c m)
    (hear_local c c.lo c.hi l m r q (adding_local c l m r q p.ordered a b e) e)

-- .. and its claims lie within lo to hi
pub reply_range : (c : Claim) (l : List ℕ) → Rising l → Passes c → (d : Claim) → Memᴰ d (claims_of (reply c l)) → (c.lo ≤ d.lo) × (d.hi ≤ c.hi)
reply_range c l r p d m = go (reply c l) (reply_answered c l r p) m
  where
    k : List ℕ
    k = hear c l

    part : (y : List ℕ) → d ≡ span_claim y → Part c.lo c.hi k y → (c.lo ≤ d.lo) × (d.hi ≤ c.hi)
    part y e t =
        let a : c.lo < first y = t.after in
        let b : last y < c.hi = t.before in
        let x : d.lo ≡ first y = ap (λ (z : Claim). z.lo) e in
        let w : d.hi ≡ last y = ap (λ (z : Claim). z.hi) e in
        (omega arith, omega arith)

    go : (a : Answer) → Answered c k a → Memᴰ d (claims_of a) → (c.lo ≤ d.lo) × (d.hi ≤ c.hi)
    go _ (matched i) n = absurd (Memᴰ.not-nil n)
    go _ (asked i g) n =
        let e : d ≡ span_claim (between c.lo c.hi k) = Memᴰ.eq_of_singleton n ∙ i in
        let a : d.lo ≡ c.lo = ap (λ (z : Claim). z.lo) e ∙ first_between c.lo c.hi k (hear_rising c l r) p.ordered (hear_lo c l) in
        let b : d.hi ≡ c.hi = ap (λ (z : Claim). z.hi) e ∙ last_between c.lo c.hi k (hear_rising c l r) p.ordered (hear_hi c l) in
        (omega arith, omega arith)
    go _ (helped_one g o i t) n = part (inside c.lo c.hi k) (Memᴰ.eq_of_singleton n ∙ i) t
    go _ (helped_two y z g o i j x t v w) (Memᴰ.head e) = part y (e ∙ i) t
    go _ (helped_two y z g o i j x t v w) (Memᴰ.tail n) = part z (Memᴰ.eq_of_singleton n ∙ j) v

-- ---- what waits

-- two pairs of stores agree on the range of an entry
abbrev pub AgreeOn : Pair → Pair → Entry → Type 0
AgreeOn p p' e = (s : End) → between e.claim.lo e.claim.hi (keys_at s p) ≡ between e.claim.lo e.claim.hi (keys_at s p')

-- claims within a range wait alike at keys that agree there
waits_local : (s : End) (a b : ℕ) (l m : List ℕ) (cs : List Claim) → between a b l ≡ between a b m →
    ((d : Claim) → Memᴰ d cs → (a ≤ d.lo) × (d.hi ≤ b)) → waits s l cs ≡ waits s m cs
waits_local s a b l m [] e f = refl
waits_local s a b l m (c ∷ cs) e f =
    let t = f c (Memᴰ.head refl) in
    let h : between c.lo c.hi l ≡ between c.lo c.hi m
    = sym (between_between a b c.lo c.hi l t.0 t.1) ∙ ap (between c.lo c.hi) e ∙ between_between a b c.lo c.hi m t.0 t.1 in
    ap₂ (λ (x : List ℕ) (y : List Entry). record { sender = s; claim = c; claimed = x } ∷ y) h (waits_local s a b l m cs e (λ d i. f d (Memᴰ.tail i)))

-- an entry that waits is one of the claims
waits_mem : (s : End) (l : List ℕ) (cs : List Claim) (x : Entry) → Memᴰ x (waits s l cs) → Memᴰ x.claim cs
waits_mem s l [] x m = absurd (Memᴰ.not-nil m)
waits_mem s l (c ∷ cs) x (Memᴰ.head e) = Memᴰ.head (ap (λ (y : Entry). y.claim) e)
waits_mem s l (c ∷ cs) x (Memᴰ.tail m) = Memᴰ.tail (waits_mem s l cs x m)

-- the answers to an entry lie within its range
pub answers_range : (p : Pair) (e : Entry) → Rises p → Passes e.claim → (x : Entry) → Memᴰ x (answers e p) →
    (e.claim.lo ≤ x.claim.lo) × (x.claim.hi ≤ e.claim.hi)
answers_range p e r q x m =
    reply_range e.claim (keys_before e p) (r (receiver e)) q x.claim
    (waits_mem (receiver e) (hear e.claim (keys_before e p)) (claims_of (reply e.claim (keys_before e p))) x m)

-- there is space at the receiver for what a claim that waits tells: in a round there always is (`fine_roomy`)
abbrev pub RoomFor : Pair → Entry → Type 0
RoomFor p e = Roomy e.claim (keys_before e p)

-- an entry delivered to two pairs that agree on its range
module _ (p p' : Pair) (e : Entry) (r : Rises p) (r' : Rises p') (q : Passes e.claim) (room : RoomFor p e) (room' : RoomFor p' e)
    (agree : AgreeOn p p' e) where
  adds_alike : adding e.claim (keys_before e p) ≡ adding e.claim (keys_before e p')
  adds_alike = adding_local e.claim (keys_before e p) (keys_before e p') (r (receiver e)) (r' (receiver e)) q.ordered room room' (agree (receiver e))

  hears_alike : (a b : ℕ) → between a b (keys_before e p) ≡ between a b (keys_before e p') →
      between a b (hear e.claim (keys_before e p)) ≡ between a b (hear e.claim (keys_before e p'))
  hears_alike a b h = hear_local e.claim a b (keys_before e p) (keys_before e p') (r (receiver e)) (r' (receiver e)) adds_alike h

  replies_alike : reply e.claim (keys_before e p) ≡ reply e.claim (keys_before e p')
  replies_alike = reply_local e.claim (keys_before e p) (keys_before e p') (r (receiver e)) (r' (receiver e)) q room room' (agree (receiver e))

  pub answers_local : answers e p ≡ answers e p'
  answers_local =
      let c : Claim = e.claim in
      waits_local (receiver e) c.lo c.hi (hear c (keys_before e p)) (hear c (keys_before e p')) (claims_of (reply c (keys_before e p)))
      (hears_alike c.lo c.hi (agree (receiver e)))
      (reply_range c (keys_before e p) (r (receiver e)) q)
      ∙ ap (λ (x : Answer). waits (receiver e) (hear c (keys_before e p')) (claims_of x)) replies_alike

  pub line_local : line e p ≡ line e p'
  line_local =
      ap (λ (b : Bool). record { delivery = (line e p).delivery; is_false = b })
      (ap₂ (λ (x : Answer) (y : List ℕ). matches x && not (same_keys e.claimed y)) replies_alike
      (hears_alike e.claim.lo e.claim.hi (agree (receiver e))))

  -- where the pairs agree on another range, they still do
  pub delivered_local : (f : Entry) → AgreeOn p p' f → AgreeOn (delivered e p) (delivered e p') f
  delivered_local f a = both (receiver e) (hears_alike f.claim.lo f.claim.hi (a (receiver e)))
    where
      b : List ℕ → List ℕ
      b = between f.claim.lo f.claim.hi

      both : (t : End) → b (hear e.claim (keys_before e p)) ≡ b (hear e.claim (keys_before e p')) → (s : End) →
          b (keys_at s (holding t (hear e.claim (keys_before e p)) p)) ≡ b (keys_at s (holding t (hear e.claim (keys_before e p')) p'))
      both End.left_end h End.left_end = h
      both End.left_end h End.right_end = a End.right_end
      both End.right_end h End.left_end = a End.left_end
      both End.right_end h End.right_end = h

-- In a round there is space for every middle key that is wanted: it is one of the union's, and the receiver lacks it.
pub fine_roomy : (u : List ℕ) (p : Pair) (e : Entry) (q : List Entry) → Fine u p (e ∷ q) → RoomFor p e
fine_roomy u p e q f wants =
    let s : Sound p e = f.sound e (Memᴰ.head refl) in
    let c : Claim = e.claim in
    let k : List ℕ = with_ends c (keys_before e p) in
    let w : Wanted c k = wanted c k wants in
    let rise : Rising k = with_ends_rising c (keys_before e p) (f.rises (receiver e)) in
    let inside_u : Sub (insert (middle_key c) k) u
    = insert_sub (middle_key c) k u (sound_within u p e s f.within (middle_key c) (sound_middle p e s w.three))
    (insert_all_sub (ends c) (keys_before e p) u (sub_trans (ends c) e.claimed u (sound_ends p e s) (sound_within u p e s f.within))
    (f.within (receiver e))) in
    let n : length (insert (middle_key c) k) ≤ length u = rising_length (insert (middle_key c) k) u (insert_rising (middle_key c) k rise) f.whole inside_u in
    let m : length (insert (middle_key c) k) ≡ suc (length k)
    = length_insert_missing (middle_key c) k (wanted_missing c (keys_before e p) (f.rises (receiver e)) (fine_passes u p e q f).ordered w) in
    omega (arith, f.fits)

-- ---- a whole run

agree_on_within : (p p' : Pair) (e x : Entry) → AgreeOn p p' e → (e.claim.lo ≤ x.claim.lo) × (x.claim.hi ≤ e.claim.hi) → AgreeOn p p' x
agree_on_within p p' e x a t s =
    sym (between_between e.claim.lo e.claim.hi x.claim.lo x.claim.hi (keys_at s p) t.0 t.1)
    ∙ ap (between x.claim.lo x.claim.hi) (a s)
    ∙ between_between e.claim.lo e.claim.hi x.claim.lo x.claim.hi (keys_at s p') t.0 t.1

-- stores that agree on the ranges of what waits give the same lines
pub run_local : (n : ℕ) (u : List ℕ) (p p' : Pair) (q : List Entry) → Fine u p q → Fine u p' q → ((e : Entry) → Memᴰ e q → AgreeOn p p' e) →
    (run n p q).lines ≡ (run n p' q).lines
unfolding run
run_local zero u p p' q f f' a = refl
run_local (suc n) u p p' [] f f' a = refl
run_local (suc n) u p p' (e ∷ q) f f' a =
    let here : AgreeOn p p' e = a e (Memᴰ.head refl) in
    let k : Passes e.claim = fine_passes u p e q f in
    let room : RoomFor p e = fine_roomy u p e q f in
    let room' : RoomFor p' e = fine_roomy u p' e q f' in
    let same_answers : answers e p ≡ answers e p' = answers_local p p' e f.rises f'.rises k room room' here in
    let still : (x : Entry) → AgreeOn p p' x → AgreeOn (delivered e p) (delivered e p') x
    = delivered_local p p' e f.rises f'.rises k room room' here in
    let f₁ : Fine u (delivered e p) (q ++ answers e p) = fine_step u p e q f in
    let f₂ : Fine u (delivered e p') (q ++ answers e p)
    = subst (λ (x : List Entry). Fine u (delivered e p') (q ++ x)) (sym same_answers) (fine_step u p' e q f') in
    let later : (run n (delivered e p) (q ++ answers e p)).lines ≡ (run n (delivered e p') (q ++ answers e p)).lines
    = run_local n u (delivered e p) (delivered e p') (q ++ answers e p) f₁ f₂
    (λ x m.
    ⊎_elim
    {C = AgreeOn (delivered e p) (delivered e p') x}
    (λ (i : Memᴰ x q). still x (a x (Memᴰ.tail i)))
    (λ (i : Memᴰ x (answers e p)). agree_on_within (delivered e p) (delivered e p') e x (still e here) (answers_range p e f.rises k x i))
    (Memᴰ.append_cases q m)) in
    ap₂ (λ (x : Line) (y : List Line). x ∷ y) (line_local p p' e f.rises f'.rises k room room' here)
    (later ∙ ap (λ (x : List Entry). (run n (delivered e p') (q ++ x)).lines) same_answers)
