-- A node in order: `saved_in_order`, `node_in_order`, `node_of` and `empty_node` of Node. In order: keys held, claims that fit and claims that pass 16, by their
-- members; blanks and places; what "in order" says, clause by clause, and that the clauses make it up, as an image is judged and as a node is; a node
-- whose store grew; the node of keys and claims, and without the claims that fail 16; the empty node.
-- Not here: the table (TableLaws). Assumes nothing.
use Prim.Native.Nat.{ℕ, zero, suc, ◌+◌, ◌-◌, ◌≤◌}
use native.Mathlib.Nat.{zero-add, suc-add}
use mathlib.Core.Bool.{Bool, true, cond, ◌&&◌, and-true}
use mathlib.Core.List.Memᴰ
use mathlib.Core.List.{List, [], ◌∷◌, ◌++◌, Memᴰ, map}
use mathlib.Core.Path.{◌≡◌, refl, sym, ap, ◌∙◌, subst}
use native.Mathlib.Omega.{arith}
use borrow.Author.Tests.{leb-true, le-leb, eqb-true, eq-eqb}
use lib.Dec.{leb, eqb}
use lib.ListN.{length, take, drop, length-drop, length-replicate, take-append-drop, length-map}
use lib.Seq.{length-take-le, take-append_seam, drop-append_seam, take_at, drop_at}
use Rattle.keys.specs.declared.store.Store.{Store}
use Rattle.keys.specs.Store.{limit, Sized, keys_of, store_of, in_order, holds}
use Rattle.keys.proofs.Tests.{and_left, and_right, and_both}
use Rattle.keys.proofs.Rising.{Rising, Sub, sub_trans, holds_mem, mem_holds}
use Rattle.keys.proofs.StoreLaws.{keys_of_store_of, store_of_keys_of, in_order_store_of, in_order_rising, in_order_count, empty_store_store_of}
use Rattle.keys.proofs.PlaceLaws.{drop_replicate}
use Rattle.claims.specs.declared.claim.Claim.{Claim}
use Rattle.claims.specs.Reply.{ends, same, answer, claims_of}
use Rattle.claims.specs.Question.{question16}
use Rattle.claims.specs.Call.{judged, judged_formerly}
use Rattle.claims.specs.Claim.{no_claim}
use Rattle.claims.proofs.QuestionLaws.{Passes, passes, judged_first_no, judged_formerly_lem, formerly_judged}
use Rattle.claims.proofs.ClaimLaws.{same_claim}
use Rattle.claims.proofs.ReplyLaws.{Spanned, answer_spanned}
use Rattle.rule.specs.declared.node.Node.{Node}
use Rattle.rule.specs.Table.{table_limit, climbs}
use Rattle.rule.specs.Node.{blanks, table_by, pending_of, node_keys, node_of, empty_node, holds_all, all_fit, all_tell, telling, all_unused, saved_in_order, node_in_order}
use Rattle.rule.proofs.TableLaws.{climbs_those, those_mem, those_snoc, those_all, length_those}

-- ---- keys held, and claims that fit

pub holds_all_sub : (ks l : List ℕ) → holds_all ks l ≡ true → Sub ks l
holds_all_sub [] l h k m = absurd (Memᴰ.not-nil m)
holds_all_sub (x ∷ xs) l h k (Memᴰ.head e) = Memᴰ.cast e (holds_mem x l (and_left (holds x l) (holds_all xs l) h))
holds_all_sub (x ∷ xs) l h k (Memᴰ.tail m) = holds_all_sub xs l (and_right (holds x l) (holds_all xs l) h) k m

pub sub_holds_all : (ks l : List ℕ) → Sub ks l → holds_all ks l ≡ true
sub_holds_all [] l s = refl
sub_holds_all (x ∷ xs) l s = and_both (holds x l) (holds_all xs l) (mem_holds x l (s x (Memᴰ.head refl))) (sub_holds_all xs l (λ k m. s k (Memᴰ.tail m)))

-- a claim may be pending beside the keys l, by how it is judged ..
pub record FitsBy (judge : Claim → ℕ) (c : Claim) (l : List ℕ) : Type 0 where
  pub passes : judge c ≡ 0
  pub held : Sub (ends c) l

-- .. in a node
abbrev pub Fits : Claim → List ℕ → Type 0
Fits = FitsBy judged

pub fits_sub : (c : Claim) (l m : List ℕ) → Sub l m → Fits c l → Fits c m
fits_sub c l m s f = record { passes = f.passes; held = sub_trans (ends c) l m f.held s }

module _ (c : Claim) (l : List ℕ) (f : Fits c l) where
  pub fits_passes : Passes c
  fits_passes = passes c (sym (judged_first_no c) ∙ f.passes)

  pub fits_lo : Memᴰ c.lo l
  fits_lo = f.held c.lo (Memᴰ.head refl)

  pub fits_hi : Memᴰ c.hi l
  fits_hi = f.held c.hi (Memᴰ.tail (Memᴰ.head refl))

  -- the claims of the answer to such a claim are those of spans of l
  pub fits_spanned : Rising l → (d : Claim) → Memᴰ d (claims_of (answer c l)) → Spanned l d
  fits_spanned r = answer_spanned c l r fits_passes fits_lo fits_hi

-- the claims of an image
pub all_fit_mem : (t : List Claim) (l : List ℕ) → all_fit t l ≡ true → (c : Claim) → Memᴰ c t → FitsBy judged_formerly c l
all_fit_mem [] l h c m = absurd (Memᴰ.not-nil m)
all_fit_mem (d ∷ ds) l h c (Memᴰ.head e) =
    let rest = and_right (eqb (judged_formerly d) 0) (holds_all (ends d) l && all_fit ds l) h in
    let p : judged_formerly d ≡ 0 = eqb-true (judged_formerly d) 0 (and_left (eqb (judged_formerly d) 0) (holds_all (ends d) l && all_fit ds l) h) in
    let f : FitsBy judged_formerly d l = record { passes = p; held = holds_all_sub (ends d) l (and_left (holds_all (ends d) l) (all_fit ds l) rest) } in
    subst (λ (x : Claim). FitsBy judged_formerly x l) (sym e) f
all_fit_mem (d ∷ ds) l h c (Memᴰ.tail m) =
    all_fit_mem ds l (and_right (holds_all (ends d) l) (all_fit ds l) (and_right (eqb (judged_formerly d) 0) (holds_all (ends d) l && all_fit ds l) h)) c m

pub mem_all_fit : (t : List Claim) (l : List ℕ) → ((c : Claim) → Memᴰ c t → FitsBy judged_formerly c l) → all_fit t l ≡ true
mem_all_fit [] l f = refl
mem_all_fit (d ∷ ds) l f =
    let g : FitsBy judged_formerly d l = f d (Memᴰ.head refl) in
    and_both (eqb (judged_formerly d) 0) (holds_all (ends d) l && all_fit ds l) (eq-eqb (judged_formerly d) 0 g.passes)
    (and_both (holds_all (ends d) l) (all_fit ds l) (sub_holds_all (ends d) l g.held) (mem_all_fit ds l (λ c m. f c (Memᴰ.tail m))))

-- one that passes 16 as well fits a node, and the other way round
pub fits_told : (c : Claim) (l : List ℕ) → FitsBy judged_formerly c l → (question16 c).yes ≡ true → Fits c l
fits_told c l f told = record { passes = formerly_judged c f.passes told; held = f.held }

pub fits_formerly : (c : Claim) (l : List ℕ) → Fits c l → FitsBy judged_formerly c l
fits_formerly c l f = record { passes = (judged_formerly_lem c f.passes).0; held = f.held }

-- ---- claims that pass 16

pub all_tell_mem : (t : List Claim) → all_tell t ≡ true → (c : Claim) → Memᴰ c t → (question16 c).yes ≡ true
all_tell_mem [] h c m = absurd (Memᴰ.not-nil m)
all_tell_mem (d ∷ ds) h c (Memᴰ.head e) = ap (λ (x : Claim). (question16 x).yes) e ∙ and_left (question16 d).yes (all_tell ds) h
all_tell_mem (d ∷ ds) h c (Memᴰ.tail m) = all_tell_mem ds (and_right (question16 d).yes (all_tell ds) h) c m

pub mem_all_tell : (t : List Claim) → ((c : Claim) → Memᴰ c t → (question16 c).yes ≡ true) → all_tell t ≡ true
mem_all_tell [] f = refl
mem_all_tell (d ∷ ds) f =
    and_both (question16 d).yes (all_tell ds) (f d (Memᴰ.head refl)) (mem_all_tell ds (λ c m. f c (Memᴰ.tail m)))

-- those that do are claims of the table, no more of them, and in its order; one claim more
pub telling_mem : (t : List Claim) (c : Claim) → Memᴰ c (telling t) → Memᴰ c t × ((question16 c).yes ≡ true)
telling_mem = those_mem (λ (c : Claim). (question16 c).yes)

pub length_telling : (t : List Claim) → length (telling t) ≤ length t
length_telling = length_those (λ (c : Claim). (question16 c).yes)

climbs_telling : (t : List Claim) → climbs t ≡ true → climbs (telling t) ≡ true
climbs_telling = climbs_those (λ (c : Claim). (question16 c).yes)

pub telling_snoc : (t : List Claim) (c : Claim) → telling (t ++ (c ∷ [])) ≡ telling t ++ cond (question16 c).yes (c ∷ []) []
telling_snoc = those_snoc (λ (c : Claim). (question16 c).yes)

-- where all pass it, none is left out
pub telling_all : (t : List Claim) → all_tell t ≡ true → telling t ≡ t
telling_all t h = those_all (λ (c : Claim). (question16 c).yes) t (all_tell_mem t h)

-- ---- blanks

pub length_blanks : (n : ℕ) → length (blanks n) ≡ n
unfolding blanks
length_blanks n = length-replicate n no_claim

pub drop_blanks : (k n : ℕ) → drop k (blanks n) ≡ blanks (n - k)
unfolding blanks
drop_blanks k n = drop_replicate k n no_claim

pub blanks_suc : (n : ℕ) → blanks (suc n) ≡ no_claim ∷ blanks n
unfolding blanks
blanks_suc n = refl

pub blanks_snoc : (n : ℕ) → blanks n ++ (no_claim ∷ []) ≡ blanks (suc n)
unfolding blanks
blanks_snoc zero = refl
blanks_snoc (suc n) = ap (λ (l : List Claim). no_claim ∷ l) (blanks_snoc n)

pub blanks_append : (m n : ℕ) → blanks m ++ blanks n ≡ blanks (m + n)
unfolding blanks
blanks_append zero n = rw (zero-add n)
blanks_append (suc m) n = rw (suc-add m n) (ap (λ (l : List Claim). no_claim ∷ l) (blanks_append m n))

pub all_unused_blanks : (n : ℕ) → all_unused (blanks n) ≡ true
unfolding blanks
all_unused_blanks zero = refl
all_unused_blanks (suc n) = all_unused_blanks n

pub blanks_all_unused : (t : List Claim) → all_unused t ≡ true → t ≡ blanks (length t)
unfolding blanks
blanks_all_unused [] h = refl
blanks_all_unused (c ∷ cs) h =
    let e : c ≡ no_claim = same_claim c no_claim (and_left (same c no_claim) (all_unused cs) h) in
    let p : cs ≡ blanks (length cs) = blanks_all_unused cs (and_right (same c no_claim) (all_unused cs) h) in
    cc

-- how many places a table has, from what is known of an array of structs in a struct
pub length_mapped : (X Y : Type 0) (f : X → Y) (l : List X) (n : ℕ) → length (map f l) ≡ n → length l ≡ n
length_mapped X Y f l n e = sym (length-map l f) ∙ e

-- ---- what "in order" says

-- by how its pending claims are judged ..
pub record OrderedBy (judge : Claim → ℕ) (n : Node) : Type 0 where
  pub store : in_order n.store ≡ true
  pub count : n.pending.count ≤ table_limit
  pub table : climbs (pending_of n) ≡ true
  pub fit : (c : Claim) → Memᴰ c (pending_of n) → FitsBy judge c (node_keys n)
  pub unused : all_unused (drop n.pending.count n.pending.claims) ≡ true

-- .. as a node that is given, and as one in an image
abbrev pub Ordered : Node → Type 0
Ordered = OrderedBy judged

abbrev pub Saved : Node → Type 0
Saved = OrderedBy judged_formerly

pub saved_in_order_saved : (n : Node) → saved_in_order n ≡ true → Saved n
unfolding saved_in_order
saved_in_order_saved n h =
    let a : Bool = in_order n.store in
    let b : Bool = leb n.pending.count table_limit in
    let c : Bool = climbs (pending_of n) in
    let d : Bool = all_fit (pending_of n) (node_keys n) in
    let e : Bool = all_unused (drop n.pending.count n.pending.claims) in
    let h1 : (b && (c && (d && e))) ≡ true = and_right a (b && (c && (d && e))) h in
    let h2 : (c && (d && e)) ≡ true = and_right b (c && (d && e)) h1 in
    let h3 : (d && e) ≡ true = and_right c (d && e) h2 in
    record {
      store = and_left a (b && (c && (d && e))) h;
      count = leb-true n.pending.count table_limit (and_left b (c && (d && e)) h1);
      table = and_left c (d && e) h2;
      fit = all_fit_mem (pending_of n) (node_keys n) (and_left d e h3);
      unused = and_right d e h3;
    }

pub saved_saved_in_order : (n : Node) → Saved n → saved_in_order n ≡ true
unfolding saved_in_order
saved_saved_in_order n o =
    let b : Bool = leb n.pending.count table_limit in
    let c : Bool = climbs (pending_of n) in
    let d : Bool = all_fit (pending_of n) (node_keys n) in
    let e : Bool = all_unused (drop n.pending.count n.pending.claims) in
    and_both (in_order n.store) (b && (c && (d && e))) o.store
    (and_both b (c && (d && e)) (le-leb n.pending.count table_limit o.count)
    (and_both c (d && e) o.table
    (and_both d e (mem_all_fit (pending_of n) (node_keys n) o.fit) o.unused)))

-- the node of some keys and claims, as one in an image
pub saved_in_order_node_of : (l : List ℕ) (t : List Claim)
    → saved_in_order (node_of l t) ≡ (in_order (store_of l) && (leb (length t) table_limit && (climbs t && all_fit t l)))
unfolding saved_in_order node_of
saved_in_order_node_of l t =
    let b : List Claim = blanks (table_limit - length t) in
    let front : take (length t) (t ++ b) ≡ t = take_at t b (length t) refl in
    let past : drop (length t) (t ++ b) ≡ b = drop_at t b (length t) refl in
    rw (front, past, keys_of_store_of l, all_unused_blanks (table_limit - length t), and-true (all_fit t l))

-- in order by another judgement, if the pending claims fit by it
rejudged : (a b : Claim → ℕ) (n : Node) → OrderedBy a n
    → ((c : Claim) → Memᴰ c (pending_of n) → FitsBy a c (node_keys n) → FitsBy b c (node_keys n)) → OrderedBy b n
rejudged a b n o f = record { store = o.store; count = o.count; table = o.table; fit = λ c m. f c m (o.fit c m); unused = o.unused }

pub ordered_saved : (n : Node) → Ordered n → Saved n
ordered_saved n o = rejudged judged judged_formerly n o (λ c m. fits_formerly c (node_keys n))

pub ordered_tells : (n : Node) → Ordered n → all_tell (pending_of n) ≡ true
ordered_tells n o = mem_all_tell (pending_of n) (λ c m. (judged_formerly_lem c (o.fit c m).passes).1)

pub node_in_order_ordered : (n : Node) → node_in_order n ≡ true → Ordered n
unfolding node_in_order
node_in_order_ordered n h =
    let saved = saved_in_order_saved n (and_left (saved_in_order n) (all_tell (pending_of n)) h) in
    let told = all_tell_mem (pending_of n) (and_right (saved_in_order n) (all_tell (pending_of n)) h) in
    rejudged judged_formerly judged n saved (λ c m f. fits_told c (node_keys n) f (told c m))

pub ordered_node_in_order : (n : Node) → Ordered n → node_in_order n ≡ true
unfolding node_in_order
ordered_node_in_order n o = and_both (saved_in_order n) (all_tell (pending_of n)) (saved_saved_in_order n (ordered_saved n o)) (ordered_tells n o)

-- ---- a node whose store became the store of more keys

abbrev pub restored : Node → Store → Node
restored n s = record { store = s; pending = n.pending }

pub ordered_restored : (n : Node) (l : List ℕ) → Ordered n → Rising l → length l ≤ limit → Sub (node_keys n) l → Ordered (restored n (store_of l))
ordered_restored n l o r h s = record {
  store = in_order_store_of l r h;
  count = o.count;
  table = o.table;
  fit = λ c m. subst (λ (k : List ℕ). Fits c k) (sym (keys_of_store_of l)) (fits_sub c (node_keys n) l s (o.fit c m));
  unused = o.unused;
}

-- ---- the node of keys and claims

pub node_keys_node_of : (l : List ℕ) (t : List Claim) → node_keys (node_of l t) ≡ l
unfolding node_of
node_keys_node_of l t = keys_of_store_of l

pub store_node_of : (l : List ℕ) (t : List Claim) → (node_of l t).store ≡ store_of l
unfolding node_of
store_node_of l t = refl

pub pending_of_node_of : (l : List ℕ) (t : List Claim) → pending_of (node_of l t) ≡ t
unfolding node_of
pending_of_node_of l t = take-append_seam t (blanks (table_limit - length t))

pub ordered_node_of : (l : List ℕ) (t : List Claim) → Rising l → length l ≤ limit → length t ≤ table_limit → climbs t ≡ true →
    ((c : Claim) → Memᴰ c t → Fits c l) → Ordered (node_of l t)
unfolding node_of
ordered_node_of l t r h g u f = record {
  store = in_order_store_of l r h;
  count = g;
  table = rw (take-append_seam t (blanks (table_limit - length t))) u;
  fit = rw (take-append_seam t (blanks (table_limit - length t)), keys_of_store_of l) f;
  unused = rw (drop-append_seam t (blanks (table_limit - length t))) (all_unused_blanks (table_limit - length t));
}

-- a node in order, with as many places as the limits say, is the node of its keys and its pending claims
pub node_of_same : (n : Node) → Sized n.store → length n.pending.claims ≡ table_limit → Ordered n → n ≡ node_of (node_keys n) (pending_of n)
unfolding node_of
node_of_same n k p o =
    let s : n.store ≡ store_of (node_keys n) = store_of_keys_of n.store k o.store in
    let h : n.pending.count ≤ table_limit = o.count in
    let c : length (pending_of n) ≡ n.pending.count = length-take-le n.pending.count n.pending.claims (omega arith) in
    let d : length (drop n.pending.count n.pending.claims) ≡ table_limit - length (pending_of n) = length-drop n.pending.count n.pending.claims ∙ (omega arith) in
    let b : drop n.pending.count n.pending.claims ≡ blanks (table_limit - length (pending_of n))
    = blanks_all_unused (drop n.pending.count n.pending.claims) o.unused ∙ ap blanks d in
    let t : n.pending.claims ≡ pending_of n ++ blanks (table_limit - length (pending_of n))
    = sym (take-append-drop n.pending.count n.pending.claims) ∙ ap (λ (x : List Claim). pending_of n ++ x) b in
    λ i. record { store = s i; pending = table_by (t i) (sym c i) }

-- The node that is used of an image: without the claims that fail 16, it is in order as a node that is given.
pub ordered_telling : (l : List ℕ) (t : List Claim) → Saved (node_of l t) → Ordered (node_of l (telling t))
unfolding node_of store_of
ordered_telling l t o =
    let front : take (length t) (t ++ blanks (table_limit - length t)) ≡ t = take-append_seam t (blanks (table_limit - length t)) in
    let keys : keys_of (store_of l) ≡ l = keys_of_store_of l in
    let rise : Rising l = subst Rising keys (in_order_rising (store_of l) o.store) in
    let many : length t ≤ table_limit = o.count in
    ordered_node_of l (telling t) rise (in_order_count (store_of l) o.store) (omega (arith, length_telling t)) (climbs_telling t (rw front at o.table))
    (λ c m.
    let (there, told) = telling_mem t c m in
    fits_told c l (rw (front, keys) at o.fit c there) told)

-- ---- the empty node

pub empty_node_node_of : empty_node ≡ node_of [] []
unfolding empty_node node_of
empty_node_node_of = λ i. record { store = empty_store_store_of i; pending = table_by (blanks table_limit) 0 }

pub ordered_empty_node : Ordered empty_node
ordered_empty_node = rw empty_node_node_of (ordered_node_of [] [] tt (omega arith) (omega arith) refl (λ c m. absurd (Memᴰ.not-nil m)))
