-- The core of a round on flat words (specs/Core) is the round of `rule`, specs/Round, where both stores are in order and the records are enough. The
-- records are the queue itself: what waits stands, in its order, where its deliveries will be recorded. In order: a state of the core laid out from the
-- keys of both stores, what waits and what is delivered; one delivery; deliveries until none waits; the end of a half; the whole claim; both halves. Assumes
-- nothing.
use Prim.Native.Nat.{ℕ, zero, suc, ◌+◌, ◌-◌, ◌*◌, ◌≤◌, ◌<◌}
use mathlib.Core.List.Memᴰ
use mathlib.Core.List.{List, [], ◌∷◌, ◌++◌, map, map-append, append_assoc, append-nil}
use mathlib.Core.Path.{◌≡◌, refl, sym, ap, ap₂, ◌∙◌, subst}
use native.Mathlib.Omega.{arith}
use borrow.Author.Tests.{eq-eqb, ne_eqb, lt-ltb, le-leb}
use lib.ListN.{length, length-append, length-map}
use Rattle.keys.proofs.SumLaws.{MarkedOf, marked_all_lem, finish_marked}
use Rattle.keys.specs.Lent.{Marked, marked_all}
use Rattle.keys.specs.Store.{limit, store_of}
use Rattle.keys.specs.Place.{put_at}
use Rattle.keys.proofs.Rising.{Rising, rising_length}
use Rattle.keys.proofs.StoreLaws.{count_store_of}
use Rattle.claims.specs.Answer.{Answer}
use Rattle.claims.specs.declared.claim.Claim.{Claim}
use Rattle.claims.specs.Claim.{claim_of, whole_claim}
use Rattle.claims.specs.Reply.{with_ends, hear, reply, claims_of}
use Rattle.claims.specs.Lent.{make_in, reply_in}
use Rattle.claims.proofs.QuestionLaws.{Passes}
use Rattle.claims.proofs.ReplyLaws.{hear_rising, hear_sub, length_ends_hear}
use Rattle.claims.proofs.LentLaws.{reply_in_fits, make_in_store}
use Rattle.rule.specs.declared.delivery.Delivery.{Delivery}
use Rattle.rule.specs.Round.{End, left_end, right_end, sender_number, Pair, pair, Entry, waits, receiver, keys_before, delivered, answers}
use Rattle.rule.specs.Round.{Line, Run, run, half, round_of, transcript, union}
use Rattle.rule.specs.Call.{records_in, delivery_words}
use Rattle.rule.proofs.Pair.{Rises, union_of, rises_pair}
use Rattle.rule.proofs.Entry.{Sound, weights, sound_limit, length_waits}
use Rattle.rule.proofs.Deliver.{adding_within}
use Rattle.rule.proofs.Half.{Fine, fine_step, weights_step, fine_length, run_nil, run_cons, run_more}
use Rattle.rule.proofs.Half.{opening, halfway_opening, half_run, half_fine, half_union, length_half}
use Rattle.rule.proofs.Union.{length_left_union, length_right_union}
use Rattle.transcript.specs.Core.{sender_in, claim_in, Log, delivery, put_records, put_whole}
use Rattle.transcript.specs.Core.{Core, first_waiting, step, steps, finish, settled, opened, reopened, both}
use Rattle.transcript.proofs.StepLaws.{steps_on, steps_off}
use Rattle.transcript.proofs.WordsLaws.{length_over, sender_at, claim_at, log_of, put_records_append}

-- ---- a state of the core

-- the record of what waits
abbrev pub noted : Entry → Delivery
noted e = delivery (sender_number e.sender) e.claim

-- the core is where both stores have the keys of p, `done` is delivered and q waits, over the words `lent`
pub record Laid (lent : List ℕ) (p : Pair) (q : List Entry) (done : List Delivery) (s : Core) : Type 0 where
  pub left_is : MarkedOf p.left s.left
  pub right_is : MarkedOf p.right s.right
  pub log_is : s.log ≡ log_of (done ++ map noted q) lent
  pub head_is : s.head ≡ length done

-- claims that wait from one end are noted in their order
noted_waits : (s : End) (l : List ℕ) (cs : List Claim) → map noted (waits s l cs) ≡ map (delivery (sender_number s)) cs
noted_waits s l [] = refl
noted_waits s l (c ∷ cs) = ap (λ (t : List Delivery). delivery (sender_number s) c ∷ t) (noted_waits s l cs)

-- one delivery moves its record from what waits to what is delivered, and puts the answers last
noted_step : (done : List Delivery) (e : Entry) (q a : List Entry)
    → (done ++ map noted (e ∷ q)) ++ map noted a ≡ (done ++ (noted e ∷ [])) ++ map noted (q ++ a)
noted_step done e q a =
    append_assoc done (noted e ∷ map noted q) (map noted a)
    ∙ (ap (λ (t : List Delivery). done ++ (noted e ∷ t)) (sym (map-append noted q a))
    ∙ sym (append_assoc done (noted e ∷ []) (map noted (q ++ a))))

-- ---- one delivery

module _ (lent u : List ℕ) (p : Pair) (e : Entry) (q : List Entry) (done : List Delivery) (s : Core)
    (fine : Fine u p (e ∷ q)) (laid : Laid lent p (e ∷ q) done s) (room : length done + weights u p (e ∷ q) ≤ records_in lent) where
  sound : Sound p e
  sound = fine.sound e (Memᴰ.head refl)

  passes : Passes e.claim
  passes = sound_limit p e u sound fine.within fine.whole fine.fits

  fits_words : length (done ++ map noted (e ∷ q)) ≤ records_in lent
  fits_words = omega (arith, length-append done (map noted (e ∷ q)), length-map (e ∷ q) noted, fine_length u p (e ∷ q) fine, room)

  -- what is read of the first record waiting
  words_are : s.log.words ≡ put_at lent 0 (delivery_words (done ++ map noted (e ∷ q)))
  words_are = ap (λ (l : Log). l.words) laid.log_is

  sender_is : sender_in s.log.words s.head ≡ sender_number e.sender
  sender_is = ap₂ sender_in words_are laid.head_is ∙ sender_at done (noted e) (map noted q) lent

  claim_is : first_waiting s ≡ e.claim
  claim_is = ap₂ claim_in words_are laid.head_is ∙ claim_at done (noted e) (map noted q) lent fits_words passes.at_most

  -- its ends fit beside the receiver's keys
  ends_fit : length (with_ends e.claim (keys_before e p)) ≤ limit
  ends_fit =
      let a : length (hear e.claim (keys_before e p)) ≤ length u =
      rising_length (hear e.claim (keys_before e p)) u (hear_rising e.claim (keys_before e p) (fine.rises (receiver e))) fine.whole
      (hear_sub e.claim (keys_before e p) u (adding_within u p e sound fine.within) (fine.within (receiver e))) in
      omega (arith, fine.fits, length_ends_hear e.claim (keys_before e p))

  keys_short : length (keys_before e p) ≤ limit
  keys_short = omega (arith, rising_length (keys_before e p) u (fine.rises (receiver e)) fine.whole (fine.within (receiver e)), fine.fits)

  -- what the receiver replies, whose store has these keys: it then has those that it heard, and the answer is the rule's
  replied : (own : Marked) → MarkedOf (keys_before e p) own
      → MarkedOf (hear e.claim (keys_before e p)) (reply_in own (first_waiting s)).marked
      × ((reply_in own (first_waiting s)).answer ≡ reply e.claim (keys_before e p))
  replied own k = rw claim_is (reply_in_fits (keys_before e p) keys_short (fine.rises (receiver e)) own k e.claim passes ends_fit)

  -- the answers' records go after the last one
  answers_fit : length (done ++ map noted (e ∷ q)) + length (claims_of (reply e.claim (keys_before e p))) ≤ records_in lent
  answers_fit =
      let next-fine = fine_step u p e q fine in
      let a : length (answers e p) ≡ length (claims_of (reply e.claim (keys_before e p))) =
      length_waits (receiver e) (hear e.claim (keys_before e p)) (claims_of (reply e.claim (keys_before e p))) in
      let b : length (q ++ answers e p) ≤ weights u (delivered e p) (q ++ answers e p) = fine_length u (delivered e p) (q ++ answers e p) next-fine in
      let n : length (done ++ map noted (e ∷ q)) ≡ length done + length (map noted (e ∷ q)) = length-append done (map noted (e ∷ q)) in
      let m : length (map noted (e ∷ q)) ≡ suc (length q) = length-map (e ∷ q) noted in
      let k : length (q ++ answers e p) ≡ length q + length (answers e p) = length-append q (answers e p) in
      let w : weights u (delivered e p) (q ++ answers e p) + 1 ≤ weights u p (e ∷ q) = weights_step u p e q fine in
      omega (arith, room)

  -- the records then
  written : (done ++ map noted (e ∷ q)) ++ map (delivery (sender_number (receiver e))) (claims_of (reply e.claim (keys_before e p)))
      ≡ (done ++ (noted e ∷ [])) ++ map noted (q ++ answers e p)
  written =
      ap (λ (t : List Delivery). (done ++ map noted (e ∷ q)) ++ t)
      (sym (noted_waits (receiver e) (hear e.claim (keys_before e p)) (claims_of (reply e.claim (keys_before e p)))))
      ∙ noted_step done e q (answers e p)

  log_then : put_records s.log (sender_number (receiver e)) (claims_of (reply e.claim (keys_before e p)))
      ≡ log_of ((done ++ (noted e ∷ [])) ++ map noted (q ++ answers e p)) lent
  log_then =
      ap (λ (l : Log). put_records l (sender_number (receiver e)) (claims_of (reply e.claim (keys_before e p)))) laid.log_is
      ∙ (put_records_append (done ++ map noted (e ∷ q)) lent (sender_number (receiver e)) (claims_of (reply e.claim (keys_before e p))) answers_fit
      ∙ ap (λ (t : List Delivery). log_of t lent) written)

  -- .. by the answer that was given
  log_by : (a : Answer) → a ≡ reply e.claim (keys_before e p)
      → put_records s.log (sender_number (receiver e)) (claims_of a) ≡ log_of ((done ++ (noted e ∷ [])) ++ map noted (q ++ answers e p)) lent
  log_by a told = ap (λ (x : Answer). put_records s.log (sender_number (receiver e)) (claims_of x)) told ∙ log_then

  head_then : s.head + 1 ≡ length (done ++ (noted e ∷ []))
  head_then = ap (λ (n : ℕ). n + 1) laid.head_is ∙ sym (length-append done (noted e ∷ []))

-- by the sender: to the right end, or to the left one
laid_deliver : (lent u : List ℕ) (p : Pair) (x : End) (c : Claim) (claimed : List ℕ) (q : List Entry) (done : List Delivery) (s : Core)
    → Fine u p (record { sender = x; claim = c; claimed = claimed } ∷ q) → Laid lent p (record { sender = x; claim = c; claimed = claimed } ∷ q) done s
    → length done + weights u p (record { sender = x; claim = c; claimed = claimed } ∷ q) ≤ records_in lent
    → Laid lent (delivered (record { sender = x; claim = c; claimed = claimed }) p) (q ++ answers (record { sender = x; claim = c; claimed = claimed }) p)
    (done ++ (noted (record { sender = x; claim = c; claimed = claimed }) ∷ [])) (step s)
unfolding step
laid_deliver lent u p left_end c claimed q done s fine laid room =
    let e : Entry = record { sender = left_end; claim = c; claimed = claimed } in
    let (right, told) = replied lent u p e q done s fine laid room s.right laid.right_is in
    rw (eq-eqb (sender_in s.log.words s.head) 0 (sender_is lent u p e q done s fine laid room))
    (record {
      left_is = laid.left_is;
      right_is = right;
      log_is = log_by lent u p e q done s fine laid room (reply_in s.right (first_waiting s)).answer told;
      head_is = head_then lent u p e q done s fine laid room;
    })
laid_deliver lent u p right_end c claimed q done s fine laid room =
    let e : Entry = record { sender = right_end; claim = c; claimed = claimed } in
    let one : sender_in s.log.words s.head ≡ 1 = sender_is lent u p e q done s fine laid room in
    let (left, told) = replied lent u p e q done s fine laid room s.left laid.left_is in
    rw (ne_eqb (sender_in s.log.words s.head) 0 (λ (z : sender_in s.log.words s.head ≡ 0). omega arith))
    (record {
      left_is = left;
      right_is = laid.right_is;
      log_is = log_by lent u p e q done s fine laid room (reply_in s.left (first_waiting s)).answer told;
      head_is = head_then lent u p e q done s fine laid room;
    })

laid_step : (lent u : List ℕ) (p : Pair) (e : Entry) (q : List Entry) (done : List Delivery) (s : Core)
    → Fine u p (e ∷ q) → Laid lent p (e ∷ q) done s → length done + weights u p (e ∷ q) ≤ records_in lent
    → Laid lent (delivered e p) (q ++ answers e p) (done ++ (noted e ∷ [])) (step s)
laid_step lent u p e q done s fine laid room = laid_deliver lent u p e.sender e.claim e.claimed q done s fine laid room

-- ---- deliveries until none waits

laid_none : (n : ℕ) (lent : List ℕ) (p : Pair) (done : List Delivery) (s : Core) → Laid lent p [] done s
    → Laid lent (run n p []).stores [] (done ++ transcript (run n p [])) (steps n s)
laid_none n lent p done s laid =
    let same : length (done ++ map noted []) ≡ length done = ap length (append-nil done) in
    let tail_is : s.log.tail ≡ length (done ++ map noted []) = ap (λ (l : Log). l.tail) laid.log_is in
    rw (run_nil n p, append-nil done, steps_off n s (omega (arith, laid.head_is, tail_is))) laid

laid_steps : (n : ℕ) (lent u : List ℕ) (p : Pair) (q : List Entry) (done : List Delivery) (s : Core)
    → Fine u p q → Laid lent p q done s → length done + weights u p q ≤ records_in lent → weights u p q ≤ n
    → Laid lent (run n p q).stores [] (done ++ transcript (run n p q)) (steps n s)
laid_steps zero lent u p [] done s fine laid room h = laid_none zero lent p done s laid
laid_steps (suc n) lent u p [] done s fine laid room h = laid_none (suc n) lent p done s laid
laid_steps zero lent u p (e ∷ q) done s fine laid room h = absurd (omega (arith, weights_step u p e q fine))
laid_steps (suc n) lent u p (e ∷ q) done s fine laid room h =
    let tail_is : s.log.tail ≡ length (done ++ map noted (e ∷ q)) = ap (λ (l : Log). l.tail) laid.log_is in
    let less : s.head < s.log.tail = omega (arith, laid.head_is, length-append done (map noted (e ∷ q))) in
    let one : length (done ++ (noted e ∷ [])) ≡ length done + 1 = length-append done (noted e ∷ []) in
    let w : weights u (delivered e p) (q ++ answers e p) + 1 ≤ weights u p (e ∷ q) = weights_step u p e q fine in
    let again = laid_steps n lent u (delivered e p) (q ++ answers e p) (done ++ (noted e ∷ [])) (step s) (fine_step u p e q fine)
    (laid_step lent u p e q done s fine laid room) (omega arith) (omega arith) in
    let joined = append_assoc done (noted e ∷ []) (transcript (run n (delivered e p) (q ++ answers e p))) in
    rw (run_cons n p e q, steps_on n s less)
    (subst (λ (t : List Delivery). Laid lent (run n (delivered e p) (q ++ answers e p)).stores [] t (steps n (step s))) joined again)

-- whatever number of steps is enough
laid_finish : (m : ℕ) (lent u : List ℕ) (p : Pair) (q : List Entry) (done : List Delivery) (s : Core)
    → Fine u p q → Laid lent p q done s → length done + weights u p q ≤ records_in lent → weights u p q ≤ m
    → Laid lent (run m p q).stores [] (done ++ transcript (run m p q)) (finish s)
laid_finish m lent u p q done s fine laid room h =
    let n : ℕ = records_in s.log.words - s.head in
    let fits : length (done ++ map noted q) ≤ records_in lent =
    omega (arith, length-append done (map noted q), length-map q noted, fine_length u p q fine, room) in
    let same : length s.log.words ≡ length lent = ap (λ (l : Log). length l.words) laid.log_is ∙ length_over (done ++ map noted q) lent fits in
    let enough : weights u p q ≤ n = omega (arith, laid.head_is, room) in
    subst (λ (r : Run). Laid lent r.stores [] (done ++ transcript r) (finish s)) (run_more n m u p q fine enough h)
    (laid_steps n lent u p q done s fine laid room enough)

-- ---- the end of a half

-- nothing waits, and all sums of both stores are right
pub record Whole (lent : List ℕ) (p : Pair) (done : List Delivery) (s : Core) : Type 0 where
  pub left_is : s.left ≡ marked_all (store_of p.left)
  pub right_is : s.right ≡ marked_all (store_of p.right)
  pub log_is : s.log ≡ log_of done lent

whole_settled : (lent : List ℕ) (p : Pair) (done : List Delivery) (s : Core) → Laid lent p [] done s → length p.left ≤ limit → length p.right ≤ limit
    → Whole lent p done (settled s)
whole_settled lent p done s laid l r = record {
  left_is = ap marked_all (finish_marked p.left s.left l laid.left_is);
  right_is = ap marked_all (finish_marked p.right s.right r laid.right_is);
  log_is = laid.log_is ∙ ap (λ (t : List Delivery). log_of t lent) (append-nil done);
}

-- ---- the whole claim

whole_claim_lem : (k : ℕ) (ks : List ℕ) → length (k ∷ ks) ≤ limit
    → (make_in (store_of (k ∷ ks)) 0 ((store_of (k ∷ ks)).count - 1)).claim ≡ claim_of 0 (length ks) (k ∷ ks)
whole_claim_lem k ks h =
    let l : List ℕ = k ∷ ks in
    let e : (store_of l).count - 1 ≡ length ks = omega (arith, count_store_of l) in
    ap (λ (n : ℕ). (make_in (store_of l) 0 n).claim) e
    ∙ rw (make_in_store l h 0 (length ks), le-leb 0 (length ks) (omega arith), lt-ltb (length ks) (length l) (omega arith))

whole_put : (lent : List ℕ) (ds : List Delivery) (l : List ℕ) (sender : ℕ) → length l ≤ limit → length ds + length l ≤ records_in lent
    → put_whole (store_of l) (log_of ds lent) sender ≡ log_of (ds ++ map (delivery sender) (whole_claim l)) lent
unfolding put_whole
whole_put lent ds [] sender h room = rw (count_store_of []) (ap (λ (t : List Delivery). log_of t lent) (sym (append-nil ds)))
whole_put lent ds (k ∷ ks) sender h room =
    rw (whole_claim_lem k ks h, count_store_of (k ∷ ks), ne_eqb (length (k ∷ ks)) 0 (λ (z : length (k ∷ ks) ≡ 0). omega arith))
    (put_records_append ds lent sender (whole_claim (k ∷ ks)) (omega arith))

-- ---- both halves

-- the left end's whole claim put first
laid_opened : (lent l r : List ℕ) → length l ≤ limit → length r ≤ limit → length l ≤ records_in lent
    → Laid lent (pair l r) (opening left_end (pair l r)) [] (opened (store_of l) (store_of r) lent)
unfolding opened put_at
laid_opened lent l r h g room =
    let w = whole_put lent [] l 0 h (omega arith) in
    let e : map (delivery 0) (whole_claim l) ≡ map noted (opening left_end (pair l r)) = sym (noted_waits left_end l (whole_claim l)) in
    record { left_is = marked_all_lem l h; right_is = marked_all_lem r g; log_is = w ∙ ap (λ (t : List Delivery). log_of t lent) e; head_is = refl }

-- the right end's whole claim put after what is delivered
laid_reopened : (lent : List ℕ) (p : Pair) (done : List Delivery) (s : Core) → Whole lent p done s
    → length p.left ≤ limit → length p.right ≤ limit → length done + length p.right ≤ records_in lent → Laid lent p (opening right_end p) done (reopened s)
unfolding reopened
laid_reopened lent p done s whole l r room =
    let e : map (delivery 1) (whole_claim p.right) ≡ map noted (opening right_end p) = sym (noted_waits right_end p.right (whole_claim p.right)) in
    record {
      left_is = subst (MarkedOf p.left) (sym whole.left_is) (marked_all_lem p.left l);
      right_is = subst (MarkedOf p.right) (sym whole.right_is) (marked_all_lem p.right r);
      log_is =
          ap₂ (λ (x : Marked) (t : Log). put_whole x.store t 1) whole.right_is whole.log_is
          ∙ (whole_put lent done p.right 1 r room ∙ ap (λ (t : List Delivery). log_of (done ++ t) lent) e);
      head_is = ap (λ (t : Log). t.tail) whole.log_is;
    }

-- a half from where its whole claim was put, after `done` deliveries
whole_half : (x : End) (lent : List ℕ) (p : Pair) (done : List Delivery) (s : Core) → Rises p → length (union_of p) ≤ limit
    → length done + length (union_of p) ≤ records_in lent → Laid lent p (opening x p) done s
    → Whole lent (half x p).stores (done ++ transcript (half x p)) (settled (finish s))
whole_half x lent p done s rises fits room laid =
    let open_half = halfway_opening x p rises fits in
    let ran = laid_finish (length (union_of p)) lent (union_of p) p (opening x p) done s open_half.fine laid
    (omega (arith, open_half.light)) open_half.light in
    let q : Pair = (half x p).stores in
    let after : Rises q = (half_fine x p rises fits).rises in
    let n : length (union_of q) ≡ length (union_of p) = ap length (half_union x p rises fits) in
    whole_settled lent q (done ++ transcript (half x p)) (finish s)
    (subst (λ (b : Run). Laid lent b.stores [] (done ++ transcript b) (finish s)) (sym (half_run x p)) ran)
    (omega (arith, length_left_union q.left q.right (after left_end) (after right_end)))
    (omega (arith, length_right_union q.left q.right (after right_end)))

-- The core is the round.
pub whole_both : (lent l r : List ℕ) → Rising l → Rising r → length (union l r) ≤ limit → 2 * length (union l r) ≤ records_in lent
    → Whole lent (round_of l r).stores (transcript (round_of l r)) (both (store_of l) (store_of r) lent)
unfolding both round_of
whole_both lent l r rl rr fits room =
    let p : Pair = pair l r in
    let a : Run = half left_end p in
    let q : Pair = a.stores in
    let rp : Rises p = rises_pair l r rl rr in
    let rq : Rises q = (half_fine left_end p rp fits).rises in
    let n : length (union_of q) ≡ length (union l r) = ap length (half_union left_end p rp fits) in
    let left_le : length l ≤ length (union l r) = length_left_union l r rl rr in
    let right_le : length r ≤ length (union l r) = length_right_union l r rr in
    let left_le_then : length q.left ≤ length (union_of q) = length_left_union q.left q.right (rq left_end) (rq right_end) in
    let right_le_then : length q.right ≤ length (union_of q) = length_right_union q.left q.right (rq right_end) in
    let made : length (transcript a) ≡ length a.lines = length-map a.lines (λ (x : Line). x.delivery) in
    let few : length a.lines ≤ length (union l r) = length_half left_end p rp fits in
    let first = whole_half left_end lent p [] (opened (store_of l) (store_of r) lent) rp fits (omega arith)
    (laid_opened lent l r (omega arith) (omega arith) (omega arith)) in
    let first_half : Core = settled (finish (opened (store_of l) (store_of r) lent)) in
    let second = whole_half right_end lent q (transcript a) (reopened first_half) rq (omega arith) (omega arith)
    (laid_reopened lent q (transcript a) first_half first (omega arith) (omega arith) (omega arith)) in
    let joined : transcript a ++ transcript (half right_end q) ≡ map (λ (x : Line). x.delivery) (a.lines ++ (half right_end q).lines) =
    sym (map-append (λ (x : Line). x.delivery) a.lines (half right_end q).lines) in
    subst (λ (t : List Delivery). Whole lent (half right_end q).stores t (settled (finish (reopened first_half)))) joined second
