-- Records written, and deliveries until none waits (specs/Core, `put_record` to `opened`), for any content: each keeps how many records there are, and what
-- waits stays among them; a turn of the deliveries, and where they stop. Assumes nothing.
use Prim.Native.Nat.{ℕ, zero, suc, ◌+◌, ◌-◌, ◌*◌, ◌/◌, ◌≤◌, ◌<◌}
use mathlib.Core.Bool.{Bool, true, false, cond}
use mathlib.Core.List.{List, [], ◌∷◌}
use mathlib.Core.Path.{◌≡◌, refl, sym, ap, ◌∙◌}
use native.Mathlib.Omega.{arith}
use borrow.Author.Tests.{lt-ltb, le-ltb, ltb-true}
use lib.Dec.{ltb, eqb}
use lib.ListN.{length}
use Rattle.keys.specs.declared.store.Store.{Store}
use Rattle.keys.specs.Place.{put_at}
use Rattle.keys.proofs.PlaceLaws.{length_put_at}
use Rattle.claims.specs.declared.claim.Claim.{Claim}
use Rattle.claims.specs.Reply.{claims_of}
use Rattle.claims.specs.Lent.{make_in, reply_in}
use Rattle.rule.specs.Call.{record_width, record_words, records_in}
use Rattle.transcript.specs.Core.{sender_in, Log, log_with, delivery, put_record, put_records, put_whole}
use Rattle.transcript.specs.Core.{Core, first_waiting, to_right, to_left, step, steps, finish, opened}

-- ---- records written

module _ (log : Log) (sender : ℕ) where
  module _ (c : Claim) where
    -- the log with the record
    more : Log
    more = log_with (put_at log.words (log.tail * record_width) (record_words (delivery sender c))) (log.tail + 1)

    length_put_record : length (put_record log sender c).words ≡ length log.words
    unfolding put_record more
    length_put_record = go (ltb log.tail (records_in log.words)) refl
      where
        go : (t : Bool) → ltb log.tail (records_in log.words) ≡ t → length (cond t more log).words ≡ length log.words
        go true e =
            let g : log.tail < records_in log.words = ltb-true log.tail (records_in log.words) e in
            length_put_at log.words (log.tail * record_width) (record_words (delivery sender c)) (omega arith)
        go false e = refl

    tail_put_record : log.tail ≤ records_in log.words → (put_record log sender c).tail ≤ records_in log.words
    unfolding put_record more
    tail_put_record h = go (ltb log.tail (records_in log.words)) refl
      where
        go : (t : Bool) → ltb log.tail (records_in log.words) ≡ t → (cond t more log).tail ≤ records_in log.words
        go true e = let g : log.tail < records_in log.words = ltb-true log.tail (records_in log.words) e in omega arith
        go false e = h

length_put_records : (log : Log) (sender : ℕ) (cs : List Claim) → length (put_records log sender cs).words ≡ length log.words
length_put_records log sender [] = refl
length_put_records log sender (c ∷ cs) = length_put_records (put_record log sender c) sender cs ∙ length_put_record log sender c

tail_put_records : (log : Log) (sender : ℕ) (cs : List Claim) → log.tail ≤ records_in log.words → (put_records log sender cs).tail ≤ records_in log.words
tail_put_records log sender [] h = h
tail_put_records log sender (c ∷ cs) h =
    let same : length (put_record log sender c).words ≡ length log.words = length_put_record log sender c in
    omega (arith, tail_put_records (put_record log sender c) sender cs (omega (arith, tail_put_record log sender c h)))

pub length_put_whole : (s : Store) (log : Log) (sender : ℕ) → length (put_whole s log sender).words ≡ length log.words
unfolding put_whole
length_put_whole s log sender = go (eqb s.count 0)
  where
    go : (t : Bool) → length (cond t log (put_record log sender (make_in s 0 (s.count - 1)).claim)).words ≡ length log.words
    go true = refl
    go false = length_put_record log sender (make_in s 0 (s.count - 1)).claim

pub tail_put_whole : (s : Store) (log : Log) (sender : ℕ) → log.tail ≤ records_in log.words → (put_whole s log sender).tail ≤ records_in log.words
unfolding put_whole
tail_put_whole s log sender h = go (eqb s.count 0)
  where
    go : (t : Bool) → (cond t log (put_record log sender (make_in s 0 (s.count - 1)).claim)).tail ≤ records_in log.words
    go true = h
    go false = tail_put_record log sender (make_in s 0 (s.count - 1)).claim h

-- ---- one delivery

module _ (s : Core) where
  -- what holds whichever way it goes
  step_cases : (P : Core → Type 0) → P (to_right s (reply_in s.right (first_waiting s))) → P (to_left s (reply_in s.left (first_waiting s))) → P (step s)
  unfolding step
  step_cases P a b = go (eqb (sender_in s.log.words s.head) 0)
    where
      go : (t : Bool) → P (cond t (to_right s (reply_in s.right (first_waiting s))) (to_left s (reply_in s.left (first_waiting s))))
      go true = a
      go false = b

  pub length_step : length (step s).log.words ≡ length s.log.words
  length_step = step_cases (λ t. length t.log.words ≡ length s.log.words)
      (length_put_records s.log 1 (claims_of (reply_in s.right (first_waiting s)).answer))
      (length_put_records s.log 0 (claims_of (reply_in s.left (first_waiting s)).answer))

  pub head_step : (step s).head ≡ s.head + 1
  head_step = step_cases (λ t. t.head ≡ s.head + 1) refl refl

  pub tail_step : s.log.tail ≤ records_in s.log.words → (step s).log.tail ≤ records_in s.log.words
  tail_step h = step_cases (λ t. t.log.tail ≤ records_in s.log.words)
      (tail_put_records s.log 1 (claims_of (reply_in s.right (first_waiting s)).answer) h)
      (tail_put_records s.log 0 (claims_of (reply_in s.left (first_waiting s)).answer) h)

-- ---- deliveries until none waits

pub steps_on : (n : ℕ) (s : Core) → s.head < s.log.tail → steps (suc n) s ≡ steps n (step s)
unfolding steps
steps_on n s h = rw (lt-ltb s.head s.log.tail h)

pub finish_on : (s : Core) → s.head < s.log.tail → s.log.tail ≤ records_in s.log.words → finish s ≡ finish (step s)
finish_on s h g =
    let m : ℕ = records_in s.log.words - (s.head + 1) in
    let e : records_in s.log.words - s.head ≡ suc m = omega arith in
    let k : m ≡ records_in (step s).log.words - (step s).head =
    ap (λ (n : ℕ). n / record_width - (s.head + 1)) (sym (length_step s)) ∙ ap (λ (n : ℕ). records_in (step s).log.words - n) (sym (head_step s)) in
    ap (λ (n : ℕ). steps n s) e ∙ (steps_on m s h ∙ ap (λ (n : ℕ). steps n (step s)) k)

-- the end
pub steps_off : (n : ℕ) (s : Core) → s.log.tail ≤ s.head → steps n s ≡ s
unfolding steps
steps_off zero s h = refl
steps_off (suc n) s h = rw (le-ltb s.head s.log.tail h)

-- they keep how many records there are, and what waits stays among them
steps_bound : (n : ℕ) (s : Core) → s.log.tail ≤ records_in s.log.words
    → (length (steps n s).log.words ≡ length s.log.words) × ((steps n s).log.tail ≤ records_in s.log.words)
unfolding steps
steps_bound zero s h = (refl, h)
steps_bound (suc n) s h =
    let bound : (step s).log.tail ≤ records_in s.log.words = tail_step s h in
    let same : length (step s).log.words ≡ length s.log.words = length_step s in
    go (ltb s.head s.log.tail) (steps_bound n (step s) (omega arith)) same
  where
    go : (t : Bool) → (length (steps n (step s)).log.words ≡ length (step s).log.words) × ((steps n (step s)).log.tail ≤ records_in (step s).log.words)
        → length (step s).log.words ≡ length s.log.words
        → (length (cond t (steps n (step s)) s).log.words ≡ length s.log.words) × ((cond t (steps n (step s)) s).log.tail ≤ records_in s.log.words)
    go true b same = (b.0 ∙ same, omega (arith, b.1))
    go false b same = (refl, h)

-- the first half stays among the records, and settling writes none
pub opened_bound : (left right : Store) (words : List ℕ)
    → (length (finish (opened left right words)).log.words ≡ length words) × ((finish (opened left right words)).log.tail ≤ records_in words)
unfolding opened
opened_bound left right words =
    let w : Log = put_whole left (log_with words 0) 0 in
    let same : length w.words ≡ length words = length_put_whole left (log_with words 0) 0 in
    let bound : w.tail ≤ records_in words = tail_put_whole left (log_with words 0) 0 (omega arith) in
    let b = steps_bound (records_in w.words - 0) (opened left right words) (omega arith) in
    (b.0 ∙ same, omega (arith, b.1))
