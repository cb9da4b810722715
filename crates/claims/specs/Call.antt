-- What each public call of `claims` returns, for any content of what it is given: the first question answered no decides, and then the rule.
-- "A refusal returns its number, the given store or node, and zeros for any claim or count." Assumes nothing.
use Rattle.std.specs.Prelude.{ℕ, List, [], ◌∷◌, ◌++◌, ◌≡◌}
use Rattle.keys.specs.declared.store.Store.{Store}
use Rattle.keys.specs.Store.{keys_of, store_of, insert}
use Rattle.claims.specs.declared.claim.Claim.{Claim}
use Rattle.claims.specs.Answer.{Entered, Made, Replied, Refused}
use Rattle.claims.specs.Claim.{claim_of, no_claim}
use Rattle.claims.specs.Question.{Question, first_no, settle, question1, question6, question7}
use Rattle.claims.specs.Question.{former_questions, claim_questions}
use Rattle.claims.specs.Reply.{ends, hear, reply, number_of}

-- the questions of a single claim: 2 to 5 and 16
unfoldable pub judged : Claim → ℕ
judged c = first_no (claim_questions c)

-- those that were put before 16 came: by them the pending claims of an image are judged, "as before" (document 02, slip 2)
unfoldable pub judged_formerly : Claim → ℕ
judged_formerly c = first_no (former_questions c)

-- `enter` asks 1 and 6.
abbrev pub enter_questions : Store → ℕ → List Question
enter_questions s k = question1 s ∷ question6 (k ∷ []) (keys_of s) ∷ []

unfoldable pub entered : Store → ℕ → Entered
entered s k =
    settle (first_no (enter_questions s k))
    (record { number = 0; store = store_of (insert k (keys_of s)) })
    (λ n. record { number = n; store = s })

-- `make` asks 1 and 7.
abbrev pub make_questions : Store → ℕ → ℕ → List Question
make_questions s i j = question1 s ∷ question7 i j s.count ∷ []

unfoldable pub made : Store → ℕ → ℕ → Made
made s i j =
    settle (first_no (make_questions s i j))
    (record { number = 0; claim = claim_of i j (keys_of s) })
    (λ n. record { number = n; claim = no_claim })

-- `reply` asks 1, 2 to 5, 16 and 6: "6 doesn't count the middle one" (document 02, slip 1).
abbrev pub reply_questions : Store → Claim → List Question
reply_questions s c = question1 s ∷ (claim_questions c ++ (question6 (ends c) (keys_of s) ∷ []))

unfoldable pub replied : Store → Claim → Replied
replied s c =
    settle (first_no (reply_questions s c))
    (record { store = store_of (hear c (keys_of s)); answer = reply c (keys_of s) })
    (λ n. record { store = s; answer = Refused n })

-- What `reply` promises: the answer and the store, and that the number which the answer stands for is that of the first question answered no.
pub record Replying (s : Store) (c : Claim) (r : Replied) : Type 0 where
  pub result : r ≡ replied s c
  pub number : number_of r.answer ≡ first_no (reply_questions s c)
