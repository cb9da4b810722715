-- The reply to one claim (document 01, the section of that name; the paper's Algorithm 1, lines 12 to 14 and 20 to 35), over the keys of a store,
-- with the middle key of three (document 02, slip 1): "Replies are compared with this rule from now on".
-- Not here: the questions put before it (Question), what the call returns (Call). Assumes nothing.
use Rattle.std.specs.Prelude.{ℕ, ◌+◌, ◌-◌, ◌/◌, Bool, true, false, cond, not, ◌&&◌, List, [], ◌∷◌, ◌++◌, ltb, eqb, length}
use Rattle.keys.specs.Store.{limit, same_keys, position, insert_all}
use Rattle.claims.specs.declared.claim.Claim.{Claim}
use Rattle.claims.specs.Answer.{Answer, Refused, Match, Ask, One, Two}
use Rattle.claims.specs.Claim.{claim_of, between, middle_key, middle_inside}

-- the ends of a claim, which question 6 counts where they are missing: "6 doesn't count the middle one" (document 02, slip 1)
abbrev pub ends : Claim → List ℕ
ends c = c.lo ∷ c.hi ∷ []

-- "Add lo and hi where missing." Lines 12 to 14.
abbrev pub with_ends : Claim → List ℕ → List ℕ
with_ends c l = insert_all (ends c) l

-- "“Own” is then the claim of this store from lo to hi." Line 21.
abbrev pub own : Claim → List ℕ → Claim
own c l = claim_of (position c.lo l) (position c.hi l) l

-- "Branches on weak radio want a round trip fewer. When a claim has cnt 3 and own is just lo and hi after they were added, the key sum XOR lo XOR hi is
-- added as well (the paper, 5.2). It is added only if it lies strictly between lo and hi .." (document 02, slip 1). Of keys l that have lo and hi.
abbrev pub wants_middle : Claim → List ℕ → Bool
wants_middle c l = eqb c.cnt 3 && (eqb (own c l).cnt 2 && middle_inside c)

-- ".. and the store has space" (document 02, slip 1)
abbrev pub has_space : List ℕ → Bool
has_space l = ltb (length l) limit

-- the middle key, where it is added to keys l that have lo and hi; none elsewhere
unfoldable pub third : Claim → List ℕ → List ℕ
third c l = cond (wants_middle c l && has_space l) (middle_key c ∷ []) []

-- What hearing a claim adds to a store with the keys l where it is missing: its ends, then the middle key of three.
abbrev pub adding : Claim → List ℕ → List ℕ
adding c l = ends c ++ third c (with_ends c l)

-- the keys held once the claim is heard
abbrev pub hear : Claim → List ℕ → List ℕ
hear c l = insert_all (adding c l) l

-- "Own equals the claim in all four fields"
abbrev pub same : Claim → Claim → Bool
same c d = eqb c.lo d.lo && eqb c.hi d.hi && eqb c.sum d.sum && eqb c.cnt d.cnt

-- "If b − a < 3: one claim, a to b. Else with z = (b + 1 − a) div 2: two claims, a to a + z, then a + z + 1 to b." Lines 30 to 35.
abbrev pub z_of : ℕ → ℕ → ℕ
z_of a b = (b + 1 - a) / 2

abbrev pub help : ℕ → ℕ → List ℕ → Answer
help a b l =
    cond (ltb (b - a) 3)
    (One (claim_of a b l))
    (Two (claim_of a (a + z_of a b) l) (claim_of (a + z_of a b + 1) b l))

-- "Own equals the claim in all four fields: match. cnt greater than own cnt: ask, which carries own. Otherwise help." Lines 21 to 28.
abbrev pub decide : Claim → Claim → Answer → Answer
decide mine c helped = cond (same mine c) Match (cond (ltb mine.cnt c.cnt) (Ask mine) helped)

-- The answer of a store whose keys l have lo and hi among them. "Let a be the position after lo and b the one before hi." Line 29.
unfoldable pub answer : Claim → List ℕ → Answer
answer c l = decide (own c l) c (help (position c.lo l + 1) (position c.hi l - 1) l)

-- The reply of a store with the keys l: what hearing adds is added first. "Own is then worked out again and the reply goes by it." (document 02, slip 1)
abbrev pub reply : Claim → List ℕ → Answer
reply c l = answer c (hear c l)

-- ---- what each case of an answer stands for

pub data Kind : Type 0 where
  refused matched asked helped : Kind

-- its kind, the number of document 01's question that was answered no (0: none was), and the claims that it carries, in their order
pub record Case : Type 0 where
  pub kind : Kind
  pub number : ℕ
  pub claims : List Claim

abbrev pub case_of : Answer → Case
case_of (Refused n) = record { kind = refused; number = n; claims = [] }
case_of Match = record { kind = matched; number = 0; claims = [] }
case_of (Ask c) = record { kind = asked; number = 0; claims = c ∷ [] }
case_of (One c) = record { kind = helped; number = 0; claims = c ∷ [] }
case_of (Two c d) = record { kind = helped; number = 0; claims = c ∷ d ∷ [] }

abbrev pub number_of : Answer → ℕ
number_of a = (case_of a).number

abbrev pub claims_of : Answer → List Claim
claims_of a = (case_of a).claims

abbrev pub is_matched : Kind → Bool
is_matched refused = false
is_matched matched = true
is_matched asked = false
is_matched helped = false

abbrev pub is_asked : Kind → Bool
is_asked refused = false
is_asked matched = false
is_asked asked = true
is_asked helped = false

-- is it a match?
abbrev pub matches : Answer → Bool
matches a = is_matched (case_of a).kind

-- ---- a false match

-- "A match is false if, when the claim was made, its sender held other keys from lo to hi than the receiver holds at the match, what the reply
-- added counted in." Of the reply to c by a receiver with the keys l, where the sender held `claimed` from lo to hi.
abbrev pub false_match : List ℕ → Claim → List ℕ → Bool
false_match claimed c l = matches (reply c l) && not (same_keys claimed (between c.lo c.hi (hear c l)))
