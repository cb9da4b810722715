-- Two images in one (document 02, slip 9), over the definitions that the contract of `minutefrost_join` cites: given in the other order they make the same bytes; an
-- image joined with itself is unchanged; what is written is read as the joined node; and the event of a list is this call, of the images of two kiosks. A joining
-- that was not refused returned a length, `pos n`. The lemmas come first, the theorems last. Assumes nothing.
use Prim.Native.Nat.{ℕ, ◌≤◌}
use native.Mathlib.Omega.{arith}
use mathlib.Core.Bool.{true}
use mathlib.Core.List.{List, [], ◌∷◌, ◌++◌}
use mathlib.Core.Logic.{⊎_elim}
use mathlib.Core.Path.{◌≡◌, refl, sym, ap, ap₂, ◌∙◌}
use borrow.Author.Tests.{le-leb, leb-true}
use lib.IntN.{pos}
use lib.ListN.{length, take}
use Rattle.keys.specs.Store.{limit}
use Rattle.keys.specs.Place.{put_at}
use Rattle.keys.proofs.Tests.{eq_or_ne}
use Rattle.keys.proofs.StoreLaws.{in_order_rising}
use Rattle.claims.specs.Question.{Question, first_no, settle}
use Rattle.claims.proofs.QuestionLaws.{first_no_yes, first_no_zero, first_no_front, first_no_rest, first_no_append_zero, settle_done, settle_refused}
use Rattle.rule.specs.declared.node.Node.{Node}
use Rattle.rule.specs.Answer.{Taken}
use Rattle.rule.specs.Node.{node_keys, node_in_order, all_tell}
use Rattle.rule.specs.Round.{union}
use Rattle.rule.specs.Question.{node_question1, question8, question15}
use Rattle.rule.specs.Call.{joined_node, join_questions, joined}
use Rattle.rule.proofs.NodeLaws.{Ordered, node_in_order_ordered, ordered_node_in_order}
use Rattle.rule.proofs.CallLaws.{length_node_keys}
use Rattle.rule.proofs.Union.{union_self, union_comm}
use Rattle.rule.proofs.Joining.{JoinYes, joined_done, joined_refused, ordered_joined, joined_node_comm, joined_node_self}
use Rattle.wire.specs.Answer.{Imaged}
use Rattle.wire.specs.Number.{byte, Below}
use Rattle.wire.specs.Image.{image_limit, node_bytes, NodeFits, parse, read_image_questions, read_image}
use Rattle.wire.proofs.ImageLaws.{image_numbered, read_image_number}
use Rattle.wire.proofs.ImageTrips.{image_accepted, image_read_ordered, image_read_bytes, image_all_used}
use Rattle.host.specs.Call.{minus, node_in, saving_questions, saved, saved_out, joining_questions, node_joined, images_joined, images_joined_out}
use Rattle.host.proofs.JoinPaths.{joining_numbered, eight}
use Rattle.host.proofs.Fitting.{narrow_read, narrow_joined}
use Rattle.host.proofs.Trips.{was_done, saved_is_read}

-- ---- the questions of a joining, all answered yes

pub record Joinable (first second : List ℕ) : Type 0 where
  pub first_read : (read_image first).number ≡ 0
  pub second_read : (read_image second).number ≡ 0
  pub fits : length (union (node_keys (node_in first)) (node_keys (node_in second))) ≤ limit

ordered : (image : List ℕ) → (read_image image).number ≡ 0 → Ordered (node_in image)
ordered image read = node_in_order_ordered (node_in image) (image_read_ordered image read)

joinable_yes : (first second : List ℕ) → Joinable first second → JoinYes (node_in first) (node_in second)
joinable_yes first second y = record { first = ordered first y.first_read; second = ordered second y.second_read; fits = y.fits }

module _ (first second : List ℕ) where
  joining_yes : first_no (joining_questions first second) ≡ 0 → Joinable first second
  joining_yes z =
      let b = read_image_questions second ++ eight first second in
      let y : first_no b ≡ 0 = first_no_rest (read_image_questions first) b (image_numbered first) z in
      let e : first_no (eight first second) ≡ 0 = first_no_rest (read_image_questions second) (eight first second) (image_numbered second) y in
      record {
        first_read = read_image_number first ∙ first_no_front (read_image_questions first) b z;
        second_read = read_image_number second ∙ first_no_front (read_image_questions second) (eight first second) y;
        fits = leb-true _ limit (first_no_zero (question8 (node_keys (node_in first)) (node_keys (node_in second))) [] (omega arith) e).0;
      }

  -- what is asked behind 14 and 1 of both
  past_both : (read_image first).number ≡ 0 → (read_image second).number ≡ 0 → (b : List Question)
      → first_no (read_image_questions first ++ (read_image_questions second ++ b)) ≡ first_no b
  past_both read₁ read₂ b =
      first_no_append_zero (read_image_questions first) (read_image_questions second ++ b) (image_numbered first) (sym (read_image_number first) ∙ read₁)
      ∙ first_no_append_zero (read_image_questions second) b (image_numbered second) (sym (read_image_number second) ∙ read₂)

  -- .. and with 15, where there is room for any image
  saving_yes : Joinable first second → (room : ℕ) → image_limit ≤ room → first_no (saving_questions (joining_questions first second) room) ≡ 0
  saving_yes y room h =
      past_both y.first_read y.second_read (question8 (node_keys (node_in first)) (node_keys (node_in second)) ∷ question15 room image_limit ∷ [])
      ∙ rw (le-leb (length (union (node_keys (node_in first)) (node_keys (node_in second)))) limit y.fits, le-leb image_limit room h)

  -- a joining that returned a length
  module _ (room n : ℕ) (e : images_joined first second room ≡ pos n) where
    all_yes : first_no (saving_questions (joining_questions first second) room) ≡ 0
    unfolding saved
    all_yes = was_done _ (length (node_bytes (node_joined first second))) n e

    joined_yes : Joinable first second
    joined_yes = joining_yes (first_no_front (joining_questions first second) (question15 room image_limit ∷ []) all_yes)

    joined_room : image_limit ≤ room
    joined_room =
        leb-true image_limit room
        (first_no_zero (question15 room image_limit) [] (omega arith)
        (first_no_rest (joining_questions first second) (question15 room image_limit ∷ []) (joining_numbered first second) all_yes)).0

-- what is returned and left where all are answered yes
module _ (first second out : List ℕ) (z : first_no (saving_questions (joining_questions first second) (length out)) ≡ 0) (n : Node) (same : node_joined first second ≡ n) where
  done_returned : images_joined first second (length out) ≡ pos (length (node_bytes n))
  unfolding saved
  done_returned = rw z (ap (λ (m : Node). pos (length (node_bytes m))) same)

  done_left : images_joined_out first second out ≡ put_at out 0 (node_bytes n)
  unfolding saved_out
  done_left = rw z (ap (λ (m : Node). put_at out 0 (node_bytes m)) same)

-- ---- the theorems

-- "The images given in the other order make the same bytes" (document 02, slip 9): whenever a joining is not refused, the other one returns the same length and
-- leaves the same buffer.
pub join_either : (first second out : List ℕ) (n : ℕ) → images_joined first second (length out) ≡ pos n
    → (images_joined second first (length out) ≡ pos n) × (images_joined_out second first out ≡ images_joined_out first second out)
join_either first second out n e =
    let y = joined_yes first second (length out) n e in
    let o = ordered first y.first_read in
    let p = ordered second y.second_read in
    let keys = union_comm (node_keys (node_in first)) (node_keys (node_in second)) (in_order_rising (node_in first).store o.store) (in_order_rising (node_in second).store p.store) in
    let turned : Joinable second first = record { first_read = y.second_read; second_read = y.first_read; fits = omega (arith, y.fits, ap length keys) } in
    let z = saving_yes second first turned (length out) (joined_room first second (length out) n e) in
    let same : node_joined second first ≡ node_joined first second = joined_node_comm (node_in second) (node_in first) p o in (
      done_returned second first out z (node_joined first second) same ∙ (sym (done_returned first second out (all_yes first second (length out) n e) (node_joined first second) refl) ∙ e),
      done_left second first out z (node_joined first second) same ∙ sym (done_left first second out (all_yes first second (length out) n e) (node_joined first second) refl),
    )

-- "an image joined with itself is unchanged where slip 2 leaves nothing out" (document 02, slip 9)
pub join_itself : (image out : List ℕ) → Below byte image → (read_image image).number ≡ 0 → all_tell (parse image).pending ≡ true → image_limit ≤ length out
    → (images_joined image image (length out) ≡ pos (length image)) × (images_joined_out image image out ≡ put_at out 0 image)
join_itself image out below read none room =
    let n = node_in image in
    let o = ordered image read in
    let w = narrow_read image below read in
    let keys : union (node_keys n) (node_keys n) ≡ node_keys n = union_self (node_keys n) (in_order_rising n.store o.store) in
    let y : Joinable image image = record { first_read = read; second_read = read; fits = omega (arith, ap length keys, length_node_keys n o) } in
    let z = saving_yes image image y (length out) room in
    let same : node_joined image image ≡ n = joined_node_self n w.shaped.store w.shaped.pending o in
    let bytes : node_bytes n ≡ image = image_read_bytes image read ∙ image_all_used image below read none in (
      done_returned image image out z n same ∙ ap (λ (bs : List ℕ). pos (length bs)) bytes,
      done_left image image out z n same ∙ ap (put_at out 0) bytes,
    )

-- The image that a joining writes is as long as the call says, and is read as the joined node, which is in order.
pub joined_image_is_read : (first second out : List ℕ) (n : ℕ) → Below byte first → Below byte second → images_joined first second (length out) ≡ pos n
    → (read_image (take n (images_joined_out first second out)) ≡ record { number = 0; node = node_joined first second }) × (node_in_order (node_joined first second) ≡ true)
joined_image_is_read first second out n below below' e =
    let y = joined_yes first second (length out) n e in
    let o = ordered_joined (node_in first) (node_in second) (joinable_yes first second y) in
    let w = narrow_joined (node_in first) (ordered first y.first_read) (narrow_read first below y.first_read) (node_in second) (narrow_read second below' y.second_read) y.fits in (
      saved_is_read (joining_questions first second) (node_joined first second) out n (λ z. (o, w)) e,
      ordered_node_in_order (node_joined first second) o,
    )

-- The event `joins` of a list is this call, of the images of the two nodes: refused or not, it returns and leaves what the node that the event makes says.
pub join_nodes : (n m : Node) (out : List ℕ) → NodeFits n → NodeFits m → node_in_order n ≡ true → node_in_order m ≡ true
    → let r = joined n m (length out) image_limit in
    (images_joined (node_bytes n) (node_bytes m) (length out) ≡ settle r.number (pos (length (node_bytes r.node))) minus)
    × (images_joined_out (node_bytes n) (node_bytes m) out ≡ settle r.number (put_at out 0 (node_bytes r.node)) (λ k. out))
unfolding saved saved_out
join_nodes n m out fn fm on om =
    (settled (λ (x : Node). pos (length (node_bytes x))) minus, settled (λ (x : Node). put_at out 0 (node_bytes x)) (λ (k : ℕ). out))
  where
    read_n : read_image (node_bytes n) ≡ record { number = 0; node = n }
    read_n = image_accepted n fn on

    read_m : read_image (node_bytes m) ≡ record { number = 0; node = m }
    read_m = image_accepted m fm om

    is_n : node_in (node_bytes n) ≡ n
    is_n = ap (λ (r : Imaged). r.node) read_n

    is_m : node_in (node_bytes m) ≡ m
    is_m = ap (λ (r : Imaged). r.node) read_m

    room : ℕ
    room = length out

    q8 : Question
    q8 = question8 (node_keys n) (node_keys m)

    q15 : Question
    q15 = question15 room image_limit

    -- both ask the same
    asked : first_no (saving_questions (joining_questions (node_bytes n) (node_bytes m)) room) ≡ first_no (join_questions n m room image_limit)
    asked =
        past_both (node_bytes n) (node_bytes m) (ap (λ (r : Imaged). r.number) read_n) (ap (λ (r : Imaged). r.number) read_m)
        (question8 (node_keys (node_in (node_bytes n))) (node_keys (node_in (node_bytes m))) ∷ q15 ∷ [])
        ∙ (ap₂ (λ (x y : Node). first_no (question8 (node_keys x) (node_keys y) ∷ q15 ∷ [])) is_n is_m
        ∙ sym (first_no_yes (node_question1 n) (node_question1 m ∷ q8 ∷ q15 ∷ []) on ∙ first_no_yes (node_question1 m) (q8 ∷ q15 ∷ []) om))

    -- .. and so come to the same, whatever is made of the node and of a refusal
    settled : {A : Type 0} (made : Node → A) (refused : ℕ → A)
        → settle (first_no (saving_questions (joining_questions (node_bytes n) (node_bytes m)) room)) (made (node_joined (node_bytes n) (node_bytes m))) refused
        ≡ settle (joined n m room image_limit).number (made (joined n m room image_limit).node) refused
    settled {A} made refused =
        let k = first_no (join_questions n m room image_limit) in
        let result : Taken → A = λ x. settle x.number (made x.node) refused in
        ap₂ (λ (j : ℕ) (x : Node). settle j (made x) refused) asked (ap₂ joined_node is_n is_m)
        ∙ ⊎_elim
        {C = settle k (made (joined_node n m)) refused ≡ result (joined n m room image_limit)}
        (λ (z : k ≡ 0). settle_done k (made (joined_node n m)) refused z ∙ sym (ap result (joined_done n m room image_limit z)))
        (λ (f : k ≡ 0 → ⊥).
        settle_refused k (made (joined_node n m)) refused f
        ∙ sym (ap result (joined_refused n m room image_limit f) ∙ settle_refused k (made n) refused f))
        (eq_or_ne k 0)
