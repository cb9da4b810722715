-- Two images joined (src/join.rt): one law for each way that the code goes. `keys` is the run that the joined node's keys go to. Assumes nothing.
use Prim.Native.Nat.{ℕ, ◌≤◌}
use native.Mathlib.Omega.{arith}
use mathlib.Core.Bool.{true}
use mathlib.Core.List.{List, [], ◌∷◌, ◌++◌}
use mathlib.Core.Path.{◌≡◌, sym, ap, ap₂, ◌∙◌, subst}
use borrow.Author.Tests.{leb-true}
use lib.Dec.{lit<}
use lib.ListN.{length}
use Rattle.keys.specs.Store.{limit, zeros}
use Rattle.keys.proofs.StoreLaws.{length_zeros}
use Rattle.claims.specs.Question.{Question, first_no}
use Rattle.claims.proofs.QuestionLaws.{Numbered, first_no_zero, first_no_append_no}
use Rattle.rule.specs.declared.node.Node.{Node}
use Rattle.rule.specs.Answer.{Rest}
use Rattle.rule.specs.Answer.{Taken}
use Rattle.rule.specs.Node.{node_keys, node_in_order}
use Rattle.rule.specs.Question.{question8}
use Rattle.rule.specs.Round.{union}
use Rattle.rule.specs.Call.{joined_node}
use Rattle.rule.proofs.NodeLaws.{Ordered, node_in_order_ordered, ordered_node_in_order}
use Rattle.rule.proofs.Joining.{ordered_joined}
use Rattle.nodes.specs.Lent.{node_held, taken_beside}
use Rattle.nodes.specs.Joining.{join_in}
use Rattle.nodes.proofs.JoiningLaws.{join_in_number, join_in_long, join_in_node}
use Rattle.wire.specs.Image.{read_image_questions}
use Rattle.host.specs.Call.{node_in, joining_questions, node_joined}
use Rattle.host.specs.Known.{Loaded, JoinedFrom}
use Rattle.host.proofs.SavePaths.{known_refused}
use Rattle.host.proofs.LibPaths.{past_image}

pub joining_numbered : (first second : List ℕ) → Numbered (joining_questions first second)
joining_numbered first second = (lit< tt, (lit< tt, (lit< tt, (lit< tt, (lit< tt, tt)))))

-- 8 of the keys of both
abbrev pub eight : List ℕ → List ℕ → List Question
eight first second = question8 (node_keys (node_in first)) (node_keys (node_in second)) ∷ []

module _ (first second : List ℕ) {keys₀ : List ℕ} (empty : keys₀ ≡ zeros limit) where
  whole : length keys₀ ≡ limit
  whole = ap length empty ∙ length_zeros limit

  module _ {run₁ : List ℕ} {own : Rest} (loaded₁ : Loaded first run₁ own) where
    pub joined_first : (own.number ≡ 0 → ⊥) → JoinedFrom first second keys₀ own
    joined_first f =
        let behind : List Question = read_image_questions second ++ eight first second in
        known_refused (loaded₁.number ∙ sym (first_no_append_no (read_image_questions first) behind (λ z. f (loaded₁.number ∙ z)))) whole f

    module _ (read₁ : own.number ≡ 0) {run₂ : List ℕ} {brought : Rest} (loaded₂ : Loaded second run₂ brought) where
      past : first_no (joining_questions first second) ≡ first_no (read_image_questions second ++ eight first second)
      past = past_image first loaded₁ read₁ (read_image_questions second ++ eight first second)

      pub joined_second : (brought.number ≡ 0 → ⊥) → JoinedFrom first second keys₀ brought
      joined_second f =
          known_refused
          (loaded₂.number ∙ (sym (first_no_append_no (read_image_questions second) (eight first second) (λ z. f (loaded₂.number ∙ z))) ∙ sym past)) whole f

      module _ (read₂ : brought.number ≡ 0) {keys : List ℕ} {r : Rest}
          (told : taken_beside keys r ≡ join_in (node_held run₁ own) (node_held run₂ brought) keys₀) where
        o : Ordered (node_held run₁ own)
        o = node_in_order_ordered (node_held run₁ own) (loaded₁.sound.ordered read₁)

        p : Ordered (node_held run₂ brought)
        p = node_in_order_ordered (node_held run₂ brought) (loaded₂.sound.ordered read₂)

        -- the nodes that were loaded are those of the images
        asked : r.number ≡ first_no (eight first second)
        asked =
            ap (λ (t : Taken). t.number) told
            ∙ (join_in_number (node_held run₁ own) (node_held run₂ brought) keys₀ o p
            ∙ ap₂ (λ (n m : Node). first_no (question8 (node_keys n) (node_keys m) ∷ [])) (loaded₁.node read₁) (loaded₂.node read₂))

        number : r.number ≡ first_no (joining_questions first second)
        number = asked ∙ sym (past ∙ past_image second loaded₂ read₂ (eight first second))

        fits : r.number ≡ 0 → length (union (node_keys (node_in first)) (node_keys (node_in second))) ≤ limit
        fits z = leb-true _ limit (first_no_zero (question8 (node_keys (node_in first)) (node_keys (node_in second))) [] (omega arith) (sym asked ∙ z)).0

        same_count : length (union (node_keys (node_held run₁ own)) (node_keys (node_held run₂ brought))) ≡ length (union (node_keys (node_in first)) (node_keys (node_in second)))
        same_count = ap₂ (λ (n m : Node). length (union (node_keys n) (node_keys m))) (loaded₁.node read₁) (loaded₂.node read₂)

        node : r.number ≡ 0 → node_held keys r ≡ node_joined first second
        node z =
            ap (λ (t : Taken). t.node) told
            ∙ (join_in_node (node_held run₁ own) (node_held run₂ brought) keys₀ o p empty (omega (arith, same_count, fits z))
            ∙ ap₂ joined_node (loaded₁.node read₁) (loaded₂.node read₂))

        ordered : r.number ≡ 0 → node_in_order (node_joined first second) ≡ true
        ordered z =
            ordered_node_in_order (node_joined first second) (ordered_joined (node_in first) (node_in second) (record {
              first = subst Ordered (loaded₁.node read₁) o;
              second = subst Ordered (loaded₂.node read₂) p;
              fits = fits z;
            }))

        pub joined_both : JoinedFrom first second keys r
        joined_both = record {
          number = number;
          node = node;
          sound = record {
            long = ap (λ (t : Taken). length t.node.store.keys) told ∙ join_in_long (node_held run₁ own) (node_held run₂ brought) keys₀ o p whole;
            ordered = λ z. rw (node z) (ordered z);
          };
        }
