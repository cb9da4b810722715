-- The end of a call that writes one image (src/save.rt). In order: what is known where a question was answered no; the longest image has room for any; one law
-- for each way that the code goes, and behind the questions put so far. Assumes nothing.
use Prim.Native.Nat.{ℕ, ◌≤◌, ◌<◌}
use native.Mathlib.Omega.{arith}
use mathlib.Core.Bool.{true}
use mathlib.Core.List.{List, [], ◌∷◌}
use mathlib.Core.Path.{◌≡◌, refl, ap, sym, ◌∙◌, subst}
use Rattle.std.specs.Prelude.{Result, Ok, Err}
use borrow.Author.Tests.{le-leb, lt-leb}
use lib.IntN.{pos}
use lib.ListN.{length}
use Rattle.keys.specs.Store.{limit}
use Rattle.keys.specs.Place.{put_at}
use Rattle.claims.specs.declared.refusal.Refusal.{Refusal}
use Rattle.claims.specs.declared.refusal.Refusal.TheVariants.{OutputTooShort}
use Rattle.claims.specs.Refusal.{refusal_number}
use Rattle.claims.specs.Question.{Question, first_no}
use Rattle.claims.proofs.RefusalLaws.{refusal_number_ne, settle_refused_by}
use Rattle.claims.proofs.QuestionLaws.{Numbered, first_no_append_zero, first_no_append_no}
use Rattle.rule.specs.declared.node.Node.{Node}
use Rattle.rule.specs.declared.answer.Rest.{Rest as Beside}
use Rattle.rule.specs.Answer.{Rest, rest_given, rest_by}
use Rattle.rule.specs.Node.{node_in_order}
use Rattle.rule.specs.Question.{question15}
use Rattle.wire.specs.Answer.{Length, length_by, read_by}
use Rattle.wire.specs.Image.{image_limit, node_bytes, Shaped}
use Rattle.wire.specs.Lent.{write_image_in, image_in_lent}
use Rattle.wire.proofs.LentLaws.{ordered_within_limits, write_image_in_0}
use Rattle.wire.proofs.ImageTrips.{image_at_most}
use Rattle.nodes.specs.Lent.{node_held}
use Rattle.host.specs.Call.{minus, saved, saved_out}
use Rattle.host.specs.Known.{Known, told, Saved}

-- ---- where a question was answered no

pub known_refused : {questions : List Question} {n : Node} {keys : List ℕ} {r : Rest}
    → r.number ≡ first_no questions → length keys ≡ limit → (r.number ≡ 0 → ⊥) → Known questions n keys r
known_refused e long f = record { number = e; node = λ z. absurd (f z); sound = record { long = long; ordered = λ z. absurd (f z) } }

-- ---- the longest image has room for any

pub write_image_in_room : (n : Node) → Shaped n → node_in_order n ≡ true → (out : List ℕ) → image_limit ≤ length out
    → (record { number = 0; length = length (node_bytes n) } ≡ write_image_in n (length out)) × (put_at out 0 (node_bytes n) ≡ image_in_lent n out)
write_image_in_room n shaped ordered out h =
    let l = image_at_most n shaped ordered in
    write_image_in_0 n out (ordered_within_limits n out shaped.store.keys ordered) (omega arith)

-- .. and what a result is that tells a length
pub length_by_0 : {result : Result ℕ Refusal} {n : ℕ} → length_by result ≡ record { number = 0; length = n } → result ≡ Ok n
length_by_0 {result = Ok m} e = ap (λ (x : Length). Ok x.length) e
length_by_0 {result = Err r} e = absurd (refusal_number_ne r (ap (λ (x : Length). x.number) e))

-- ---- the ways of the code, where no question was answered no before

module _ (n : Node) (out : List ℕ) where
  pub saved_15 : length out < image_limit → Saved [] n out out (Err OutputTooShort)
  unfolding saved saved_out
  saved_15 h =
      let no = lt-leb image_limit (length out) h in
      record { tells = record { value = rw no refl; small = tt }; left = rw no refl }

  pub saved_0 : Shaped n → node_in_order n ≡ true → image_limit ≤ length out → {result : Result ℕ Refusal} → length_by result ≡ write_image_in n (length out)
      → {after : List ℕ} → after ≡ image_in_lent n out → Saved [] n out after result
  unfolding saved saved_out
  saved_0 shaped ordered room {result} written left =
      let yes = le-leb image_limit (length out) room in
      let room_told = (write_image_in_room n shaped ordered out room).0 in
      let put = (write_image_in_room n shaped ordered out room).1 in
      let most = image_at_most n shaped ordered in
      let is : result ≡ Ok (length (node_bytes n)) = length_by_0 (written ∙ sym room_told) in
      record {
        tells = record { value = ap told is ∙ rw yes refl; small = rw is (omega arith) };
        left = left ∙ (sym put ∙ rw yes refl);
      }

-- ---- behind the questions put so far

module _ {questions : List Question} {n : Node} (numbered : Numbered questions) where
  -- one was answered no ..
  pub saved_refused : (e : Refusal) → first_no questions ≡ refusal_number e → (out : List ℕ) → Saved questions n out out (Err e)
  unfolding saved saved_out
  saved_refused e f out =
      let some : first_no questions ≡ 0 → ⊥ = λ z. refusal_number_ne e (sym f ∙ z) in
      let first = first_no_append_no questions (question15 (length out) image_limit ∷ []) some ∙ f in
      record {
        tells = record { value = sym (settle_refused_by e (pos (length (node_bytes n))) minus first); small = tt };
        left = sym (settle_refused_by e (put_at out 0 (node_bytes n)) (λ (k : ℕ). out) first);
      }

  -- .. or none was
  pub saved_behind : first_no questions ≡ 0 → {out after : List ℕ} {result : Result ℕ Refusal} → Saved [] n out after result → Saved questions n out after result
  unfolding saved saved_out
  saved_behind z {out} s =
      let rest = first_no_append_zero questions (question15 (length out) image_limit ∷ []) numbered z in
      record {
        tells = record { value = s.tells.value ∙ rw rest refl; small = s.tells.small };
        left = s.left ∙ rw rest refl;
      }

  -- by what the code knows: `keys` is the run of keys, and r the rest of the node
  module _ {keys : List ℕ} where
    pub known_saved : {r : Beside} → Known questions n keys (rest_given r) → {out after : List ℕ} {result : Result ℕ Refusal}
        → Saved [] (node_held keys (rest_given r)) out after result → Saved questions n out after result
    known_saved {r} known {out} {after} {result} s =
        saved_behind (sym known.number) (subst (λ (m : Node). Saved [] m out after result) (known.node refl) s)

    pub known_unsaved : (e : Refusal) → Known questions n keys (read_by (Err e)) → (out : List ℕ) → Saved questions n out out (Err e)
    known_unsaved e known out = saved_refused e (sym known.number) out

-- what stands beside the number does not matter where a question was answered no
pub known_by : {questions : List Question} {n : Node} {keys : List ℕ} (given : Beside) (r : Result Beside Refusal)
    → Known questions n keys (rest_by given r) → Known questions n keys (read_by r)
known_by given (Ok x) k = k
known_by given (Err e) k = known_refused k.number k.sound.long (refusal_number_ne e)
