-- What the host calls tell, one law for each way that the code goes. In order: what reading tells; every question has a number; an image that was loaded:
-- counting, taking a frame, entering a key; a beat. Not here: the end of a call that writes one image (SavePaths). Assumes nothing.
use Prim.Native.Nat.{ℕ, ◌≤◌, ◌<◌}
use native.Mathlib.Omega.{arith}
use mathlib.Core.Bool.{true, false, cond}
use mathlib.Core.List.{List, [], ◌∷◌, ◌++◌}
use mathlib.Core.Logic.{⊎_elim}
use mathlib.Core.Path.{◌≡◌, refl, ap, sym, ◌∙◌, subst}
use Rattle.std.specs.Prelude.{Result, Ok, Err}
use borrow.Author.Tests.{le-leb, lt-leb}
use lib.Dec.{lit<}
use lib.IntN.{pos}
use lib.ListN.{length, take, drop}
use Rattle.keys.specs.declared.store.Store.{Store}
use Rattle.keys.specs.Store.{limit, Sized, zeros, empty_store}
use Rattle.keys.specs.Lent.{store_with, Grown, add_in}
use Rattle.keys.specs.Place.{put_at}
use Rattle.keys.proofs.Tests.{eq_or_ne}
use Rattle.keys.proofs.StoreLaws.{in_order_count, length_keys_of}
use Rattle.claims.specs.declared.refusal.Refusal.{Refusal}
use Rattle.claims.specs.declared.refusal.Refusal.TheVariants.{OutputTooShort}
use Rattle.claims.specs.Refusal.{refusal_number}
use Rattle.claims.specs.Question.{Question, first_no, question6}
use Rattle.claims.proofs.QuestionLaws.{Numbered, settle_refused, first_no_append_zero, first_no_append_no}
use Rattle.claims.proofs.RefusalLaws.{refusal_number_ne, settle_refused_by}
use Rattle.rule.specs.declared.node.Node.{Node}
use Rattle.rule.specs.Answer.{Rest}
use Rattle.rule.specs.Answer.{Taken}
use Rattle.rule.specs.Node.{table_by, node_in_order, node_keys}
use Rattle.rule.specs.Question.{question15}
use Rattle.rule.proofs.NodeLaws.{Ordered, restored, node_in_order_ordered, ordered_node_in_order}
use Rattle.nodes.specs.Lent.{node_held, node_with, admit_in, taken_beside}
use Rattle.wire.specs.Answer.{Framed}
use Rattle.wire.specs.Answer.{Imaged}
use Rattle.wire.specs.Run.{claim}
use Rattle.wire.specs.Frame.{frame_limit, head_size, frame_count, frame_claims, all_pass, read_frame_questions, read_frame}
use Rattle.wire.specs.Image.{image_limit, node_bytes, read_image_questions, read_image}
use Rattle.wire.specs.Lent.{read_image_in, read_image_in_lent}
use Rattle.wire.proofs.FrameLaws.{frame_numbered, head_yes, sized_yes, take_four_of, read_frame_number, read_frame_yes, read_frame_0}
use Rattle.wire.proofs.ImageLaws.{image_numbered, read_image_number}
use Rattle.wire.proofs.ImageTrips.{image_read_ordered}
use Rattle.keys.proofs.LentLaws.{sized_store_with}
use Rattle.wire.proofs.LentLaws.{read_image_in_part, read_image_no, read_image_lent}
use Rattle.wire.proofs.RunLaws.{length_read_run}
use Rattle.host.specs.Taking.{questions6, taken_until}
use Rattle.host.specs.Frames.{frames_limit}
use Rattle.host.specs.Call.{minus, node_in, image_counted, taking_questions, node_after, entering_questions, node_entered}
use Rattle.host.specs.Call.{beat_image_questions, node_served, frames_sent, image_beaten, image_beaten_out, image_beaten_frames}
use Rattle.host.specs.Known.{Known, Loaded, TakenFrom, EnteredInto, told, Tells, Sent, BeatTold}
use Rattle.host.proofs.TurnPaths.{questions6_numbered, taken_until_number, taken_until_node, ordered_taken_in_turn}
use Rattle.host.proofs.EnterPaths.{six, ordered_entered, added_six, unfit_long, added_fits, added_node, added_long}
use Rattle.host.proofs.SavePaths.{known_refused}

-- ---- what reading tells

-- a frame that is accepted: its claims are those below the count, at most 4, and pass 13
pub record Accepted (frame : List ℕ) (f : Framed) : Type 0 where
  pub few : f.count ≤ frame_limit
  pub claims : take f.count f.claims ≡ frame_claims frame
  pub pass : all_pass (frame_claims frame) ≡ true

pub read_frame_accepted : (frame : List ℕ) {f : Framed} → f ≡ read_frame frame → f.number ≡ 0 → Accepted frame f
read_frame_accepted frame e h =
    let (head, pass) = read_frame_yes frame (sym (read_frame_number frame) ∙ (sym (ap (λ (f : Framed). f.number) e) ∙ h)) in
    let (m, v, s) = head_yes frame head in
    subst (Accepted frame) (read_frame_0 frame head pass ∙ sym e)
    (record {
      few = (sized_yes frame s).1;
      claims = take_four_of (frame_claims frame) (frame_count frame) (length_read_run claim (frame_count frame) (drop head_size frame));
      pass = pass;
    })

-- ---- every question has a number

-- 6 for each claim of the frame
abbrev pub sixes : List ℕ → List ℕ → List Question
sixes image frame = questions6 (frame_claims frame) (node_keys (node_in image))

pub taking_numbered : (image frame : List ℕ) → Numbered (taking_questions image frame)
taking_numbered image frame =
    (lit< tt, (lit< tt, (lit< tt, (lit< tt, (lit< tt, (lit< tt, questions6_numbered (frame_claims frame) (node_keys (node_in image))))))))

pub entering_numbered : (image : List ℕ) (key : ℕ) → Numbered (entering_questions image key)
entering_numbered image key = (lit< tt, (lit< tt, (lit< tt, tt)))

-- ---- an image that was loaded

loaded_lent : (image : List ℕ) {keys : List ℕ} {r : Rest} → r.number ≡ 0 → record { number = 0; node = node_held keys r } ≡ read_image image
    → length keys ≡ limit → Loaded image keys r
loaded_lent image {keys} {r} none e long =
    let number : 0 ≡ (read_image image).number = ap (λ (x : Imaged). x.number) e in
    let node : node_held keys r ≡ node_in image = ap (λ (x : Imaged). x.node) e in
    record {
      number = none ∙ (number ∙ read_image_number image);
      node = λ z. node;
      sound = record { long = long; ordered = λ z. rw node (image_read_ordered image (sym number)) };
    }

admit_in_none : (keys : List ℕ) (r : Rest) → (r.number ≡ 0 → ⊥) → admit_in keys r ≡ r
unfolding admit_in
admit_in_none keys r f = settle_refused r.number _ (λ n. r) f

-- an image read into a run of zeros, and what is admitted of it
module _ (image : List ℕ) {before : List ℕ} (empty : before ≡ zeros limit) {r : Rest} (read : r ≡ read_image_in image) {keys : List ℕ}
    (lent : keys ≡ read_image_in_lent image before) where
  fresh : keys ≡ read_image_in_lent image empty_store.keys
  unfolding empty_store
  fresh = lent ∙ ap (read_image_in_lent image) empty

  pub loaded_part : length keys ≡ limit → r.held ≡ length (take r.held keys)
  loaded_part = read_image_in_part image read fresh

  pub loaded_admitted : {a : Rest} → a ≡ admit_in (take r.held keys) r → length keys ≡ limit → Loaded image keys a
  loaded_admitted {a} admitted long = ⊎_elim {C = Loaded image keys a}
      (λ (z : a.number ≡ 0). loaded_lent image z (read_image_lent image read fresh admitted z) long)
      (λ (f : a.number ≡ 0 → ⊥). known_refused (ap (λ (x : Imaged). x.number) (read_image_no image read fresh admitted f) ∙ read_image_number image) long f)
      (eq_or_ne a.number 0)

  -- what was refused when it was read stays so
  pub loaded_none : (r.number ≡ 0 → ⊥) → length keys ≡ limit → Loaded image keys r
  loaded_none f long = loaded_admitted (sym (admit_in_none (take r.held keys) r f)) long

module _ (image : List ℕ) {keys : List ℕ} {r : Rest} (loaded : Loaded image keys r) where
  -- refused, whatever is asked behind 14 and 1
  pub loaded_refused : {n : Node} → (r.number ≡ 0 → ⊥) → (b : List Question) → Known (read_image_questions image ++ b) n keys r
  loaded_refused f b =
      known_refused (loaded.number ∙ sym (first_no_append_no (read_image_questions image) b (λ z. f (loaded.number ∙ z)))) loaded.sound.long f

  pub counted_no : (e : Refusal) → r.number ≡ refusal_number e → Tells (image_counted image) (Err e)
  unfolding image_counted
  counted_no e f =
      record { value = sym (settle_refused_by e (pos (length (node_keys (node_in image)))) minus (sym loaded.number ∙ f)); small = tt }

  module _ (read : r.number ≡ 0) where
    pub loaded_ordered : Ordered (node_in image)
    loaded_ordered = subst Ordered (loaded.node read) (node_in_order_ordered (node_held keys r) (loaded.sound.ordered read))

    pub loaded_held : r.held ≡ length (node_keys (node_in image))
    loaded_held = rw (← loaded.node read)
        (sym (length_keys_of (node_held keys r).store loaded.sound.long (node_in_order_ordered (node_held keys r) (loaded.sound.ordered read)).store))

    pub loaded_few : r.held ≤ limit
    loaded_few = in_order_count (node_held keys r).store (node_in_order_ordered (node_held keys r) (loaded.sound.ordered read)).store

    pub counted_yes : Tells (image_counted image) (Ok r.held)
    unfolding image_counted
    counted_yes = record { value = rw (← loaded.number, read, loaded_held) refl; small = omega (arith, loaded_few) }

    -- what is asked behind 14 and 1
    pub past_image : (b : List Question) → first_no (read_image_questions image ++ b) ≡ first_no b
    past_image b = first_no_append_zero (read_image_questions image) b (image_numbered image) (sym loaded.number ∙ read)

    -- ---- taking a frame

    pub taken_from_frame : (frame : List ℕ) {t : Rest} → t.number ≡ (read_frame frame).number → (t.number ≡ 0 → ⊥) → TakenFrom image frame keys t
    taken_from_frame frame {t} e f =
        let q : t.number ≡ first_no (read_frame_questions frame) = e ∙ read_frame_number frame in
        let first = first_no_append_no (read_frame_questions frame) (sixes image frame) (λ z. f (q ∙ z)) in
        known_refused (q ∙ (sym first ∙ sym (past_image (read_frame_questions frame ++ sixes image frame))))
        loaded.sound.long f

    pub taken_from_turns : (frame : List ℕ) → (read_frame frame).number ≡ 0 → {new : List ℕ} {t : Rest}
        → taken_beside new t ≡ taken_until (node_in image) (frame_claims frame) → length new ≡ limit → TakenFrom image frame new t
    taken_from_turns frame framed {new} {t} e whole =
        let pass = (read_frame_yes frame (sym (read_frame_number frame) ∙ framed)).1 in
        let past : first_no (taking_questions image frame) ≡ first_no (sixes image frame) =
        past_image (read_frame_questions frame ++ sixes image frame)
        ∙ first_no_append_zero (read_frame_questions frame) (sixes image frame) (frame_numbered frame) (sym (read_frame_number frame) ∙ framed) in
        let numbered : t.number ≡ first_no (sixes image frame) =
        ap (λ (x : Taken). x.number) e ∙ taken_until_number (node_in image) (frame_claims frame) loaded_ordered pass in
        let after : t.number ≡ 0 → node_held new t ≡ node_after image frame =
        λ z. ap (λ (x : Taken). x.node) e ∙ taken_until_node (node_in image) (frame_claims frame) (sym (ap (λ (x : Taken). x.number) e) ∙ z) in
        let ordered : t.number ≡ 0 → node_in_order (node_after image frame) ≡ true =
        λ z. ordered_node_in_order (node_after image frame) (ordered_taken_in_turn (node_in image) (frame_claims frame) loaded_ordered pass (sym numbered ∙ z)) in
        record { number = numbered ∙ sym past; node = after; sound = record { long = whole; ordered = λ z. rw (after z) (ordered z) } }

    -- ---- entering a key: h is what adding it told, `after` the run of keys then and `held` how many are held

    module _ (key : ℕ) {h : Grown} (added : h ≡ add_in (store_with keys r.held) key) {after : List ℕ} {held : ℕ} (is : h.store ≡ store_with after held) where
      held_ordered : Ordered (node_held keys r)
      held_ordered = node_in_order_ordered (node_held keys r) (loaded.sound.ordered read)

      sized : Sized (node_held keys r).store
      sized = sized_store_with keys r.held loaded.sound.long

      keys_are : h.store.keys ≡ after
      keys_are = ap (λ (s : Store). s.keys) is

      entering_asked : first_no (entering_questions image key) ≡ cond h.fits 0 6
      entering_asked =
          past_image (question6 (key ∷ []) (node_keys (node_in image)) ∷ [])
          ∙ (ap (λ (m : Node). six m key) (sym (loaded.node read)) ∙ added_six (node_held keys r) key held_ordered sized added)

      pub entered_into_unfit : h.fits ≡ false → {t : Rest} → t.number ≡ 6 → EnteredInto image key after t
      entered_into_unfit f six =
          known_refused (six ∙ sym (entering_asked ∙ rw f)) (rw (← keys_are) (unfit_long (node_held keys r) key held_ordered sized added f)) (λ z. omega arith)

      pub entered_into_fit : h.fits ≡ true → EnteredInto image key after (record { number = 0; held = held; table = r.table; count = r.count })
      entered_into_fit f =
          let n = node_held keys r in
          let node : node_with after held (table_by r.table r.count) ≡ node_entered n key = ap (restored n) (sym is) ∙ added_node n key held_ordered sized added f in
          record {
            number = sym (entering_asked ∙ rw f);
            node = λ z. node ∙ ap (λ (m : Node). node_entered m key) (loaded.node read);
            sound = record {
              long = rw (← keys_are) (added_long n key held_ordered sized added f);
              ordered = λ z.
                  rw node (ordered_node_in_order (node_entered n key) (ordered_entered n key held_ordered (added_fits n key held_ordered sized added f)));
            };
          }

-- ---- a beat

module _ (image out frames : List ℕ) {keys : List ℕ} {r : Rest} (loaded : Loaded image keys r) where
  -- its questions, and of them 15 of both buffers
  abbrev asked : List Question
  asked = beat_image_questions image (length out) (length frames)

  abbrev rooms : List Question
  rooms = question15 (length out) image_limit ∷ question15 (length frames) frames_limit ∷ []

  beaten_refused : (e : Refusal) → first_no asked ≡ refusal_number e → BeatTold image out out frames frames (Err e)
  unfolding image_beaten image_beaten_out image_beaten_frames
  beaten_refused e q = record {
    tells = record { value = sym (settle_refused_by e (pos (length (frames_sent (node_in image)))) minus q); small = tt };
    left = sym (settle_refused_by e (put_at out 0 (node_bytes (node_served (node_in image)))) (λ (k : ℕ). out) q);
    sent = sym (settle_refused_by e (put_at frames 0 (frames_sent (node_in image))) (λ (k : ℕ). frames) q);
  }

  pub beaten_image : (e : Refusal) → r.number ≡ refusal_number e → BeatTold image out out frames frames (Err e)
  beaten_image e f =
      let some : r.number ≡ 0 → ⊥ = λ z. refusal_number_ne e (sym f ∙ z) in
      beaten_refused e (first_no_append_no (read_image_questions image) rooms (λ z. some (loaded.number ∙ z)) ∙ (sym loaded.number ∙ f))

  module _ (read : r.number ≡ 0) where
    past : first_no asked ≡ first_no rooms
    past = past_image image loaded read rooms

    pub beaten_out : length out < image_limit → BeatTold image out out frames frames (Err OutputTooShort)
    beaten_out h = beaten_refused OutputTooShort (past ∙ rw (lt-leb image_limit (length out) h))

    module _ (room : image_limit ≤ length out) where
      pub beaten_frames : length frames < frames_limit → BeatTold image out out frames frames (Err OutputTooShort)
      beaten_frames h = beaten_refused OutputTooShort (past ∙ rw (le-leb image_limit (length out) room, lt-leb frames_limit (length frames) h))

      pub beaten_0 : frames_limit ≤ length frames → {result : Result ℕ Refusal} {out₁ frames₁ : List ℕ}
          → Sent (node_held keys r) out out₁ frames frames₁ result → BeatTold image out out₁ frames frames₁ result
      unfolding image_beaten image_beaten_out image_beaten_frames
      beaten_0 h {result} s =
          let q : first_no asked ≡ 0 = past ∙ rw (le-leb image_limit (length out) room, le-leb frames_limit (length frames) h) in
          let n = loaded.node read in
          let most = s.most in
          record {
            tells = record {
              value = ap told s.size ∙ rw q (ap (λ (m : Node). pos (length (frames_sent m))) n);
              small = rw s.size (omega arith);
            };
            left = s.left ∙ rw q (ap (λ (m : Node). put_at out 0 (node_bytes (node_served m))) n);
            sent = s.sent ∙ rw q (ap (λ (m : Node). put_at frames 0 (frames_sent m)) n);
          }
