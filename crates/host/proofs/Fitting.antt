-- Numbers that fit their widths in bytes: what is read of bytes does, and it stays so. In order: a node whose keys and pending claims fit; what an image holds;
-- the node once claims are taken, after a beat, with a key entered, and joined with another; the claims that a beat sends. Assumes nothing.
use Prim.Native.Nat.{ℕ, ◌-◌, ◌^◌, ◌≤◌, ◌<◌}
use native.Mathlib.Omega.{arith}
use mathlib.Core.List.{List, [], ◌∷◌, Memᴰ}
use mathlib.Core.Logic.{◌⊎◌, inl, inr, ⊎_elim}
use mathlib.Core.Path.{◌≡◌, sym, subst}
use lib.Bits.{bit_xor, xor_lt}
use lib.ListN.{length, drop, length-append, length-take, length-replicate}
use Rattle.keys.specs.Store.{limit, zeros, store_of}
use Rattle.keys.proofs.Tests.{eq_or_ne}
use Rattle.keys.proofs.Insert.{insert_mem}
use Rattle.keys.proofs.StoreLaws.{keys_store_of, keys_of_store_of, sized_store_of, in_order_rising}
use Rattle.keys.proofs.Rising.{Rising, take_mem}
use Rattle.claims.specs.declared.claim.Claim.{Claim}
use Rattle.claims.specs.Claim.{no_claim, middle_key}
use Rattle.claims.specs.Question.{first_no}
use Rattle.claims.specs.Reply.{with_ends, adding, hear}
use Rattle.claims.proofs.ReplyLaws.{Wanted, adding_mem, hear_mem, hear_fits, Spanned, spanned_keys}
use Rattle.claims.proofs.Span.{mem_first, mem_last}
use Rattle.claims.proofs.Xor.{xor_all_lt}
use Rattle.rule.specs.declared.node.Node.{Node}
use Rattle.rule.specs.Answer.{Taken}
use Rattle.rule.specs.Table.{table_limit, insert_claim, table_with, insert_claims, joined_table, serve, sending}
use Rattle.rule.specs.Node.{blanks, node_keys, pending_of, node_of, telling}
use Rattle.rule.specs.Round.{union}
use Rattle.rule.specs.Call.{take_questions, taken, joined_node}
use Rattle.rule.proofs.NodeLaws.{Ordered, ordered_node_in_order, saved_in_order_saved, telling_mem, ordered_telling, node_keys_node_of, pending_of_node_of, node_of_same}
use Rattle.rule.proofs.CallLaws.{take_questions_yes, taken_done, taken_refused, length_node_keys, length_pending_of}
use Rattle.rule.proofs.TableLaws.{insert_claim_mem, length_table_with, kept_mem, length_kept}
use Rattle.rule.proofs.Union.{union_mem}
use Rattle.rule.proofs.Joining.{insert_claims_mem}
use Rattle.wire.specs.Answer.{Imaged}
use Rattle.wire.specs.Number.{byte, Below}
use Rattle.wire.specs.Claim.{key_width, count_width, ClaimFits}
use Rattle.wire.specs.Run.{Each}
use Rattle.wire.specs.Image.{key_section, section_length, count_of, behind, parse, node_from, used, read_image, Shaped, NodeFits}
use Rattle.wire.proofs.NumberLaws.{below_drop}
use Rattle.wire.proofs.RunLaws.{each_mem, mem_each, each_append, each_replicate, each_take, key_faithful, claim_faithful, read_run_fits}
use Rattle.wire.proofs.ImageLaws.{read_image_yes, read_image_0, ordered_counts}
use Rattle.host.specs.Taking.{taken_in_turn}
use Rattle.host.specs.Call.{node_in, node_served, node_entered}
use Rattle.host.proofs.EnterPaths.{grown, node_entered_is}
use Rattle.host.proofs.Passing.{sending_spanned}

abbrev pub KeyFits : ℕ → Type 0
KeyFits k = k < byte ^ key_width

-- ---- a node whose arrays are whole and whose keys and pending claims fit

pub record Narrow (n : Node) : Type 0 where
  pub shaped : Shaped n
  pub keys : Each KeyFits (node_keys n)
  pub pending : Each ClaimFits (pending_of n)

none_fits : ClaimFits no_claim
none_fits = record { lo = omega arith; hi = omega arith; sum = omega arith; cnt = omega arith }

module _ (l : List ℕ) (t : List Claim) (few : length l ≤ limit) (several : length t ≤ table_limit) where
  pub shaped_node_of : Shaped (node_of l t)
  unfolding node_of blanks
  shaped_node_of = record { store = sized_store_of l few; pending = simp (length-append, length-replicate) (omega arith) }

  module _ (p : Each KeyFits l) (q : Each ClaimFits t) where
    narrow_node_of : Narrow (node_of l t)
    narrow_node_of = record { shaped = shaped_node_of; keys = rw (node_keys_node_of l t) p; pending = rw (pending_of_node_of l t) q }

    fits_node_of : NodeFits (node_of l t)
    unfolding node_of blanks zeros
    fits_node_of =
        record {
          shaped = shaped_node_of;
          keys = rw (keys_store_of l) (each_append KeyFits l _ p (each_replicate KeyFits (limit - length l) 0 (omega arith)));
          pending = each_append ClaimFits t _ q (each_replicate ClaimFits (table_limit - length t) no_claim none_fits);
        }

-- in order, it fits place by place: past the counts there are zeros
pub narrow_fits : (n : Node) → Ordered n → Narrow n → NodeFits n
narrow_fits n o w =
    subst NodeFits (sym (node_of_same n w.shaped.store w.shaped.pending o))
    (fits_node_of (node_keys n) (pending_of n) (length_node_keys n o) (length_pending_of n o) w.keys w.pending)

-- ---- what an image holds

pub narrow_read : (image : List ℕ) → Below byte image → (read_image image).number ≡ 0 → Narrow (node_in image)
unfolding parse node_of store_of
narrow_read image below done =
    let (told, saved) = read_image_yes image done in
    let t = (parse image).pending in
    let o = ordered_telling (parse image).keys t (saved_in_order_saved (node_from (parse image)) saved) in
    let (few, several) = ordered_counts (node_from (used (parse image))) (ordered_node_in_order _ o) in
    let tail = behind key_section image in
    let under = below_drop (section_length key_section (count_of image)) image below in
    let fit : Each ClaimFits t = read_run_fits claim_faithful (count_of tail) (drop count_width tail) (below_drop count_width tail under) in
    subst (λ (r : Imaged). Narrow r.node) (read_image_0 told saved)
    (narrow_node_of (parse image).keys (telling t) few several
    (read_run_fits key_faithful (count_of image) (drop count_width image) (below_drop count_width image below))
    (each_mem ClaimFits (telling t) (λ d m. mem_each ClaimFits t fit d (telling_mem t d m).0)))

-- ---- claims taken

-- lo, hi, or a XOR of three numbers that fit
adding_fits : (c : Claim) (l : List ℕ) → ClaimFits c → (k : ℕ) → Memᴰ k (adding c l) → KeyFits k
adding_fits c l f k m = go (adding_mem c l k m)
  where
    go : (k ≡ c.lo) ⊎ ((k ≡ c.hi) ⊎ ((k ≡ middle_key c) × Wanted c (with_ends c l))) → KeyFits k
    go (inl e) = subst KeyFits (sym e) f.lo
    go (inr (inl e)) = subst KeyFits (sym e) f.hi
    go (inr (inr (e, w))) = subst KeyFits (sym e) (xor_lt 64 (bit_xor c.sum c.lo) c.hi (xor_lt 64 c.sum c.lo f.sum f.lo) f.hi)

each_hear : (c : Claim) (l : List ℕ) → ClaimFits c → Each KeyFits l → Each KeyFits (hear c l)
each_hear c l f p =
    each_mem KeyFits (hear c l) (λ k m. ⊎_elim {C = KeyFits k} (adding_fits c l f k) (mem_each KeyFits l p k) (hear_mem c l k m))

each_table_with : (c : Claim) (t : List Claim) → ClaimFits c → Each ClaimFits t → Each ClaimFits (table_with c t)
each_table_with c t f p =
    each_take ClaimFits table_limit (insert_claim c t) (each_mem ClaimFits (insert_claim c t) (λ d m.
    ⊎_elim {C = ClaimFits d} (λ (e : d ≡ c). subst ClaimFits (sym e) f) (mem_each ClaimFits t p d) (insert_claim_mem c t d m)))

narrow_taken : (n : Node) (c : Claim) → Narrow n → ClaimFits c → Narrow (taken n c).node
narrow_taken n c w f =
    ⊎_elim {C = Narrow (taken n c).node}
    (λ (e : first_no (take_questions n c) ≡ 0).
    subst (λ (r : Taken). Narrow r.node) (sym (taken_done n c e))
    (narrow_node_of (hear c (node_keys n)) (table_with c (pending_of n)) (hear_fits c (node_keys n) (take_questions_yes n c e).room)
    (length_table_with c (pending_of n)) (each_hear c (node_keys n) f w.keys)
    (each_table_with c (pending_of n) f w.pending)))
    (λ (g : first_no (take_questions n c) ≡ 0 → ⊥). subst (λ (r : Taken). Narrow r.node) (sym (taken_refused n c g)) w)
    (eq_or_ne (first_no (take_questions n c)) 0)

pub narrow_taken_in_turn : (n : Node) (cs : List Claim) → Narrow n → Each ClaimFits cs → Narrow (taken_in_turn n cs)
narrow_taken_in_turn n [] w p = w
narrow_taken_in_turn n (c ∷ cs) w p = narrow_taken_in_turn (taken n c).node cs (narrow_taken n c w p.0) p.1

module _ (n : Node) (o : Ordered n) (w : Narrow n) where
  -- ---- a beat

  pub narrow_served : Narrow (node_served n)
  narrow_served =
      let kept = (serve (node_keys n) (pending_of n)).kept in
      let fewer = length_kept (node_keys n) (pending_of n) in
      let most = length_pending_of n o in
      narrow_node_of (node_keys n) kept (length_node_keys n o) (omega arith) w.keys
      (each_mem ClaimFits kept (λ d m. mem_each ClaimFits (pending_of n) w.pending d (kept_mem (node_keys n) (pending_of n) d m)))

  -- ---- a key entered

  pub narrow_entered : (key : ℕ) → KeyFits key → length (grown n key) ≤ limit → Narrow (node_entered n key)
  narrow_entered key f fits =
      let keys : Each KeyFits (grown n key) = each_mem KeyFits (grown n key) (λ k m.
      ⊎_elim {C = KeyFits k} (λ (e : k ≡ key). subst KeyFits (sym e) f) (mem_each KeyFits (node_keys n) w.keys k) (insert_mem key (node_keys n) k m)) in
      subst Narrow (sym (node_entered_is n key o fits))
      (record {
        shaped = record { store = sized_store_of (grown n key) fits; pending = w.shaped.pending };
        keys = rw (keys_of_store_of (grown n key)) keys;
        pending = w.pending;
      })

  -- ---- joined with another

  pub narrow_joined : (m : Node) → Narrow m → length (union (node_keys n) (node_keys m)) ≤ limit → Narrow (joined_node n m)
  narrow_joined m v fits =
      let u = union (node_keys n) (node_keys m) in
      let t = joined_table (pending_of n) (pending_of m) in
      narrow_node_of u t fits (omega (arith, length-take table_limit (insert_claims (pending_of n) (pending_of m))))
      (each_mem KeyFits u (λ k i.
      ⊎_elim {C = KeyFits k} (mem_each KeyFits (node_keys n) w.keys k) (mem_each KeyFits (node_keys m) v.keys k) (union_mem (node_keys n) (node_keys m) k i)))
      (each_mem ClaimFits t (λ c i.
      ⊎_elim {C = ClaimFits c} (mem_each ClaimFits (pending_of n) w.pending c) (mem_each ClaimFits (pending_of m) v.pending c)
      (insert_claims_mem (pending_of n) (pending_of m) c (take_mem table_limit (insert_claims (pending_of n) (pending_of m)) c i))))

  -- ---- what a beat sends

  -- the claim of some keys of the store: its ends are keys, its sum a XOR of keys, and there are no more of them than a store has
  spanned_fits : (d : Claim) → Spanned (node_keys n) d → ClaimFits d
  spanned_fits d t =
      let (rise, sub, fewer) = spanned_keys (node_keys n) d (in_order_rising n.store o.store) t in
      let most = length_node_keys n o in
      let key : (k : ℕ) → Memᴰ k t.keys → KeyFits k = λ k m. mem_each KeyFits (node_keys n) w.keys k (sub k m) in
      subst ClaimFits (sym t.claim)
      (record {
        lo = key _ (mem_first t.keys t.some);
        hi = key _ (mem_last t.keys t.some);
        sum = xor_all_lt 64 t.keys key;
        cnt = omega arith;
      })

  pub sending_fits : Each ClaimFits (sending (node_keys n) (pending_of n))
  sending_fits =
      let rise : Rising (node_keys n) = in_order_rising n.store o.store in
      each_mem ClaimFits (sending (node_keys n) (pending_of n)) (λ d m. spanned_fits d (sending_spanned (node_keys n) rise (pending_of n) o.fit d m))
