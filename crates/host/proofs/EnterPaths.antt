-- A key entered into a node in order: `node_entered` of specs/Call. In order: where the key fits; the node then, in order; what adding the key to the node's
-- lent keys tells and leaves, which is that. Assumes nothing.
use Prim.Native.Nat.{ℕ, ◌+◌, ◌≤◌, ◌<◌}
use native.Mathlib.Omega.{arith}
use mathlib.Core.Bool.{true, false, cond}
use mathlib.Core.List.{List, [], ◌∷◌}
use mathlib.Core.Logic.{⊎_elim}
use mathlib.Core.Path.{◌≡◌, ap, sym, ◌∙◌, subst}
use borrow.Author.Tests.{lt-ltb, le-ltb}
use lib.ListN.{length}
use Rattle.keys.specs.declared.store.Store.{Store}
use Rattle.keys.specs.Store.{limit, Sized, store_of, insert}
use Rattle.keys.specs.Lent.{Grown, add_in}
use Rattle.keys.proofs.Tests.{lt_or_le}
use Rattle.keys.proofs.Rising.{Rising}
use Rattle.keys.proofs.Insert.{insert_rising, mem_insert_old}
use Rattle.keys.proofs.StoreLaws.{in_order_rising, store_of_keys_of, length_keys_store_of}
use Rattle.keys.proofs.LentLaws.{add_in_fits, add_in_full, add_in_unfit}
use Rattle.claims.specs.Question.{first_no, question6}
use Rattle.claims.specs.Call.{entered}
use Rattle.rule.specs.declared.node.Node.{Node}
use Rattle.rule.specs.Node.{node_keys}
use Rattle.rule.proofs.NodeLaws.{Ordered, restored, ordered_restored}
use Rattle.host.specs.Call.{node_entered}

module _ (n : Node) (key : ℕ) where
  -- the keys with the new one
  abbrev pub grown : List ℕ
  grown = insert key (node_keys n)

  -- 6 of the key
  abbrev pub six : ℕ
  six = first_no (question6 (key ∷ []) (node_keys n) ∷ [])

  six_fits : length grown ≤ limit → six ≡ 0
  six_fits f = rw (lt-ltb (length grown) (limit + 1) (omega arith))

  six_full : limit < length grown → six ≡ 6
  six_full f = rw (le-ltb (length grown) (limit + 1) (omega arith))

  pub fits_six : six ≡ 0 → length grown ≤ limit
  fits_six z =
      ⊎_elim {C = length grown ≤ limit} (λ (f : limit < length grown). absurd (omega (arith, six_full f))) (λ (f : length grown ≤ limit). f)
      (lt_or_le limit (length grown))

  module _ (o : Ordered n) where
    rise : Rising (node_keys n)
    rise = in_order_rising n.store o.store

    module _ (fits : length grown ≤ limit) where
      store_entered : (entered n.store key).store ≡ store_of grown
      unfolding entered
      store_entered = rw (o.store, six_fits fits)

      pub node_entered_is : node_entered n key ≡ restored n (store_of grown)
      node_entered_is = ap (restored n) store_entered

      pub ordered_entered : Ordered (node_entered n key)
      ordered_entered =
          subst Ordered (sym node_entered_is) (ordered_restored n grown o (insert_rising key (node_keys n) rise) fits (mem_insert_old key (node_keys n)))

    -- ---- the key added to the lent keys: what that told, and the store then

    module _ (sized : Sized n.store) {h : Grown} (added : h ≡ add_in n.store key) where
      told : h ≡ add_in (store_of (node_keys n)) key
      told = added ∙ ap (λ (s : Store). add_in s key) (store_of_keys_of n.store sized o.store)

      -- 6 as it is asked, and as adding told it
      pub added_six : six ≡ cond h.fits 0 6
      added_six = ⊎_elim {C = six ≡ cond h.fits 0 6}
          (λ (f : limit < length grown). six_full f ∙ ap (λ (g : Grown). cond g.fits 0 6) (sym (told ∙ add_in_full (node_keys n) rise key f)))
          (λ (f : length grown ≤ limit). six_fits f ∙ ap (λ (g : Grown). cond g.fits 0 6) (sym (told ∙ add_in_fits (node_keys n) rise key f)))
          (lt_or_le limit (length grown))

      -- a key that does not fit leaves the run with its places
      pub unfit_long : h.fits ≡ false → length h.store.keys ≡ limit
      unfit_long f =
          let kept = add_in_unfit n.store key (sym (ap (λ (g : Grown). g.fits) added) ∙ f) in
          rw (ap (λ (g : Grown). g.store.keys) added ∙ ap (λ (s : Store). s.keys) kept) sized.keys

      module _ (fit : h.fits ≡ true) where
        pub added_fits : length grown ≤ limit
        added_fits = fits_six (added_six ∙ rw fit)

        store_grown : h.store ≡ store_of grown
        store_grown = ap (λ (g : Grown). g.store) (told ∙ add_in_fits (node_keys n) rise key added_fits)

        pub added_node : restored n h.store ≡ node_entered n key
        added_node = ap (restored n) store_grown ∙ sym (node_entered_is added_fits)

        pub added_long : length h.store.keys ≡ limit
        added_long = rw (ap (λ (s : Store). s.keys) store_grown) (length_keys_store_of grown added_fits)
