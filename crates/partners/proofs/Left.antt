-- The run that the walk of an add or a removal leaves, whatever form its places have.
-- Assumes nothing.
use Prim.Native.Nat.{ℕ, suc, ◌+◌, ◌-◌, ◌<◌, ◌≤◌}
use mathlib.Core.Path.{◌≡◌, refl, sym, ap, ap₂, ◌∙◌}
use mathlib.Core.Bool.{true}
use mathlib.Core.List.{List, ◌++◌}
use native.Mathlib.Omega.{arith}
use native.Mathlib.Numerals.{add-one}
use lib.Dec.{leb}
use lib.ListN.{length, take, drop, replicate}
use Rattle.types.specs.Pick.{both, all_of}
use Rattle.types.proofs.Tests.{both_first, both_second}
use Rattle.watched.specs.declared.nodes.WatchedNode.{WatchedNode}
use Rattle.watched.specs.Watched.{ascending, fits, well_formed, place_of, no_node, watched_node, watched_of, run, inserted, without}
use Rattle.watched.proofs.Lists.{taken_long, few}
use Rattle.watched.proofs.Lists as Lists
use Rattle.node.specs.Steps.{added, removed}
use Rattle.partners.specs.Walks.{carried, closed}
use Rattle.partners.proofs.Carrying.{carried_inserted, inserted_long}
use Rattle.partners.proofs.Closing.{closed_without, without_long}

module _ (ps : List WatchedNode) (k n : ℕ) (all : length ps ≡ 32) (f : well_formed (watched_of ps k) ≡ true) where
  abbrev vs : List WatchedNode
  vs = watched_of ps k

  below : k ≤ 32
  below = few ps k true (sym f) refl

  pub same : take k ps ≡ vs
  same = sym (Lists.whole ps k all below)

  watched_long : length vs ≡ k
  watched_long = ap length (sym same) ∙ taken_long ps k all below

  pub ascends : ascending (take k ps) ≡ true
  unfolding well_formed
  ascends =
      ap ascending same
      ∙ both_first (ascending vs) (all_of fits vs) (both_second (leb (length vs) 32) (both (ascending vs) (all_of fits vs)) f)

  pub add_left : (o : ℕ) → k < 32 → (qs : List WatchedNode) → qs ≡ carried k (watched_node n o 0) ps → run qs (k + 1) ≡ added n o (run ps k)
  add_left o l qs s =
      let t : WatchedNode = watched_node n o 0 in
      let long : length (inserted t vs) ≡ k + 1 = inserted_long t vs ∙ ap suc watched_long ∙ sym (add-one k) in
      let sum : (32 - length (inserted t vs)) + suc k ≡ length ps = omega (arith, long, all) in
      let left : qs ≡ inserted t vs ++ replicate (32 - length (inserted t vs)) no_node =
      s ∙ carried_inserted t k (32 - length (inserted t vs)) ps sum ascends ∙ ap (λ (l : List WatchedNode). inserted t l ++ replicate (32 - length (inserted t vs)) no_node) same in
      ap₂ run left (sym long)

  -- the same by the nodes with the one put in, and zeros
  pub add_stored : (o : ℕ) → k < 32 → (qs : List WatchedNode) → qs ≡ inserted (watched_node n o 0) (take k ps) ++ replicate (31 - k) no_node → run qs (k + 1) ≡ added n o (run ps k)
  add_stored o l qs s =
      let sum : (31 - k) + suc k ≡ length ps = omega (arith, l, all) in
      add_left o l qs (s ∙ sym (carried_inserted (watched_node n o 0) k (31 - k) ps sum ascends))

  pub remove_left :
      (p : ℕ) → p ≡ place_of n vs → p < k → (qs : List WatchedNode) → qs ≡ take p ps ++ closed (k - p) (drop p ps) → run qs (k - 1) ≡ removed n (run ps k)
  remove_left p e h qs s =
      let long : suc (length (without n vs)) ≡ length vs = without_long n vs (omega (arith, e, h, watched_long)) in
      let less : length (without n vs) ≡ k - 1 = omega (arith, long, watched_long) in
      let sum : (32 - length (without n vs)) + k ≡ suc (length ps) = omega (arith, long, watched_long, all, below) in
      let left : qs ≡ without n vs ++ replicate (32 - length (without n vs)) no_node =
      s ∙ closed_without n k (32 - length (without n vs)) p ps sum (omega (arith, all, below)) (e ∙ ap (place_of n) (sym same)) h
      ∙ ap (λ (l : List WatchedNode). without n l ++ replicate (32 - length (without n vs)) no_node) same in
      ap₂ run left (sym less)
