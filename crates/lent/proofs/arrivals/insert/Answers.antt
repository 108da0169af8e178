-- `lent::arrivals::insert` meets its contract: the records above the node's place are moved up, the
-- node is put, and the rest is cleared.
-- Assumes nothing.
use Prim.Native.Nat.{ℕ, ◌+◌, ◌-◌, ◌≤◌}
use mathlib.Core.Path.{◌≡◌, ap, ap₂, ◌∙◌}
use mathlib.Core.List.{List, ◌++◌}
use native.Mathlib.Omega.{arith}
use lib.ListN.{set, take, replicate}
use Rattle.std.specs.List.{copy_within}
use Rattle.watched.specs.declared.nodes.WatchedNode.{WatchedNode}
use Rattle.watched.specs.Watched.{no_node}
use Rattle.watched.proofs.Lists.{taken_long}
use Rattle.partners.proofs.Moved.{opened}
use Rattle.lent.proofs.arrivals.insert.Goals as goal

pub returns : goal.returns
returns c =
    let a = c.args in
    let vs = a.nodes.now in
    let k = a.count in
    let p = c.place_for-place.result in
    let few : p ≤ k = omega (arith, c.place_for-place.ensures.1, taken_long vs k c.requires.0 (omega (arith, c.requires.1))) in
    let w : c.copy_within.new.self ≡ copy_within vs p k (p + 1) = grind (arith, c.copy_within.ensures.after) in
    let z : 32 - (k + 1) ≡ 31 - k = omega arith in
    c.clear.ensures
    ∙ ap₂ (λ (l : List WatchedNode) (n : ℕ). take (k + 1) (set l p a.node) ++ replicate n no_node) w z
    ∙ ap (λ (l : List WatchedNode). l ++ replicate (31 - k) no_node) (opened vs c.requires.0 k c.requires.1 a.node p c.place_for-place.ensures.0 few)
