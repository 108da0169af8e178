-- `partners::insert` meets its contract: the words above the node's place are moved up, the node is
-- put, and the rest is cleared.
-- Assumes nothing.
use Prim.Native.Nat.{ℕ, ◌+◌, ◌-◌, ◌*◌}
use mathlib.Core.Path.{◌≡◌, ap, ap₂, ◌∙◌}
use mathlib.Core.List.{List, ◌++◌}
use native.Mathlib.Omega.{arith}
use lib.ListN.{set, take, replicate}
use Rattle.std.specs.List.{copy_within}
use Rattle.watched.specs.declared.nodes.WatchedNode.{WatchedNode}
use Rattle.watched.specs.Watched.{no_node}
use Rattle.watched.specs.Nodes.{node_of, nodes_of}
use Rattle.watched.proofs.Watching.{places}
use Rattle.partners.proofs.Moved.{nodes_moved, opened}
use Rattle.partners.proofs.insert.Goals as goal

pub returns : goal.returns
returns c =
    let a = c.args in
    let k = a.count in
    let p = c.place_for-place.result in
    let few = c.place_for-place.ensures.1 in
    let v = node_of a.node in
    let w : c.copy_within.new.self ≡ copy_within a.nodes.now (3 * p) (3 * k) (3 * (p + 1)) = grind (arith, c.copy_within.ensures.after) in
    let m = ap nodes_of w ∙ nodes_moved a.nodes.now c.told-nodes p k (p + 1) few (omega (arith, c.requires)) (omega (arith, few, c.requires)) in
    let z : 32 - (k + 1) ≡ 31 - k = omega arith in
    c.clear.ensures
    ∙ ap₂ (λ (l : List WatchedNode) (n : ℕ). take (k + 1) l ++ replicate n no_node) (c.put.ensures.1 ∙ ap (λ (l : List WatchedNode). set l p v) m) z
    ∙ ap (λ (l : List WatchedNode). l ++ replicate (31 - k) no_node) (opened (nodes_of a.nodes.now) (places a.nodes.now) k c.requires v p c.place_for-place.ensures.0 few)
