-- `partners::close` meets its contract: the words behind the place are moved down, and the rest is
-- cleared.
-- Assumes nothing.
use Prim.Native.Nat.{◌+◌, ◌-◌, ◌*◌}
use mathlib.Core.Path.{◌≡◌, ap, ◌∙◌}
use mathlib.Core.List.{List, ◌++◌}
use native.Mathlib.Omega.{arith}
use lib.ListN.{take, replicate}
use Rattle.std.specs.List.{copy_within}
use Rattle.watched.specs.declared.nodes.WatchedNode.{WatchedNode}
use Rattle.watched.specs.Watched.{no_node}
use Rattle.watched.specs.Nodes.{nodes_of}
use Rattle.watched.proofs.Watching.{places}
use Rattle.partners.proofs.Moved.{nodes_moved, shut}
use Rattle.partners.proofs.close.Goals as goal

pub returns : goal.returns
returns c =
    let a = c.args in
    let k = a.count in
    let p = a.place in
    let r = c.requires in
    let w : c.copy_within.new.self ≡ copy_within a.nodes.now (3 * (p + 1)) (3 * k) (3 * p) = grind (arith, c.copy_within.ensures.after) in
    let m = ap nodes_of w ∙ nodes_moved a.nodes.now c.told-nodes (p + 1) k p (omega (arith, r.0)) r.1 (omega (arith, r.0, r.1)) in
    c.clear.ensures
    ∙ ap (λ (l : List WatchedNode). take (k - 1) l ++ replicate (32 - (k - 1)) no_node) m
    ∙ shut (nodes_of a.nodes.now) (places a.nodes.now) k p r.0 r.1
