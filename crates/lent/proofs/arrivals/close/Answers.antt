-- `lent::arrivals::close` meets its contract: the records behind the place are moved down, and the
-- rest is cleared.
-- Assumes nothing.
use Prim.Native.Nat.{◌+◌, ◌-◌}
use mathlib.Core.Path.{◌≡◌, ap, ◌∙◌}
use mathlib.Core.List.{List, ◌++◌}
use native.Mathlib.Omega.{arith}
use lib.ListN.{take, replicate}
use Rattle.std.specs.List.{copy_within}
use Rattle.watched.specs.declared.nodes.WatchedNode.{WatchedNode}
use Rattle.watched.specs.Watched.{no_node}
use Rattle.partners.proofs.Moved.{shut}
use Rattle.lent.proofs.arrivals.close.Goals as goal

pub returns : goal.returns
returns c =
    let a = c.args in
    let vs = a.nodes.now in
    let k = a.count in
    let p = a.place in
    let r = c.requires in
    let w : c.copy_within.new.self ≡ copy_within vs (p + 1) k p = grind (arith, c.copy_within.ensures.after) in
    c.clear.ensures
    ∙ ap (λ (l : List WatchedNode). take (k - 1) l ++ replicate (32 - (k - 1)) no_node) w
    ∙ shut vs r.0 k p r.1 r.2
