-- `partners::place_for` meets its contract: so many stand before the first node above.
-- Assumes nothing.
use Prim.Native.Nat.{ℕ, ◌-◌}
use mathlib.Core.Path.{◌≡◌}
use native.Mathlib.Omega.{arith}
use lib.Dec.{leb}
use Rattle.std.proofs.Common.{rules, tests}
use Rattle.std.proofs.lemmas.Iterator.{YieldsList-from_range}
use Rattle.std.proofs.lemmas.Iterator.Search.{YieldsList-from_take_while}
use Rattle.std.proofs.lemmas.Iterator.Consumers.{count_from_yields_List}
use Rattle.watched.specs.Nodes.{node_at}
use Rattle.partners.proofs.Moved.{place_counted}
use Rattle.partners.proofs.place_for.Goals as goal

pub returns : goal.returns
returns c =
    let a = c.args in
    let ns = a.nodes.now in
    let z : a.count - 0 ≡ a.count = omega arith in
    place_counted ns a.count c.requires a.node c.count.result
    (count_from_yields_List _ _ c.count.ensures.ran
    (YieldsList-from_take_while _ (λ (i : ℕ). leb (node_at ns i).node a.node) (YieldsList-from_range 0 a.count a.count c.take_while.ensures.source z) c.take_while.ensures.closure c.take_while.ensures.done (λ x b q k. search (rules, tests))))
