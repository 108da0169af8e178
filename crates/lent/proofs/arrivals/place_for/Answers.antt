-- `lent::arrivals::place_for` meets its contract: so many stand before the first node above.
-- Assumes nothing.
use mathlib.Core.Path.{◌≡◌}
use lib.Dec.{leb}
use Rattle.std.proofs.Common.{rules, tests, arith}
use Rattle.std.proofs.lemmas.Grind.{common_steps}
use Rattle.std.proofs.lemmas.Iterator.{YieldsList-from_slice}
use Rattle.std.proofs.lemmas.Iterator.Search.{YieldsList-from_take_while}
use Rattle.std.proofs.lemmas.Iterator.Consumers.{count_from_yields_List}
use Rattle.watched.specs.declared.nodes.WatchedNode.{WatchedNode}
use Rattle.lent.proofs.Moved.{place_counted}
use Rattle.lent.proofs.arrivals.place_for.Goals as goal

pub returns : goal.returns
returns c =
    let a = c.args in
    let all : c.take_while.result.iter.rest.now ≡ a.nodes.now = grind (arith, common_steps, c.iter.ensures.rest, c.take_while.ensures.source) in
    place_counted a.node a.nodes.now c.count.result
    (count_from_yields_List _ _ c.count.ensures.ran
    (YieldsList-from_take_while _ (λ (w : WatchedNode). leb w.node a.node) (YieldsList-from_slice a.nodes.now all) c.take_while.ensures.closure c.take_while.ensures.done (λ x b q k. search (rules, tests))))
