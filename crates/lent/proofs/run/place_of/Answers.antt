-- `lent::run::place_of` meets its contract: so many stand before the first that has the number.
-- Assumes nothing.
use mathlib.Core.Path.{◌≡◌}
use mathlib.Core.Bool.{not}
use lib.Dec.{eqb}
use Rattle.std.proofs.Common.{rules, tests, arith}
use Rattle.std.proofs.lemmas.Grind.{common_steps}
use Rattle.std.proofs.lemmas.Iterator.{YieldsList-from_slice}
use Rattle.std.proofs.lemmas.Iterator.Search.{YieldsList-from_take_while}
use Rattle.std.proofs.lemmas.Iterator.Consumers.{count_from_yields_List}
use Rattle.watched.specs.declared.nodes.WatchedNode.{WatchedNode}
use Rattle.lent.proofs.Moved.{place_of_counted}
use Rattle.lent.proofs.run.place_of.Goals as goal

pub returns : goal.returns
returns c =
    let a = c.args in
    let all : c.take_while.result.iter.rest.now ≡ a.nodes.now = grind (arith, common_steps, c.iter.ensures.rest, c.take_while.ensures.source) in
    place_of_counted a.node a.nodes.now c.count.result
    (count_from_yields_List _ _ c.count.ensures.ran
    (YieldsList-from_take_while _ (λ (w : WatchedNode). not (eqb w.node a.node)) (YieldsList-from_slice a.nodes.now all) c.take_while.ensures.closure c.take_while.ensures.done (λ x b q k. search (rules, tests))))
