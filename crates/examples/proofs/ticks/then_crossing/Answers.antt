-- `examples::ticks::then_crossing` meets its contract: by the table.
-- Assumes nothing.
use mathlib.Core.Path.{refl, ap}
use mathlib.Core.List.{[], ◌∷◌}
use Rattle.node.specs.Plain.{Call}
use Rattle.node.specs.Examples.{then_crossing, no_nodes}
use Rattle.examples.proofs.Showing.{holds, along, then_coming, crosses, at_call, queue_is, history_is, also, shown}
use Rattle.examples.proofs.ticks.then_crossing.Goals as goal

pub returns : goal.returns
returns c =
    let l = c.above_limit-lost.ensures in
    let x = crosses {cs = []} (along l.1 (then_coming then_crossing.before (Call.tick 11101 no_nodes) (Call.tick 12100 no_nodes ∷ []) _ _ (holds 10)) _ _) (at_call (ap (Call.tick 12100) l.0.lent) c.tick_comes-crossed.ensures) refl _ refl c.crossed.ensures in
    shown refl x (also (also (also l.0.same x.same) ((rw c.crossing_entry-entry.ensures at c.waits.ensures).holds (queue_is _ _ _ _ x.whole))) ((rw c.crossing_entry-entry.ensures at c.is_recorded.ensures).holds (history_is _ _ _ _ x.whole)))
