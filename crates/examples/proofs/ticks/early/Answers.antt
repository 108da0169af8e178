-- `examples::ticks::early` meets its contract: by the table.
-- Assumes nothing.
use mathlib.Core.Path.{refl, ap}
use Rattle.node.specs.Plain.{Call}
use Rattle.node.specs.Examples.{early}
use Rattle.examples.proofs.Showing.{holds, begin, at_call, shown_once}
use Rattle.examples.proofs.ticks.early.Goals as goal

pub returns : goal.returns
returns c =
    shown_once (begin early _ c.cycling.ensures (holds 7) _ _) refl (at_call (ap (Call.tick 10500) c.watch_none.ensures) c.tick_comes.ensures) refl refl c.cycling-2.ensures
