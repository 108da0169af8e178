-- `examples::ticks::at_limit` meets its contract: by the table.
-- Assumes nothing.
use mathlib.Core.Path.{refl, ap}
use Rattle.node.specs.Plain.{Call}
use Rattle.node.specs.Examples.{at_limit}
use Rattle.examples.proofs.Showing.{holds, begin, at_call, shown_once}
use Rattle.examples.proofs.ticks.at_limit.Goals as goal

pub returns : goal.returns
returns c =
    shown_once (begin at_limit _ c.cycling.ensures (holds 8) _ _) refl (at_call (ap (Call.tick 11100) c.watch_none.ensures) c.tick_comes.ensures) refl refl c.cycling-2.ensures
