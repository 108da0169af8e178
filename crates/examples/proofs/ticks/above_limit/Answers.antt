-- `examples::ticks::above_limit` meets its contract: by the table.
-- Assumes nothing.
use mathlib.Core.Path.{refl, ap}
use Rattle.node.specs.Plain.{Call}
use Rattle.node.specs.Examples.{above_limit}
use Rattle.examples.proofs.Showing.{holds, begin, at_call, shown_once, stands_there}
use Rattle.examples.proofs.ticks.above_limit.Goals as goal

pub returns : goal.returns
returns c =
    let s = shown_once (begin above_limit _ c.cycling.ensures (holds 9) _ _) refl (at_call (ap (Call.tick 11101) c.watch_none.ensures) c.tick_comes.ensures) refl refl c.cycling-2.ensures in
    (s, stands_there c.tick_comes.ensures s.same c.cycling-2.ensures)
