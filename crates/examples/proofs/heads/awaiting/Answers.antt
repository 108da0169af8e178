-- `examples::heads::awaiting` meets its contract: the moment behind the counters.
-- Assumes nothing.
use Rattle.examples.proofs.Writing.{awaiting_stands}
use Rattle.examples.proofs.heads.awaiting.Goals as goal

pub returns : goal.returns
returns c =
    awaiting_stands c.args.earliest c.args.missed c.args.missed_level _ c.counting.array_long c.counting.ensures _ c.set_earliest.ensures
