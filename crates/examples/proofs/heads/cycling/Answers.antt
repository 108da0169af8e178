-- `examples::heads::cycling` meets its contract: the writers one after the other.
-- Assumes nothing.
use Rattle.examples.proofs.Writing.{cycling_stands}
use Rattle.examples.proofs.heads.cycling.Goals as goal

pub returns : goal.returns
returns c =
    cycling_stands c.args.deadline c.args.level c.args.lost _ (rw (c.set_counter.ensures, c.counter.ensures, c.write_cycle.ensures, c.write.ensures, c.values-od.ensures))
