-- `examples::heads::counting` meets its contract: the writers one after the other.
-- Assumes nothing.
use Rattle.examples.proofs.Writing.{counting_stands}
use Rattle.examples.proofs.heads.counting.Goals as goal

pub returns : goal.returns
returns c =
    counting_stands c.args.socs c.args.crossings c.args.soc c.args.missed c.args.missed_level _ (rw (c.set_counter-2.ensures, c.counter-2.ensures, c.set_counter.ensures, c.counter.ensures, c.write.ensures, c.values-od.ensures))
