-- `examples::heads::crossed` meets its contract: the writers one after the other.
-- Assumes nothing.
use Rattle.examples.proofs.Writing.{crossed_placed}
use Rattle.examples.proofs.heads.crossed.Goals as goal

pub returns : goal.returns
returns c =
    crossed_placed _ (rw (c.set_history.ensures, c.set_queue.ensures, c.set_counter.ensures, c.counter.ensures, c.write_cycle.ensures, c.write.ensures, c.values-od.ensures))
