-- `examples::heads::watching` meets its contract: three words are written.
-- Assumes nothing.
use Rattle.examples.proofs.Writing.{watching_written}
use Rattle.examples.proofs.heads.watching.Goals as goal

pub returns : goal.returns
returns c =
    watching_written c.args.last_heard _ (rw c.node_five.ensures at c.put.ensures).0
