-- `examples::heads::resting` meets its contract.
-- Assumes nothing.
use Rattle.examples.proofs.Writing.{resting_stands}
use Rattle.examples.proofs.heads.resting.Goals as goal

pub returns : goal.returns
returns c =
    resting_stands c.args.state c.args.enabled c.args.ready _ (rw (c.write.ensures, c.values.ensures))
