-- `examples::answers::says` meets its contract: `==` of what was answered.
-- Assumes nothing.
use Rattle.examples.proofs.Answering.{dll_same, tick_same}
use Rattle.examples.proofs.answers.says.Goals as goal

pub returns-clause-dll : goal.returns-clause-dll
returns-clause-dll c =
    dll_same _ _ _ _ c.eq.ensures

pub returns-clause-tick : goal.returns-clause-tick
returns-clause-tick c =
    tick_same _ _ _ _ c.eq.ensures
