-- `examples::answers::nmt_says` meets its contract: `==` of what was answered.
-- Assumes nothing.
use Rattle.examples.proofs.Answering.{nmt_same}
use Rattle.examples.proofs.answers.nmt_says.Goals as goal

pub returns : goal.returns
returns c =
    nmt_same _ _ _ _ _ c.eq.ensures
