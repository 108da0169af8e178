-- `reception::arm_by` meets its contract: an SoC arms.
-- Assumes nothing.
use Rattle.reception.proofs.Receiving.{arms_soc}
use Rattle.reception.proofs.arm_by.Goals as goal

pub returns-in-SoC : goal.returns-in-SoC
returns-in-SoC c = rw c.in-SoC.is (arms_soc c.args.head.now c.told-head _ c.args.time.us c.arm_at.ensures)
