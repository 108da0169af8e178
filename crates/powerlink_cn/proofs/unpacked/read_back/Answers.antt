-- `powerlink_cn::unpacked::read_back`: the law of the packing holds.
-- Assumes nothing.
use Rattle.powerlink_cn.proofs.Packing.{read_back_lem}
use Rattle.powerlink_cn.proofs.unpacked.read_back.Goals as goal

pub returns : goal.returns
returns c = read_back_lem
