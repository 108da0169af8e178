-- `node::range::is_loss` meets its contract: the limit is read, and compared with the elapsed time.
-- Assumes nothing.
use Rattle.node.proofs.Ranging.{loss_read}
use Rattle.node.proofs.range.is_loss.Goals as goal

pub returns : goal.returns
returns c =
    let a = c.args in
    loss_read a.head.now a.time.us c.od_of.result _ _ c.od_of.ensures c.limit.ensures.0 c.elapsed.ensures.0
