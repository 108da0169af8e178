-- `node::calls::hand_out` meets its contract: the queue by value decides.
-- Assumes nothing.
use Rattle.entries.proofs.Lists.{handed_as}
use Rattle.node.proofs.Refining.{hand_out_yes}
use Rattle.node.proofs.calls.hand_out.Goals as goal

pub returns : goal.returns
returns c =
    let a = c.args in
    let handed = c.hand_out-entry in
    hand_out_yes a.head.now c.told-head _ a.memory.now (record { queue = handed.new.self; entry = handed.result })
    (handed_as a.memory.now handed.ensures.queue handed.ensures.entry c.queue_of-queue.ensures) c.set_queue.ensures
