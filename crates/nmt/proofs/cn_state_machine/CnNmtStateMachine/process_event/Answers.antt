-- `nmt::cn_state_machine::CnNmtStateMachine::process_event` meets its contract: the machine follows
-- the entry that is chosen for it.
-- Assumes nothing.
use Rattle.nmt.proofs.Chosen.{follows}
use Rattle.nmt.proofs.cn_state_machine.CnNmtStateMachine.process_event.Goals as goal

pub returns : goal.returns
returns c =
    let a = c.args in
    rw c.at.ensures (follows a.self a.event c.chosen-entry.result _ _ c.chosen-entry.ensures c.reported_of.ensures c.reset_sequence.ensures)
