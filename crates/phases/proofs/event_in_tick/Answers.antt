-- `phases::event_in_tick` meets its contract: the machine by value decides, and its
-- words are written.
-- Assumes nothing.
use Rattle.std.proofs.Common.{ℕ, List, set, ap, ◌∙◌}
use Rattle.nmt.specs.Nmt as Nmt
use Rattle.nmt.specs.declared.cn_state_machine.CnNmtStateMachine.{CnNmtStateMachine}
use Rattle.head.specs.Places as at
use Rattle.phases.proofs.Turns.{event_turns}
use Rattle.phases.proofs.event_in_tick.Goals as goal

pub returns : goal.returns
returns c =
    event_turns c.args.head.now c.told-head _ c.args.event c.process_event-answer.result
    (c.process_event-answer.ensures ∙ ap (λ (m : CnNmtStateMachine). Nmt.processed m c.args.event) c.nmt_of.ensures)
    (c.check_off.ensures ∙ ap (λ (l : List ℕ). set l at.check 0) c.set_nmt.ensures)
