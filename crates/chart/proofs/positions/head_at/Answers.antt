-- What is read of a machine that was written is that machine.
use Rattle.std.proofs.Common.{ap, ◌∙◌}
use Rattle.nmt.specs.declared.cn_state_machine.CnNmtStateMachine.{CnNmtStateMachine}
use Rattle.nmt.specs.declared.cn_state_machine.Position.{Position}
use Rattle.head.proofs.Laws.{state_back, yes_one}
use Rattle.chart.specs.Positions.{position_of}
use Rattle.chart.proofs.positions.head_at.Goals as goal

abbrev position_in : CnNmtStateMachine → Position
position_in m = record { state = m.current_state; enabled = m.ready_to_operate_enabled; ready = m.app_ready }

pub returns : goal.returns
returns c =
    let m = c.at.result in
    ap position_of c.set_nmt.ensures ∙
    (λ i. record { state = state_back m.current_state i; enabled = yes_one m.ready_to_operate_enabled i; ready = yes_one m.app_ready i }) ∙
    ap position_in c.at.ensures
