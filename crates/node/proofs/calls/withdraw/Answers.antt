-- `node::calls::withdraw` meets its contract: at ReadyToOperate it is declined.
-- Assumes nothing.
use mathlib.Core.Path.{ap, refl, sym, ◌∙◌}
use denote.Enum.Bare.{sameb, same_true}
use Rattle.types.specs.States.{same_state}
use Rattle.types.specs.contracts.nmt.states.NmtState as NmtStateType
use Rattle.types.specs.declared.nmt.states.NmtState.TheVariants.{NmtReadyToOperate}
use Rattle.types.proofs.Cases.{everywhere, NmtStates}
use Rattle.node.proofs.Refining.{withdraw_no, withdraw_yes}
use Rattle.node.proofs.calls.withdraw.Goals as goal

pub returns-then-eq : goal.returns-then-eq
returns-then-eq c =
    withdraw_no c.args.head.now (sym c.state_at.ensures ∙ same_true NmtStateType.the_type tt _ _ (sym c.eq.ensures ∙ c.if-eq.true))

pub returns : goal.returns
returns c =
    withdraw_yes c.args.head.now c.told-head _
    (ap (λ s. same_state s NmtReadyToOperate) (sym c.state_at.ensures)
    ∙ everywhere NmtStates (λ s. same_state s NmtReadyToOperate) (λ s. sameb NmtStateType.the_type s NmtReadyToOperate) refl refl c.state_at.result
    ∙ sym c.eq.ensures ∙ c.if-eq.false)
    c.set_ready.ensures
