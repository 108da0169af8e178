-- `tick::deadline::at_not_active` meets its contract.
-- Assumes nothing.
use mathlib.Core.Path.{refl, sym, ap, ◌∙◌}
use denote.Enum.Bare.{sameb}
use Rattle.types.specs.States.{same_state}
use Rattle.types.specs.contracts.nmt.states.NmtState as NmtStateType
use Rattle.types.specs.declared.nmt.states.NmtState.TheVariants.{NmtNotActive}
use Rattle.types.proofs.Cases.{everywhere, NmtStates}
use Rattle.head.specs.Words.{head_of}
use Rattle.tick.proofs.deadline.at_not_active.Goals as goal

pub returns : goal.returns
unfolding head_of
returns c =
    c.eq.ensures
    ∙ sym (everywhere NmtStates (λ s. same_state s NmtNotActive) (λ s. sameb NmtStateType.the_type s NmtNotActive) refl refl c.state_at.result)
    ∙ ap (λ s. same_state s NmtNotActive) c.state_at.ensures
