-- The head's position is that of the plain head's step.
use Rattle.std.proofs.Common.{rules, ap, ◌∙◌}
use Rattle.nmt.specs.declared.cn_state_machine.Position.{Position}
use Rattle.chart.specs.Positions.{stepped}
use Rattle.chart.specs.declared.positions.Step.TheVariants as by
use Rattle.chart.proofs.Steps.{event_steps}
use Rattle.chart.proofs.positions.after_event.Goals as goal

pub returns : goal.returns
returns c =
    c.position_of.ensures ∙
    event_steps _ _ _ _ _ c.args.event (search rules) c.nmt_event.ensures ∙
    ap (λ (p : Position). stepped p (by.Event c.args.event)) c.head_at-head.ensures
