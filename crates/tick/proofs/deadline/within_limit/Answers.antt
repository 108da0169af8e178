-- `tick::deadline::within_limit` meets its contract: the limit is compared with now.
-- Assumes nothing.
use native.Mathlib.Omega.{arith}
use mathlib.Core.Path.{ap, ◌∙◌}
use Prim.Native.Nat.{min}
use Rattle.node.specs.Steps.{cycle_of, limit_of}
use Rattle.head.specs.declared.state.SocWatch.{SocWatch}
use Rattle.tick.proofs.Turning.{in_none, in_ahead, in_late}
use Rattle.tick.proofs.deadline.within_limit.Goals as goal
use Rattle.tick.proofs.deadline.within_limit.Goals.{else-cycle-gt0-via-then-cycle-gt0+else-time-at, else-cycle-gt0-via-else-cycle-gt0}

pub overflow_add-at : goal.overflow_add-at
overflow_add-at c =
    omega (arith, c.last_soc.ensures, c.limit.ensures.1)

pub returns-then-time-at : goal.returns-then-time-at
returns-then-time-at c =
    in_ahead c.args.head.now c.args.time.us c.cycle.result (c.cycle.ensures.0 ∙ ap cycle_of c.od_of-od.ensures) _ c.if-cycle-gt0.true c.last_soc.result c.limit.result
    (c.last_soc.ensures ∙ ap (λ (s : SocWatch). min s.last_soc_reception_time_us 4611686018427387903) c.soc_of.ensures) (c.limit.ensures.0 ∙ ap limit_of c.od_of-od.ensures) c.if-time-at.true c.with_deadline.ensures

pub returns : goal.returns
returns c =
    let y = c.cycle.ensures.0 ∙ ap cycle_of c.od_of-od.ensures in
    elim c.else-cycle-gt0.branch [
      | else-cycle-gt0-via-then-cycle-gt0+else-time-at w ↦
          in_late c.args.head.now c.args.time.us c.cycle.result y _ w.if-cycle-gt0.true c.last_soc.result c.limit.result
          (c.last_soc.ensures ∙ ap (λ (s : SocWatch). min s.last_soc_reception_time_us 4611686018427387903) c.soc_of.ensures) (c.limit.ensures.0 ∙ ap limit_of c.od_of-od.ensures) w.if-time-at.false c.reschedule.ensures
      | else-cycle-gt0-via-else-cycle-gt0 w ↦ in_none c.args.head.now c.args.time.us c.cycle.result y _ w.if-cycle-gt0.false c.reschedule.ensures
    ]
