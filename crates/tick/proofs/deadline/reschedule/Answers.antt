-- `tick::deadline::reschedule` meets its contract: by whether there is a cycle.
-- Assumes nothing.
use native.Mathlib.Omega.{arith}
use mathlib.Core.Path.{ap, ◌∙◌}
use Rattle.node.specs.Steps.{cycle_of}
use Rattle.tick.proofs.Turning.{off_turns, goes_to, goes_off}
use Rattle.tick.proofs.deadline.reschedule.Goals as goal

pub next_deadline-requires : goal.next_deadline-requires
next_deadline-requires c =
    omega (arith, c.if-cycle-gt0.true, c.cycle.ensures.0, ap cycle_of c.od_of.ensures)

pub returns-then-cycle-gt0 : goal.returns-then-cycle-gt0
returns-then-cycle-gt0 c =
    goes_to c.args.head.now c.args.time.us c.cycle.result (c.cycle.ensures.0 ∙ ap cycle_of c.od_of.ensures) _ c.if-cycle-gt0.true c.next_deadline.result c.next_deadline.ensures c.with_deadline.ensures

pub returns : goal.returns
returns c =
    goes_off c.args.head.now c.args.time.us c.cycle.result (c.cycle.ensures.0 ∙ ap cycle_of c.od_of.ensures) _ c.if-cycle-gt0.false (off_turns c.args.head.now c.told-head _ c.check_off.ensures)
