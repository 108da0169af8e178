-- `tick::deadline::set_basic` meets its contract.
-- Assumes nothing.
use mathlib.Core.Path.{◌∙◌}
use Rattle.tick.proofs.Turning.{basic_due, basic_not}
use Rattle.tick.proofs.deadline.set_basic.Goals as goal

pub returns-then-timeout-gt0 : goal.returns-then-timeout-gt0
returns-then-timeout-gt0 c =
    basic_due c.args.head.now c.args.time.us c.from-timeout.result (c.from-timeout.ensures ∙ c.timeout_of.ensures) c.if-timeout-gt0.true _ c.with_deadline.ensures

pub returns-else-timeout-gt0 : goal.returns-else-timeout-gt0
returns-else-timeout-gt0 c =
    basic_not c.args.head.now c.args.time.us c.from-timeout.result (c.from-timeout.ensures ∙ c.timeout_of.ensures) c.if-timeout-gt0.false
