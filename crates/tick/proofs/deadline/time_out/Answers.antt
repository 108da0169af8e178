-- `tick::deadline::time_out` meets its contract.
-- Assumes nothing.
use Rattle.tick.proofs.Turning.{out, never}
use Rattle.tick.proofs.deadline.time_out.Goals as goal

pub returns-then-timeout_of-gt0 : goal.returns-then-timeout_of-gt0
returns-then-timeout_of-gt0 c =
    out c.args.head.now 0 c.timeout_of.result c.timeout_of.ensures c.if-timeout_of-gt0.true _ c.timeout_in_tick.ensures

pub returns-else-timeout_of-gt0 : goal.returns-else-timeout_of-gt0
returns-else-timeout_of-gt0 c =
    never c.args.head.now 0 c.timeout_of.result c.timeout_of.ensures c.if-timeout_of-gt0.false
