-- `tick::tick::tick_still` meets its contract: TimeLimit, then the deadline and the earliest
-- moment.
-- Assumes nothing.
use mathlib.Core.Path.{◌≡◌}
use Rattle.std.proofs.Common.{rules}
use Rattle.std.specs.declared.result.Result.TheVariants.{Err}
use Rattle.tick.proofs.Tickings.{still_late, still_accepted}
use Rattle.tick.proofs.tick.tick_still.Goals as goal

pub returns-in_err-time : goal.returns-in_err-time
returns-in_err-time c =
    let a = c.args in
    let r : c.from_residual.result ≡ Err c.in_err-time.field-0.0 = search rules in
    rw (r, c.in_err-time.ensures.0) (still_late a.head.now a.queue.now a.history.now a.time a.late c.in_err-time.ensures.1)

pub returns : goal.returns
returns c =
    let a = c.args in
    still_accepted a.head.now a.queue.now a.history.now a.time a.late c.in_ok-time.ensures.1
    c.by_deadline-outcome.result _ _ _ (rw c.in_ok-time.ensures.0 at c.by_deadline-outcome.ensures) c.by_deadline-outcome.array_long _ c.set_earliest.ensures
