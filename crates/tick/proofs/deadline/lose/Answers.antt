-- `tick::deadline::lose` meets its contract: by whether an error of the event ended the tick.
-- Assumes nothing.
use Rattle.tick.proofs.Passings.{lost_ends, lost_goes_on}
use Rattle.tick.proofs.deadline.lose.Goals as goal

pub returns-then-outcome : goal.returns-then-outcome
returns-then-outcome c =
    let a = c.args in
    lost_ends a.head.now a.queue.now a.history.now a.time.us c.on_dll_event-outcome.result _ _ _ c.on_dll_event-outcome.ensures c.if-outcome.true

pub returns : goal.returns
returns c =
    let a = c.args in
    lost_goes_on a.head.now a.queue.now a.history.now a.time.us c.on_dll_event-outcome.result _ _ _ c.on_dll_event-outcome.ensures c.if-outcome.false _ c.reschedule.ensures
