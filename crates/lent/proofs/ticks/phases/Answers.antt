-- `lent::ticks::phases` meets its contract: the heartbeats end the tick, or the deadline follows.
-- Assumes nothing.
use Rattle.watched.specs.Watched.{run, watching}
use Rattle.tick.proofs.Tickings.{late_errors_end, late_errors_go_on}
use Rattle.lent.proofs.ticks.phases.Goals as goal

pub on_late_all-outcome-requires : goal.on_late_all-outcome-requires
on_late_all-outcome-requires c = c.requires.1

pub returns-then-outcome : goal.returns-then-outcome
returns-then-outcome c =
    let a = c.args in
    late_errors_end a.head.now a.queue.now a.history.now a.time.us (watching (run a.nodes.now a.number)) c.requires.0
    c.on_late_all-outcome.result _ (c.on_late_all-outcome.ensures a.queue.now a.history.now) c.if-outcome.true

pub returns : goal.returns
returns c =
    let a = c.args in
    late_errors_go_on a.head.now a.queue.now a.history.now a.time.us (watching (run a.nodes.now a.number)) c.requires.0
    c.on_late_all-outcome.result _ (c.on_late_all-outcome.ensures a.queue.now a.history.now) c.if-outcome.false c.by_deadline.result _ _ _ c.by_deadline.ensures
