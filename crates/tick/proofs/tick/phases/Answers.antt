-- `tick::tick::phases` meets its contract: the heartbeats end the tick, or the deadline follows.
-- Assumes nothing.
use Rattle.watched.specs.Watched.{watched_of}
use Rattle.watched.specs.Nodes.{nodes_of}
use Rattle.tick.proofs.Tickings.{late_errors_end, late_errors_go_on}
use Rattle.tick.proofs.tick.phases.Goals as goal

pub returns-then-late_errors : goal.returns-then-late_errors
returns-then-late_errors c =
    let a = c.args in
    late_errors_end a.head.now a.queue.now a.history.now a.time.us (watched_of (nodes_of a.formed.nodes.now) a.formed.count) c.requires
    c.on_late_all-late_errors.result _ (c.on_late_all-late_errors.ensures a.queue.now a.history.now) c.if-late_errors.true

pub returns : goal.returns
returns c =
    let a = c.args in
    late_errors_go_on a.head.now a.queue.now a.history.now a.time.us (watched_of (nodes_of a.formed.nodes.now) a.formed.count) c.requires
    c.on_late_all-late_errors.result _ (c.on_late_all-late_errors.ensures a.queue.now a.history.now) c.if-late_errors.false c.by_deadline.result _ _ _ c.by_deadline.ensures
