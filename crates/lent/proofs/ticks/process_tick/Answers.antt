-- `lent::ticks::process_tick` meets its contract: by whether no node asks for anything.
-- Assumes nothing.
use Rattle.std.proofs.Common.{rules, ◌≡◌, Some, None}
use Rattle.lent.proofs.Ticking.{active, quiet}
use Rattle.lent.proofs.ticks.process_tick.Goals as goal

pub tick_active-requires : goal.tick_active-requires
tick_active-requires c =
    let a = c.args in
    let n : c.still.result ≡ None = search rules in
    active a.head.now a.queue.now a.history.now a.nodes.now a.number a.time c.checks_heartbeats-checks.result _ c.checks_heartbeats-checks.ensures c.state_at.ensures c.still.result c.still.ensures n

pub returns : goal.returns
returns c =
    let a = c.args in
    quiet a.head.now a.queue.now a.history.now a.nodes.now a.number a.time c.checks_heartbeats-checks.result _ c.checks_heartbeats-checks.ensures c.state_at.ensures c.still.result c.still.ensures
    _ c.in-Some.is c.moment.result c.moment.ensures c.tick_still.result _ _ _ c.tick_still.ensures
