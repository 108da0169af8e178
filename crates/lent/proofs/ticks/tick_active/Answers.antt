-- `lent::ticks::tick_active` meets its contract: its tests in their order, then the phases, the
-- times set, and the earliest moment.
-- Assumes nothing.
use mathlib.Core.Path.{◌≡◌}
use Rattle.std.proofs.Common.{rules, Err, Some, None}
use Rattle.types.specs.declared.refusals.Refusal.TheVariants.{WatchedNodes}
use Rattle.lent.proofs.Ticking.{tick_unformed, well, checked, inside, tick_late, tick_before, tick_accepted}
use Rattle.lent.proofs.ticks.tick_active.Goals as goal

pub returns-in_err-heard : goal.returns-in_err-heard
returns-in_err-heard c =
    let a = c.args in
    let r : c.from_residual.result ≡ Err WatchedNodes = search rules in
    let n : c.active.result ≡ None = search rules in
    rw r (tick_unformed a.head.now a.queue.now a.history.now a.nodes.now a.number a.time c.requires c.active.result c.active.ensures n)

pub returns-in_err-time : goal.returns-in_err-time
returns-in_err-time c =
    let a = c.args in
    let s : c.active.result ≡ Some c.in_ok-heard.heard = search rules in
    let r : c.from_residual-in_err-time.result ≡ Err c.in_err-time.field-0.0 = search rules in
    let late = c.in_err-time.ensures in
    rw (r, late.0) (tick_late a.head.now a.queue.now a.history.now a.nodes.now a.number a.time c.requires c.active.result c.active.ensures _ s late.1)

pub returns-then-not-heard : goal.returns-then-not-heard
returns-then-not-heard c =
    let a = c.args in
    let s : c.active.result ≡ Some c.in_ok-heard.heard = search rules in
    tick_before a.head.now a.queue.now a.history.now a.nodes.now a.number a.time c.requires c.active.result c.active.ensures _ s c.in_ok-time.ensures.1 c.if-not-heard.true

pub phases-outcome-requires : goal.phases-outcome-requires
phases-outcome-requires c =
    let a = c.args in
    let s : c.active.result ≡ Some c.in_ok-heard.heard = search rules in (
      checked a.head.now a.queue.now a.history.now a.nodes.now a.number a.time c.requires c.active.result c.active.ensures _ s,
      well a.head.now a.queue.now a.history.now a.nodes.now a.number a.time c.requires c.active.result c.active.ensures _ s,
    )

pub refresh-soonest-requires : goal.refresh-soonest-requires
refresh-soonest-requires c =
    let a = c.args in
    let s : c.active.result ≡ Some c.in_ok-heard.heard = search rules in
    inside a.head.now a.queue.now a.history.now a.nodes.now a.number a.time c.requires c.active.result c.active.ensures _ s

pub returns : goal.returns
returns c =
    let a = c.args in
    let s : c.active.result ≡ Some c.in_ok-heard.heard = search rules in
    let e = c.in_ok-time.ensures in
    let r = rw e.0 at c.refresh-soonest.ensures in
    tick_accepted a.head.now a.queue.now a.history.now a.nodes.now a.number a.time c.requires c.active.result c.active.ensures _ s e.1
    _ r.0 c.if-not-heard.false
    c.phases-outcome.result _ _ _ (rw e.0 at c.phases-outcome.ensures) c.phases-outcome.array_long _ r.1 c.moment.result c.moment.ensures _ c.set_earliest.ensures
