-- `tick::tick::tick_active` meets its contract: TimeLimit and BeforeHeard, then the phases, the
-- look and the earliest moment.
-- Assumes nothing.
use mathlib.Core.Path.{sym, ◌∙◌}
use mathlib.Core.Path.{◌≡◌}
use Rattle.std.proofs.Common.{rules}
use Rattle.std.specs.declared.result.Result.TheVariants.{Err}
use Rattle.tick.proofs.Tickings.{late, before, accepted}
use Rattle.tick.proofs.tick.tick_active.Goals as goal

pub returns-in_err-time : goal.returns-in_err-time
returns-in_err-time c =
    let a = c.args in
    let r : c.from_residual.result ≡ Err c.in_err-time.field-0.0 = search rules in
    rw (r, c.in_err-time.ensures.0) (late a.head.now a.queue.now a.history.now a.nodes.now a.count a.time c.requires.0 c.requires.1 c.in_err-time.ensures.1)

pub returns-then-not-heard : goal.returns-then-not-heard
returns-then-not-heard c =
    let a = c.args in
    before a.head.now a.queue.now a.history.now a.nodes.now a.count a.time c.requires.0 c.requires.1 c.in_ok-time.ensures.1
    (sym c.requires.2 ∙ c.if-not-heard.true)

pub phases-outcome-requires : goal.phases-outcome-requires
phases-outcome-requires c =
    c.requires.1

pub refresh_all-soonest-requires : goal.refresh_all-soonest-requires
refresh_all-soonest-requires c =
    c.requires.0

pub returns : goal.returns
returns c =
    let a = c.args in
    accepted a.head.now a.queue.now a.history.now a.nodes.now a.count a.time c.requires.0 c.requires.1 c.in_ok-time.ensures.1
    (sym c.requires.2 ∙ c.if-not-heard.false)
    c.phases-outcome.result _ _ _ (rw c.in_ok-time.ensures.0 at c.phases-outcome.ensures) c.phases-outcome.array_long _ c.refresh_all-soonest.result (rw c.in_ok-time.ensures.0 at c.refresh_all-soonest.ensures) _ c.set_earliest.ensures
