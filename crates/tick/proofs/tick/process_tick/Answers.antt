-- `tick::tick::process_tick` meets its contract: WatchedNodes, then by what the first look saw.
-- Assumes nothing.
use mathlib.Core.Path.{◌≡◌, ap, ◌∙◌}
use Rattle.std.proofs.Common.{rules}
use Rattle.std.specs.declared.result.Result.TheVariants.{Err}
use Rattle.std.specs.declared.option.Option.TheVariants.{Some}
use Rattle.tick.proofs.Tickings.{told, untold, unformed, is_active, is_still_lem}
use Rattle.tick.proofs.tick.process_tick.Goals as goal

pub tick_active-requires : goal.tick_active-requires
tick_active-requires c =
    let a = c.args in
    is_active a.head.now a.queue.now a.history.now a.nodes.now a.count a.time c.checks_heartbeats.result _ c.checks_heartbeats.ensures c.state_at.ensures c.active-seen.result c.active-seen.ensures _ (told _ _ c.ok_or.ensures.value _ c.in_ok-heard.was ∙ ap Some c.in-Active.is)

pub returns-in-Active : goal.returns-in-Active
returns-in-Active c =
    c.tick_active.ensures

pub returns-in-Resting : goal.returns-in-Resting
returns-in-Resting c =
    let a = c.args in
    is_still_lem a.head.now a.queue.now a.history.now a.nodes.now a.count a.time c.checks_heartbeats.result _ c.checks_heartbeats.ensures c.state_at.ensures c.active-seen.result c.active-seen.ensures _ (told _ _ c.ok_or.ensures.value _ c.in_ok-heard.was ∙ ap Some c.in-Resting.is)
    c.tick_still.result _ _ _ c.tick_still.ensures

pub returns-in_err-heard : goal.returns-in_err-heard
returns-in_err-heard c =
    let a = c.args in
    let r : c.from_residual.result ≡ Err c.in_err-heard.field-0.0 = search rules in
    let u = untold _ _ c.ok_or.ensures.value _ c.in_err-heard.was in
    rw (r, u.1) (unformed a.head.now a.queue.now a.history.now a.nodes.now a.count a.time c.checks_heartbeats.result _ c.checks_heartbeats.ensures c.state_at.ensures c.active-seen.result c.active-seen.ensures u.0)
