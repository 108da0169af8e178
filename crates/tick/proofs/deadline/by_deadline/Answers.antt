-- `tick::deadline::by_deadline` meets its contract: the deadline is opened, then compared with now.
-- Assumes nothing.
use mathlib.Core.Path.{refl, sym, ◌∙◌}
use Rattle.tick.proofs.Passings.{on, none_passes, basic_passes, ahead_passes, idle_passes, check_passes}
use Rattle.tick.proofs.deadline.by_deadline.Goals as goal

pub returns-then-at_not_active : goal.returns-then-at_not_active
returns-then-at_not_active c =
    basic_passes c.args.head.now c.args.queue.now c.args.history.now c.args.time.us on (sym c.deadline_at.ensures ∙ c.in_default.is) c.at_not_active.result c.at_not_active.ensures c.if-at_not_active.true _ c.set_basic.ensures refl

pub returns-else-at_not_active : goal.returns-else-at_not_active
returns-else-at_not_active c =
    none_passes c.args.head.now c.args.queue.now c.args.history.now c.args.time.us on (sym c.deadline_at.ensures ∙ c.in_default.is) c.at_not_active.result c.at_not_active.ensures c.if-at_not_active.false refl

pub returns-then-time-at : goal.returns-then-time-at
returns-then-time-at c =
    ahead_passes c.args.head.now c.args.queue.now c.args.history.now c.args.time.us on _ (sym c.deadline_at.ensures ∙ c.in-At.is) c.if-time-at.true refl

pub returns-then-at_not_active-2 : goal.returns-then-at_not_active-2
returns-then-at_not_active-2 c =
    idle_passes c.args.head.now c.args.queue.now c.args.history.now c.args.time.us on _ (sym c.deadline_at.ensures ∙ c.in-At.is) c.if-time-at.false _ c.with_deadline.ensures c.at_not_active-2.result c.at_not_active-2.ensures _ c.if-at_not_active-2.true c.time_out.ensures refl

pub returns : goal.returns
returns c =
    check_passes c.args.head.now c.args.queue.now c.args.history.now c.args.time.us c.soc_check.result _ (sym c.deadline_at.ensures ∙ c.in-At.is) c.if-time-at.false _ c.with_deadline.ensures c.at_not_active-2.result c.at_not_active-2.ensures _ c.if-at_not_active-2.false _ _ c.soc_check.ensures
