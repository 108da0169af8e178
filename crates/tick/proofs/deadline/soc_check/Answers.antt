-- `tick::deadline::soc_check` meets its contract.
-- Assumes nothing.
use mathlib.Core.Path.{refl, sym, ◌∙◌}
use Rattle.tick.proofs.Passings.{on, none_checked, lost_checked, within_checked}
use Rattle.tick.proofs.deadline.soc_check.Goals as goal

pub returns-then-is_loss : goal.returns-then-is_loss
returns-then-is_loss c =
    lost_checked c.args.head.now c.args.queue.now c.args.history.now c.args.time.us c.lose.result (sym c.check_of.ensures ∙ c.if-check_of.true) c.is_loss.result c.is_loss.ensures
    _ c.if-is_loss.true _ _ c.lose.ensures

pub returns-else-is_loss : goal.returns-else-is_loss
returns-else-is_loss c =
    within_checked c.args.head.now c.args.queue.now c.args.history.now c.args.time.us on (sym c.check_of.ensures ∙ c.if-check_of.true) c.is_loss.result c.is_loss.ensures
    _ c.if-is_loss.false c.within_limit.ensures refl

pub returns-else-check_of : goal.returns-else-check_of
returns-else-check_of c =
    none_checked c.args.head.now c.args.queue.now c.args.history.now c.args.time.us on (sym c.check_of.ensures ∙ c.if-check_of.false) refl
