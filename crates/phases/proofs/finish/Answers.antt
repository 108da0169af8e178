-- `phases::finish` meets its contract: an action brings the event Error.
-- Assumes nothing.
use Rattle.phases.proofs.Turns.{ends_on, ends_off}
use Rattle.phases.proofs.finish.Goals as goal

pub returns-then-ended : goal.returns-then-ended
returns-then-ended c =
    ends_off c.args.head.now c.args.logged c.args.ended c.if-ended.true _ c.event_in_tick.ensures

pub returns-else-ended : goal.returns-else-ended
returns-else-ended c =
    ends_on c.args.head.now c.args.logged c.args.ended c.if-ended.false
