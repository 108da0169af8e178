-- `tick::deadline::with_deadline` meets its contract: its words are written.
-- Assumes nothing.
use Rattle.tick.proofs.Turning.{due_turns}
use Rattle.tick.proofs.deadline.with_deadline.Goals as goal

pub returns : goal.returns
returns c =
    due_turns c.args.head.now c.told-head _ c.args.deadline c.set_deadline.ensures
