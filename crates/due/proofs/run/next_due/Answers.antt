-- `due::run::next_due` meets its contract.
-- Assumes nothing.
use mathlib.Core.Path.{◌∙◌}
use Rattle.due.proofs.Walking.{gives_next_due}
use Rattle.due.proofs.run.next_due.Goals as goal

pub returns : goal.returns
returns c = c.due_by.ensures ∙ gives_next_due c.args.head.now c.args.nodes.now c.args.number c.walk.result c.walk.ensures
