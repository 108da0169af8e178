-- `due::words::next_due` meets its contract.
-- Assumes nothing.
use mathlib.Core.Path.{◌∙◌}
use Rattle.watched.specs.Nodes.{nodes_of}
use Rattle.due.proofs.Walking.{gives_next_due}
use Rattle.due.proofs.words.next_due.Goals as goal

pub returns : goal.returns
returns c = c.due_by.ensures ∙ gives_next_due c.args.head.now (nodes_of c.args.nodes.now) c.args.count c.walk.result c.walk.ensures
