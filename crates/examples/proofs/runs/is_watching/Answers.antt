-- `examples::runs::is_watching` meets its contract: the first record is the one stated, and the rest is blank.
-- Assumes nothing.
use mathlib.Core.Path.{refl}
use Rattle.watched.specs.Nodes.{node_of}
use Rattle.examples.proofs.Exact.{exact_is, moved}
use Rattle.examples.proofs.Blank.{exact_node, exact_watching}
use Rattle.examples.proofs.runs.is_watching.Goals as goal

pub returns : goal.returns
returns c =
    exact_watching c.args.nodes.now (node_of c.args.stated)
    (moved c.at.ensures refl (exact_is c.eq.ensures (exact_node (node_of c.at.result) (node_of c.args.stated)))) c.rest_is_blank.ensures
