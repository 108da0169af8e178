-- `node::load::load` meets its contract: the values are set, and the history where it is named.
-- Assumes nothing.
use Rattle.node.proofs.Loading.{kept, named_too}
use Rattle.node.proofs.load.load.Goals as goal

pub returns-in-Some : goal.returns-in-Some
returns-in-Some c =
    rw c.in-Some.is
    (named_too c.args.head.now c.args.memory.now c.args.values _ c.load_values.ensures c.load_values.array_long _ c.load-history.result _ _ c.load-history.ensures.0 c.load-history.ensures.1 c.set_history.ensures)

pub returns-in_default : goal.returns-in_default
returns-in_default c =
    rw c.in_default.is (kept c.args.head.now c.args.memory.now c.args.values _ c.load_values.ensures)
