-- `node::load::load_values` meets its contract: one value after the other.
-- Assumes nothing.
use Rattle.node.proofs.Loading.{values_in}
use Rattle.node.proofs.load.load_values.Goals as goal

pub returns : goal.returns
returns c =
    values_in c.args.head.now c.told-head c.args.values _ _ _ _ _ _ _ c.load_register.ensures c.load_object.ensures c.load_object-2.ensures c.load_statistic.ensures
    c.load_statistic-2.ensures c.load_statistic-3.ensures c.load_statistic-4.ensures
