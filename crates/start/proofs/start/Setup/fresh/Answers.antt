-- `start::start::Setup::fresh` meets its contract: the writers one after the other.
-- Assumes nothing.
use native.Mathlib.Omega.{arith}
use Rattle.start.proofs.Begun.{fresh_is}
use Rattle.start.proofs.start.Setup.fresh.Goals as goal

pub returns : goal.returns
returns c =
    let a = c.args in
    fresh_is a.node_id a.capacity a.self c.new-nmt.result c.new-errors.result _ _ _ _ _ _
    c.new-nmt.ensures c.new-errors.ensures c.clear.ensures c.set_nmt.ensures c.set_identity.ensures c.set_thresholds.ensures c.set_od.ensures c.set_capacity.ensures
    (omega arith) (omega arith) (omega arith)
