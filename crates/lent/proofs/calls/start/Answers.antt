-- `lent::calls::start` meets its contract: by whether the run is well formed, the fresh head, and
-- the times set.
-- Assumes nothing.
use Rattle.std.proofs.Common.{rules, ◌≡◌, Err}
use Rattle.lent.proofs.Found.{start_done, start_refused}
use Rattle.lent.proofs.calls.start.Goals as goal

pub returns-in_err-begin : goal.returns-in_err-begin
returns-in_err-begin c =
    let a = c.args in
    let r : c.from_residual.result ≡ Err c.in_err-begin.field-0.0 = search rules in
    rw r (start_refused a.head.now a.nodes.now a.number a.setup c.is_formed-formed.result c.is_formed-formed.ensures c.begin.result _ c.begin.ensures _ c.in_err-begin.was)

pub returns : goal.returns
returns c =
    let a = c.args in
    start_done a.head.now a.nodes.now a.number a.setup c.is_formed-formed.result c.is_formed-formed.ensures c.begin.result _ c.begin.ensures c.in_ok-begin.was _ c.unhear.ensures
