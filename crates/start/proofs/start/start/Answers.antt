-- `start::start::start` meets its contract: the fresh head or a number, then the nodes' words.
-- Assumes nothing.
use mathlib.Core.Path.{◌≡◌}
use native.Mathlib.Omega.{arith}
use Rattle.std.proofs.Common.{rules, Err}
use Rattle.start.proofs.Begun.{declined, below, begun}
use Rattle.start.proofs.start.start.Goals as goal

pub unheard-requires : goal.unheard-requires
unheard-requires c =
    let a = c.args in
    omega (arith, below a.head.now a.nodes.now a.count a.setup c.well_formed-formed.result c.well_formed-formed.ensures c.begin.result _ c.begin.ensures c.in_ok-begin.was)

pub returns : goal.returns
returns c =
    let a = c.args in
    begun a.head.now a.nodes.now a.count a.setup c.well_formed-formed.result c.well_formed-formed.ensures c.begin.result _ c.begin.ensures c.in_ok-begin.was _ c.unheard.ensures

pub returns-in_err-begin : goal.returns-in_err-begin
returns-in_err-begin c =
    let a = c.args in
    let r : c.from_residual.result ≡ Err c.in_err-begin.field-0.0 = search rules in
    rw r (declined a.head.now a.nodes.now a.count a.setup c.well_formed-formed.result c.well_formed-formed.ensures c.begin.result _ c.begin.ensures _ c.in_err-begin.was)
