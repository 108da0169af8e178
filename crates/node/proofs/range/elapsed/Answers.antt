-- `node::range::elapsed` meets its contract: the last SoC time is read, and how long ago it is.
-- Assumes nothing.
use native.Mathlib.Omega.{arith}
use Rattle.node.proofs.Ranging.{elapsed_read}
use Rattle.node.proofs.range.elapsed.Goals as goal

pub returns : goal.returns
returns c =
    let a = c.args in
    (elapsed_read a.head.now a.time.us c.soc_of.result c.last_soc.result _ c.soc_of.ensures c.last_soc.ensures c.time_since.ensures, omega (arith, a.time.in_time, c.time_since.ensures))
