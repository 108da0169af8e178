-- `node::timing::armed` meets its contract: by whether there is a cycle.
-- Assumes nothing.
use Rattle.node.proofs.Laws.{armed_on, armed_off}
use Rattle.node.proofs.timing.armed.Goals as goal

pub returns-then-on : goal.returns-then-on
returns-then-on c =
    let a = c.args in
    armed_on a.soc a.od a.time.us c.cycle-on.result c.cycle-on.ensures.0 c.if-on.true c.limit.result c.limit.ensures.0

pub returns-else-on : goal.returns-else-on
returns-else-on c =
    let a = c.args in
    armed_off a.soc a.od a.time.us c.cycle-on.result c.cycle-on.ensures.0 c.if-on.false
