-- `node::calls::arm` meets its contract: the time is tried, and the watch armed.
-- Assumes nothing.
use mathlib.Core.Path.{◌∙◌, ap}
use Rattle.node.specs.InPlace.{armed_words}
use Rattle.node.proofs.Refining.{arm_yes}
use Rattle.node.proofs.calls.arm.Goals as goal

pub returns : goal.returns
returns c =
    let a = c.args in
    arm_yes a.head.now c.told-head _ a.time c.in_ok-time.ensures.1
    (c.arm_at.ensures ∙ ap (armed_words a.head.now) c.in_ok-time.ensures.0)
