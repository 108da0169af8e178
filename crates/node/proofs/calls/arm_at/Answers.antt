-- `node::calls::arm_at` meets its contract: the watch is armed by the dictionary's values.
-- Assumes nothing.
use mathlib.Core.Path.{◌∙◌, ap}
use Rattle.node.specs.Steps.{armed}
use Rattle.head.specs.Written.{soc_written}
use Rattle.node.proofs.calls.arm_at.Goals as goal

pub returns : goal.returns
returns c =
    c.set_soc.ensures
    ∙ ap (soc_written c.args.head.now)
    (c.armed-soc.ensures ∙ (λ i. armed (c.soc_of.ensures i) (c.od_of.ensures i) c.args.time.us))
