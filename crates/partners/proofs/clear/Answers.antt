-- `partners::clear` meets its contract: zeros stand for cleared nodes.
-- Assumes nothing.
use native.Mathlib.Omega.{arith}
use Rattle.partners.proofs.Moved.{nodes_cleared}
use Rattle.partners.proofs.clear.Goals as goal

pub returns : goal.returns
returns c = nodes_cleared c.args.nodes.now c.told-nodes c.args.from c.requires (c.fill.ensures.after (λ y e. e)) (omega arith)
