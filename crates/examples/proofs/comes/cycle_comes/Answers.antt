-- `examples::comes::cycle_comes` meets its contract: the call, its answer and the head.
-- Assumes nothing.
use mathlib.Core.Path.{refl}
use Rattle.examples.proofs.Exact.{exact_flag}
use Rattle.examples.proofs.Coming.{came, exact_cleared}
use Rattle.examples.proofs.comes.cycle_comes.Goals as goal

pub returns : goal.returns
returns c =
    came _ _ _ _ _ (exact_cleared _ _ (exact_flag c.on_cycle_complete.result c.args.cleared)) c.same_head.ensures _ _ c.on_cycle_complete.ensures (λ p. refl)
