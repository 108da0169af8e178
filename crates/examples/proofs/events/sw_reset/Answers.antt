-- `examples::events::sw_reset` meets its contract: by the table.
-- Assumes nothing.
use mathlib.Core.Path.{refl}
use Rattle.examples.proofs.Showing.{begun, next, also, shown}
use Rattle.examples.proofs.events.sw_reset.Goals as goal

pub returns : goal.returns
returns c =
    λ q m.
    let b = begun _ _ _ _ _ _ _ c.values.ensures c.same_for_all.ensures c.start-answer.ensures in
    let n = next (b.1 q m) (c.nmt_comes.ensures q m) refl refl c.resting.ensures in
    shown refl n.0 (also (c.is_taken-started.ensures.holds b.0) n.0.same)
