-- `examples::events::timeout` meets its contract: by the table.
-- Assumes nothing.
use mathlib.Core.Path.{refl}
use Rattle.node.specs.Examples.{timeout}
use Rattle.examples.proofs.Showing.{holds, begin, shown_once}
use Rattle.examples.proofs.events.timeout.Goals as goal

pub returns : goal.returns
returns c =
    λ q m.
    shown_once (begin timeout _ c.resting.ensures (holds 1) q m) refl (c.nmt_comes.ensures q m) refl refl c.resting-2.ensures
