-- `examples::events::no_cycle` meets its contract: by the table.
-- Assumes nothing.
use mathlib.Core.Path.{refl}
use Rattle.node.specs.Examples.{no_cycle}
use Rattle.examples.proofs.Showing.{holds, begin, shown_once}
use Rattle.examples.proofs.events.no_cycle.Goals as goal

pub returns : goal.returns
returns c =
    λ q m.
    shown_once (begin no_cycle _ c.resting.ensures (holds 4) q m) refl (c.dll_comes.ensures q m) refl refl c.resting-2.ensures
