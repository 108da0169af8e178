-- `examples::events::no_row` meets its contract: by the table.
-- Assumes nothing.
use mathlib.Core.Path.{refl}
use Rattle.node.specs.Examples.{no_row}
use Rattle.examples.proofs.Showing.{holds, begin, shown_once}
use Rattle.examples.proofs.events.no_row.Goals as goal

pub returns : goal.returns
returns c =
    λ q m.
    shown_once (begin no_row _ c.resting.ensures (holds 3) q m) refl (c.nmt_comes.ensures q m) refl refl c.resting-2.ensures
