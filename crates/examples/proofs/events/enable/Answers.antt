-- `examples::events::enable` meets its contract: by the table.
-- Assumes nothing.
use mathlib.Core.Path.{refl}
use Rattle.node.specs.Examples.{enable}
use Rattle.examples.proofs.Showing.{holds, begin, next, also, shown}
use Rattle.examples.proofs.events.enable.Goals as goal

pub returns : goal.returns
returns c =
    λ q m.
    let w = next (begin enable _ c.resting.ensures (holds 2) q m) (c.withdrawn-withdrawn.ensures q m) refl refl c.resting-2.ensures in
    let e = next w.1 (c.nmt_comes-enabled.ensures q m) refl refl c.resting-3.ensures in
    let r = next e.1 (c.nmt_comes.ensures q m) refl refl c.resting-4.ensures in
    shown refl r.0 (also (also w.0.same e.0.same) r.0.same)
