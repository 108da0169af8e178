-- `examples::events::one_between` meets its contract: by the table.
-- Assumes nothing.
use mathlib.Core.Path.{refl, ap}
use Rattle.counters.specs.Counters.{incremented}
use Rattle.counters.specs.declared.counters.CnErrorCounters.{CnErrorCounters}
use Rattle.node.specs.Examples.{one_between}
use Rattle.examples.proofs.Showing.{holds, begin, next, counters_are, also, shown}
use Rattle.examples.proofs.events.one_between.Goals as goal

pub returns : goal.returns
returns c =
    λ q m.
    let f = next (begin one_between _ c.counting.ensures (holds 5) q m) (c.error_comes-lost.ensures q m) refl refl c.counting-2.ensures in
    let d = next f.1 (c.cycle_comes-lowered.ensures q m) refl refl c.counting-3.ensures in
    let u = c.raises_to.ensures.holds (ap (λ (e : CnErrorCounters). (incremented e.counters.loss_of_soc).threshold_cnt) (counters_are _ q m _ d.1.whole)) in
    let s = next d.1 (c.error_comes.ensures q m) refl refl c.counting-4.ensures in
    shown refl s.0 (also (also (also f.0.same d.0.same) u) s.0.same)
