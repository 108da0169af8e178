-- `examples::ticks::late` meets its contract: by the table.
-- Assumes nothing.
use mathlib.Core.Path.{refl, ap}
use Rattle.node.specs.Plain.{Call}
use Rattle.node.specs.Examples.{late}
use Rattle.examples.proofs.Showing.{holds, begin, next, at_call, also, shown}
use Rattle.examples.proofs.ticks.late.Goals as goal

pub returns : goal.returns
returns c =
    let h = next (begin late _ c.counting.ensures (holds 11) _ _) (at_call (ap (Call.heard 5 100) c.watching.ensures) (c.heard_comes.ensures _ _)) refl refl c.awaiting.ensures in
    let t = next h.1 (at_call (ap (Call.tick 150) h.0.lent) c.tick_comes-in_time.ensures) refl refl c.awaiting.ensures in
    let l = next t.1 (at_call (ap (Call.tick 151) t.0.lent) c.tick_comes-late.ensures) refl refl c.awaiting-2.ensures in
    shown refl l.0 (also (also (also (also (also h.0.same ((rw c.node_five.ensures at c.is_watching.ensures).holds h.0.lent)) t.0.same) ((rw c.node_five-2.ensures at c.is_watching-kept.ensures).holds t.0.lent)) l.0.same) ((rw c.node_five-3.ensures at c.is_watching-2.ensures).holds l.0.lent))
