-- `lent::run::find`: what is left gives what the whole gives.
-- Assumes nothing.
use Rattle.std.proofs.Common.{◌≡◌, ◌≤◌, take, drop, map}
use Rattle.types.specs.Pick.{both, all_of}
use Rattle.watched.specs.Watched.{in_time}
use Rattle.watched.specs.Nodes.{well_ordered, numbered, never, soonest}
use Rattle.watched.specs.Scan.{sum_of}
use Rattle.lent.specs.Runs.{heard_if}
use Rattle.lent.proofs.run.find.Given as goal

abbrev pub invariant-loop-i : goal.invariant-loop-i
invariant-loop-i l =
    (well_ordered 0 (take l.number l.nodes) ≡ both (in_time l.times) (well_ordered l.last (drop l.i (take l.number l.nodes))))
    × (soonest never (map (heard_if l.node l.time) (take l.number l.nodes)) ≡ soonest (sum_of l.early 3) (map (heard_if l.node l.time) (drop l.i (take l.number l.nodes))))
    × (l.last ≤ 240 → all_of numbered (take l.number l.nodes) ≡ all_of numbered (drop l.i (take l.number l.nodes)))
