-- `lent::run::refresh`: the places before this one are set, those behind it are as they were, and
-- three behind the number carried is the soonest moment of those that are set.
-- Assumes nothing.
use Rattle.std.proofs.Common.{◌≡◌, take, drop, map, ◌++◌}
use Rattle.watched.specs.Nodes.{never, soonest}
use Rattle.watched.specs.Scan.{sum_of}
use Rattle.node.specs.Heartbeats.{refreshed}
use Rattle.lent.proofs.run.refresh.Given as goal

abbrev pub invariant-loop-w : goal.invariant-loop-w
invariant-loop-w l =
    (take l.w-index l.w-items ++ map (refreshed l.time) (drop l.w-index l.w-items) ≡ map (refreshed l.fn.time) (take l.number l.fn.nodes))
    × (soonest never (map (refreshed l.fn.time) (take l.number l.fn.nodes)) ≡ soonest (sum_of l.early 3) (map (refreshed l.time) (drop l.w-index l.w-items)))
