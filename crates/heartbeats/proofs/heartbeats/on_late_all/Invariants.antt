-- `heartbeats::heartbeats::on_late_all` meets its contract. The invariant of the walk: the late nodes
-- that are left give what all of them give, and nothing has joined.
-- Assumes nothing.
use Rattle.std.proofs.Common.{take, drop}
use Rattle.watched.specs.Watched.{watched_of}
use Rattle.watched.specs.Nodes.{nodes_of}
use Rattle.heartbeats.proofs.LateWalk.{LateWalkIn}
use Rattle.heartbeats.proofs.heartbeats.on_late_all.Given as goal

abbrev pub invariant-walk : goal.invariant-walk
invariant-walk l =
    LateWalkIn l.time (watched_of (nodes_of l.formed.nodes.now) l.formed.count) l.initial.head l.head l.outcome (drop l.place (take l.formed.count (nodes_of l.formed.nodes.now)))
