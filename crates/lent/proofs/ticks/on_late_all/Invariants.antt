-- `lent::ticks::on_late_all` meets its contract. The invariant of the walk: the late nodes that are
-- left give what all of them give, and nothing has joined.
-- Assumes nothing.
use Rattle.std.proofs.Common.{take, drop}
use Rattle.watched.specs.Watched.{watched_of}
use Rattle.heartbeats.proofs.LateWalk.{LateWalkIn}
use Rattle.lent.proofs.ticks.on_late_all.Given as goal

abbrev pub invariant-walk : goal.invariant-walk
invariant-walk l =
    LateWalkIn l.time (watched_of l.nodes l.number) l.initial.head l.head l.outcome (drop l.place (take l.number l.nodes))
