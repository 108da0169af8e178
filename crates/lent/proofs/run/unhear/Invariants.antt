-- The places before this one are set, those behind it are as they were.
use Rattle.std.proofs.Common.{◌≡◌, take, drop, map, ◌++◌}
use Rattle.watched.specs.Watched.{heard_now}
use Rattle.lent.proofs.run.unhear.Given as goal

abbrev pub invariant-loop-w : goal.invariant-loop-w
invariant-loop-w l =
    take l.w-index l.w-items ++ map (heard_now 0) (drop l.w-index l.w-items) ≡ map (heard_now 0) (take l.watched l.fn.nodes)
