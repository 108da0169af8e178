-- `due::run::walk`: what is left gives what the whole gives.
-- Assumes nothing.
use Rattle.std.proofs.Common.{◌≡◌, take, drop}
use Rattle.watched.specs.Watched.{run}
use Rattle.due.specs.Walk.{walked, walked_run}
use Rattle.due.proofs.run.walk.Given as goal

abbrev pub invariant-loop-w : goal.invariant-loop-w
invariant-loop-w l = walked_run (run l.nodes l.number) ≡ walked l.walk (drop l.w-index (take l.number l.nodes))
