-- `due::words::walk`: what is left gives what the whole gives.
-- Assumes nothing.
use mathlib.Core.Path.{◌≡◌}
use Rattle.watched.specs.Watched.{run}
use Rattle.watched.specs.Nodes.{nodes_of}
use Rattle.watched.specs.Scan.{nodes_from}
use Rattle.due.specs.Walk.{walked, walked_run}
use Rattle.due.proofs.words.walk.Given as goal

abbrev pub invariant-loop-i : goal.invariant-loop-i
invariant-loop-i l = walked_run (run (nodes_of l.nodes) l.count) ≡ walked l.walk (nodes_from l.i l.count l.nodes)
