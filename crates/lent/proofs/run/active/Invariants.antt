-- `lent::run::active`: what is left gives what the whole gives.
-- Assumes nothing.
use Rattle.std.proofs.Common.{◌≡◌, take, drop}
use Rattle.types.specs.Pick.{both, all_of}
use Rattle.watched.specs.Watched.{run, well_lent}
use Rattle.watched.specs.Nodes.{rising, not_before}
use Rattle.lent.proofs.run.active.Given as goal

abbrev pub invariant-loop-i : goal.invariant-loop-i
invariant-loop-i l =
    (well_lent (run l.nodes l.number) ≡ rising l.last (drop l.i (take l.number l.nodes)))
    × (all_of (not_before l.time) (take l.number l.nodes) ≡ both l.heard (all_of (not_before l.time) (drop l.i (take l.number l.nodes))))
