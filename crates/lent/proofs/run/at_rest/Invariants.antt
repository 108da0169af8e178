-- `lent::run::at_rest`: what is left gives what the whole gives.
-- Assumes nothing.
use Rattle.std.proofs.Common.{◌≡◌, take, drop}
use Rattle.types.specs.Pick.{all_of}
use Rattle.watched.specs.Watched.{run, well_lent}
use Rattle.watched.specs.Nodes.{rising, rests, never, soonest}
use Rattle.lent.proofs.run.at_rest.Given as goal

abbrev pub invariant-loop-i : goal.invariant-loop-i
invariant-loop-i l =
    (well_lent (run l.nodes l.number) ≡ rising l.last (drop l.i (take l.number l.nodes)))
    × (all_of (rests l.time) (take l.number l.nodes) ≡ all_of (rests l.time) (drop l.i (take l.number l.nodes)))
    × (soonest never (take l.number l.nodes) ≡ soonest l.soonest (drop l.i (take l.number l.nodes)))
