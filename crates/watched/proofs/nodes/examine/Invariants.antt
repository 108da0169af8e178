-- `watched::nodes::examine` meets its contract: node by node up to one that does not rest. The invariant: what is left gives what the whole gives.
-- Assumes nothing.
use mathlib.Core.Path.{◌≡◌}
use Rattle.types.specs.Pick.{all_of}
use Rattle.watched.specs.Watched.{well_formed, watched_of}
use Rattle.watched.specs.Nodes.{nodes_of, not_before, rests, rising, never, soonest}
use Rattle.watched.specs.Scan.{nodes_from}
use Rattle.watched.proofs.nodes.examine.Given as goal

abbrev pub invariant-loop-i : goal.invariant-loop-i
invariant-loop-i l =
    (well_formed (watched_of (nodes_of l.nodes) l.count) ≡ rising l.last (nodes_from l.i l.count l.nodes))
    × (all_of (rests l.time) (watched_of (nodes_of l.nodes) l.count) ≡ all_of (rests l.time) (nodes_from l.i l.count l.nodes))
    × (soonest never (watched_of (nodes_of l.nodes) l.count) ≡ soonest l.soonest (nodes_from l.i l.count l.nodes))
    × (all_of (not_before l.time) (watched_of (nodes_of l.nodes) l.count) ≡ all_of (not_before l.time) (nodes_from l.i l.count l.nodes))
