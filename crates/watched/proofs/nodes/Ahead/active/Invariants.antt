-- `watched::nodes::Ahead::active` meets its contract: node by node, then the numbers. The invariant: what is left gives what the whole gives.
-- Assumes nothing.
use mathlib.Core.Path.{◌≡◌}
use Rattle.types.specs.Pick.{both, all_of}
use Rattle.watched.specs.Nodes.{not_before, well_ordered}
use Rattle.watched.specs.Scan.{nodes_from}
use Rattle.watched.proofs.nodes.Ahead.active.Given as goal

abbrev pub invariant-loop-i : goal.invariant-loop-i
invariant-loop-i l =
    (well_ordered l.self.last (nodes_from l.self.place l.self.count l.self.nodes.now) ≡ well_ordered l.above (nodes_from l.i l.self.count l.self.nodes.now))
    × (all_of (not_before l.time) (nodes_from l.self.place l.self.count l.self.nodes.now) ≡ both l.heard (all_of (not_before l.time) (nodes_from l.i l.self.count l.self.nodes.now)))
