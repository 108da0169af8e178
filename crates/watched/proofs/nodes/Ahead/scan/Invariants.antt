-- `watched::nodes::Ahead::scan` meets its contract. The invariant: what is left gives what the whole gives, and the walk is at its place.
-- Assumes nothing.
use mathlib.Core.Path.{◌≡◌}
use Rattle.watched.specs.Nodes.{never}
use Rattle.watched.specs.Scan.{scanned, scan_of, nodes_from}
use Rattle.watched.proofs.nodes.Ahead.scan.Given as goal

abbrev pub invariant-loop-i : goal.invariant-loop-i
invariant-loop-i l =
    (scan_of l.sought (scanned l.self.place l.self.last 0 never) (nodes_from l.self.place l.self.count l.self.nodes.now) ≡
    scan_of l.sought l.scanned (nodes_from l.i l.self.count l.self.nodes.now))
    × (l.scanned.place ≡ l.i)
