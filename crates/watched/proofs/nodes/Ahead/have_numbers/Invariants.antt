-- `watched::nodes::Ahead::have_numbers` meets its contract: from the last node back. The invariant: the nodes before the end give what all give.
-- Assumes nothing.
use Prim.Native.Nat.{◌-◌}
use mathlib.Core.Path.{◌≡◌}
use lib.ListN.{take}
use Rattle.types.specs.Pick.{all_of}
use Rattle.watched.specs.Nodes.{numbered}
use Rattle.watched.specs.Scan.{nodes_from}
use Rattle.watched.proofs.nodes.Ahead.have_numbers.Given as goal

abbrev pub invariant-loop-i : goal.invariant-loop-i
invariant-loop-i l =
    all_of numbered (nodes_from l.self.place l.self.count l.self.nodes.now) ≡
    all_of numbered (take (l.i - l.self.place) (nodes_from l.self.place l.self.count l.self.nodes.now))
