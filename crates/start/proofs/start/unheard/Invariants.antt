-- `start::start::unheard` meets its contract. The invariant: the first i nodes are set, as words
-- and as nodes.
-- Assumes nothing.
use Prim.Native.Nat.{◌≤◌}
use mathlib.Core.Path.{◌≡◌}
use Rattle.watched.specs.Watched.{unheard_first}
use Rattle.watched.specs.Nodes.{nodes_of}
use Rattle.start.specs.Started.{unheard_words}
use Rattle.start.proofs.start.unheard.Given as goal

abbrev pub invariant-loop-i : goal.invariant-loop-i
invariant-loop-i l =
    (l.nodes ≡ unheard_words l.i l.initial.nodes)
    × (nodes_of l.nodes ≡ unheard_first l.i (nodes_of l.initial.nodes))
    × (l.count ≤ 32)
