-- `calling::play::play` meets its contract: the actions that were taken are the first ones.
-- Assumes nothing.
use Rattle.std.proofs.Common.{take, ◌≡◌}
use Rattle.watched.specs.Watched.{run}
use Rattle.calling.specs.Held.{held}
use Rattle.calling.specs.Played.{PlayedInto}
use Rattle.calling.proofs.play.play.Given as goal

abbrev pub invariant-loop-i : goal.invariant-loop-i
invariant-loop-i g l =
    (g.N.Nodes.name l.nodes ≡ g.N.Nodes.name l.fn.nodes) ×
    PlayedInto
    (held l.fn.head l.fn.queue l.fn.history (run (g.N.Nodes.places l.fn.nodes) l.fn.number))
    (take l.i l.actions) l.fn.out
    (held l.head l.queue l.history (run (g.N.Nodes.places l.nodes) l.number)) l.out
