-- `weigh::WeighHead::play` meets its contract: the actions that were taken are the first ones.
-- Assumes nothing.
use Rattle.std.proofs.Common.{take, ◌≡◌}
use Rattle.watched.specs.Watched.{run}
use Rattle.weigh.specs.WeighHeld.{held}
use Rattle.weigh.specs.WeighPlayed.{PlayedInto}
use Rattle.weigh.proofs.WeighHead.play.Given as goal

abbrev pub invariant-loop-i : goal.invariant-loop-i
invariant-loop-i g l =
    (g.N.Nodes.name l.nodes ≡ g.N.Nodes.name l.fn.nodes) ×
    PlayedInto
    (held l.fn.self l.fn.queue l.fn.history (run (g.N.Nodes.places l.fn.nodes) l.fn.number))
    (take l.i l.actions) l.fn.out
    (held l.self l.queue l.history (run (g.N.Nodes.places l.nodes) l.number)) l.out
