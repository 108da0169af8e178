-- `heartbeats::heartbeats::refresh_all` meets its contract. The invariant: the first i nodes are
-- looked at, as words and as nodes, and three behind the number carried is the soonest moment of
-- theirs.
-- Assumes nothing.
use Rattle.std.proofs.Common.{◌≡◌, ◌≤◌, map, take, drop}
use Rattle.watched.specs.Watched.{watched_of}
use Rattle.watched.specs.Scan.{sum_of}
use Rattle.watched.specs.Nodes.{nodes_of, never, soonest}
use Rattle.node.specs.Heartbeats.{refreshed}
use Rattle.heartbeats.specs.Words.{refreshed_first, refreshed_words}
use Rattle.heartbeats.proofs.heartbeats.refresh_all.Given as goal

abbrev pub invariant-loop-i : goal.invariant-loop-i
invariant-loop-i l =
    (l.nodes ≡ refreshed_words l.time l.i l.initial.nodes)
    × (nodes_of l.nodes ≡ refreshed_first l.time l.i (nodes_of l.initial.nodes))
    × (soonest never (map (refreshed l.time) (watched_of (nodes_of l.initial.nodes) l.count)) ≡ soonest (sum_of l.early 3) (map (refreshed l.time) (drop l.i (take l.count (nodes_of l.initial.nodes)))))
    × (l.count ≤ 32)
