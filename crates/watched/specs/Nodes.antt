-- The watched nodes that words stand for, three words a node, and what a call finds out of them.
-- Any words stand for nodes; with a number that no node has the run is not well formed.
-- Assumes nothing.
use Rattle.std.specs.Prelude.{ℕ, ◌+◌, ◌*◌, ◌-◌, min, Bool, true, List, [], ◌∷◌, eqb, leb, ltb, get_or}
use Rattle.types.specs.Pick.{pick, both, all_of}
use Rattle.types.specs.Types.{is_node}
use Rattle.entries.specs.Ring.{listed}
use Rattle.watched.specs.declared.nodes.WatchedNode.{WatchedNode}
use Rattle.watched.specs.declared.record.NodeRecord.{NodeRecord}
use Rattle.watched.specs.Watched.{timed, fits, well_formed, watched_node, heard_at, place_of, watched_places}
use Rattle.std.specs.declared.option.Option.{Option}
use Rattle.std.specs.declared.option.Option.TheVariants.{Some, None}
use Rattle.watched.specs.declared.nodes.Seen.{Seen}
use Rattle.watched.specs.declared.nodes.Seen.TheVariants as seen

-- the node that a record of three words stands for
abbrev pub node_of : NodeRecord → WatchedNode
node_of r = watched_node r.node r.timeout r.last_heard

-- the node in the three words at place i: its number, its timeout and its last-heard time
abbrev pub node_at : List ℕ → ℕ → WatchedNode
node_at ns i = watched_node (get_or ns (3 * i) 0) (get_or ns (3 * i + 1) 0) (get_or ns (3 * i + 2) 0)

-- the nodes at the 32 places
unfoldable pub nodes_of : List ℕ → List WatchedNode
nodes_of ns = listed (node_at ns) watched_places

-- a node rests at t: it was heard, not after t where it has a timeout, and is not late. A tick
-- leaves it as it is
abbrev pub rests : ℕ → WatchedNode → Bool
rests t w =
    both (ltb 0 w.last_heard)
    (pick (eqb w.timeout 0) true (both (leb w.last_heard t) (leb (t - w.last_heard) w.timeout)))

-- t is not before the node was last heard, where its timeout and its last-heard time are above 0
-- (RULES 7.1)
abbrev pub not_before : ℕ → WatchedNode → Bool
not_before t w = pick (both (ltb 0 w.timeout) (ltb 0 w.last_heard)) (leb w.last_heard t) true

-- well formed node by node, behind the number n: each number above the one before, and each node
-- within its limits
abbrev pub rising : ℕ → List WatchedNode → Bool
rising n [] = true
rising n (w ∷ ws) = both (both (ltb n w.node) (fits w)) (rising w.node ws)

-- behind the number n: each number is above the one before, and all times are within their limits;
-- whether a number is a node's is not tried
abbrev pub well_ordered : ℕ → List WatchedNode → Bool
well_ordered n [] = true
well_ordered n (w ∷ ws) = both (both (ltb n w.node) (timed w)) (well_ordered w.node ws)

-- the number is a node's
abbrev pub numbered : WatchedNode → Bool
numbered w = is_node w.node

-- 2^64 − 1. The walks carry the earliest moment at which a node would be late as a number, where
-- this one, which is no node's moment, stands for none
abbrev pub never : ℕ
never = 18446744073709551615

-- the moment that such a number stands for, or none
abbrev pub moment_of : ℕ → Option ℕ
moment_of n = pick (eqb n never) None (Some n)

-- the smaller of s and the moment at which the node would be late, which is last heard + timeout +
-- 1 where both are above 0 (RULES 8.5)
abbrev pub sooner_by : ℕ → WatchedNode → ℕ
sooner_by s w = pick (both (ltb 0 w.timeout) (ltb 0 w.last_heard)) (min s (w.last_heard + w.timeout + 1)) s

-- the smaller of s and the moment of a node that rests at t; none for a node that does not rest
abbrev pub rest_until : ℕ → ℕ → WatchedNode → Option ℕ
rest_until t s w = pick (rests t w) (Some (sooner_by s w)) None

-- the smallest of s and the moments of some nodes
abbrev pub soonest : ℕ → List WatchedNode → ℕ
soonest s [] = s
soonest s (w ∷ ws) = soonest (sooner_by s w) ws

-- whether t is before no last-heard time of some nodes, where these are well formed behind the
-- number n
abbrev pub active_from : ℕ → ℕ → List WatchedNode → Option Bool
active_from n t ws = pick (rising n ws) (Some (all_of (not_before t) ws)) None

-- the soonest moment of well formed nodes; none where they are not well formed
abbrev pub nodes_tried : List WatchedNode → Option (Option ℕ)
nodes_tried vs = pick (well_formed vs) (Some (moment_of (soonest never vs))) None

-- where the node n is among well formed nodes, and their soonest moment with it heard at t
abbrev pub found_of : ℕ → ℕ → List WatchedNode → Option (ℕ × ℕ)
found_of n t vs = pick (well_formed vs) (Some (place_of n vs, soonest never (heard_at n t vs))) None

-- what a tick at t finds of well formed nodes: all rest, and their soonest moment; or one does not,
-- and whether t is before no last-heard time
abbrev pub seen_of : ℕ → List WatchedNode → Option Seen
seen_of t vs =
    pick (well_formed vs)
    (Some (pick (all_of (rests t) vs) (seen.Resting (moment_of (soonest never vs))) (seen.Active (all_of (not_before t) vs))))
    None
