-- What the walk over the nodes carries (`scan`), for the contracts of private functions; no public
-- contract uses it.
-- Assumes nothing.
use Rattle.std.specs.Prelude.{ℕ, ◌+◌, ◌-◌, min, List, [], ◌∷◌, eqb, leb, take, drop}
use Rattle.std.specs.Int.Bits.{bit_or}
use Rattle.types.specs.Pick.{pick}
use Rattle.watched.specs.declared.nodes.WatchedNode.{WatchedNode}
use Rattle.watched.specs.declared.nodes.Scanned.{Scanned}
use Rattle.std.specs.declared.option.Option.{Option}
use Rattle.std.specs.declared.option.Option.TheVariants.{Some, None}
use Rattle.watched.specs.Watched.{heard_now}
use Rattle.watched.specs.Nodes.{nodes_of, well_ordered, never, soonest}

-- the watched nodes in words from the place p on
abbrev pub nodes_from : ℕ → ℕ → List ℕ → List WatchedNode
nodes_from p k ns = drop p (take k (nodes_of ns))

-- one less, and `never` for 0
abbrev pub one_less : ℕ → ℕ
one_less x = pick (eqb x 0) never (x - 1)

-- a sum that stops at `never`
abbrev pub sum_of : ℕ → ℕ → ℕ
sum_of a b = min never (a + b)

-- three before last heard + timeout + 1, or `never` where one of them is 0
abbrev pub three_before : WatchedNode → ℕ
three_before w = sum_of (one_less w.timeout) (one_less w.last_heard)

-- what the walk knows: its place, the last number before it, the bits of all times, the soonest
-- moment
abbrev pub scanned : ℕ → ℕ → ℕ → ℕ → Scanned
scanned p n t s = record { place = p; last = n; times = t; soonest = s }

-- what the walk knows behind one more node
abbrev pub over : Scanned → WatchedNode → Scanned
over c w = scanned (c.place + 1) w.node (bit_or (bit_or c.times w.timeout) w.last_heard) (min c.soonest (three_before w))

-- the walk over nodes as long as each number is above the one before, up to the node of number m
abbrev pub scan_of : ℕ → Scanned → List WatchedNode → Scanned
scan_of m c [] = c
scan_of m c (w ∷ ws) = pick (leb w.node c.last) c (pick (eqb w.node m) c (scan_of m (over c w) ws))

-- the soonest moment of nodes that are in order behind the number n, where s is the soonest so far;
-- none where they are not in order
abbrev pub scanned_of : ℕ → ℕ → List WatchedNode → Option ℕ
scanned_of n s ws = pick (well_ordered n ws) (Some (soonest s ws)) None

-- the nodes with the first of them heard at t
abbrev pub first_heard : ℕ → List WatchedNode → List WatchedNode
first_heard t [] = []
first_heard t (w ∷ ws) = heard_now t w ∷ ws

-- the soonest moment of nodes that are in order behind the number n, with the first of them heard
-- at t; none where they are not in order
abbrev pub heard_scanned : ℕ → ℕ → ℕ → List WatchedNode → Option ℕ
heard_scanned n s t ws = pick (well_ordered n ws) (Some (soonest s (first_heard t ws))) None
