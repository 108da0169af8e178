-- The watched nodes as a list (RULES 8): when a run is well formed, and what start, heard, add and
-- remove make of it. A run that is not well formed is refused by 3, WatchedNodes.
-- Assumes nothing.
use Rattle.std.specs.Prelude.{ℕ, suc, ◌-◌, Bool, true, List, [], ◌∷◌, ◌++◌, map, eqb, leb, ltb, length, get_or, take, drop, replicate}
use Rattle.types.specs.Pick.{pick, both, all_of, any_of}
use Rattle.types.specs.Types.{is_node}
use Rattle.entries.specs.Ring.{listed}
use Rattle.watched.specs.declared.nodes.WatchedNode.{WatchedNode}

-- the places of a run of watched nodes
abbrev pub watched_places : ℕ
watched_places = 32

-- the latest time that is taken, 2^62 − 1 µs
abbrev pub latest : ℕ
latest = 4611686018427387903

-- a time in µs is at most 2^62 − 1
abbrev pub in_time : ℕ → Bool
in_time t = leb t latest

-- each number is above the one before
abbrev pub ascending : List WatchedNode → Bool
ascending [] = true
ascending (v ∷ []) = true
ascending (v ∷ w ∷ ws) = both (ltb v.node w.node) (ascending (w ∷ ws))

-- a node's times are within their limits
abbrev pub timed : WatchedNode → Bool
timed w = both (in_time w.timeout) (in_time w.last_heard)

-- a node's number is one, and its times are within their limits
abbrev pub fits : WatchedNode → Bool
fits w = both (is_node w.node) (timed w)

-- the watched nodes are well formed (RULES 8.2): at most 32, ascending, each within its limits
unfoldable pub well_formed : List WatchedNode → Bool
well_formed ws = both (leb (length ws) watched_places) (both (ascending ws) (all_of fits ws))

-- a node by its number, its timeout and the time it was last heard, both in µs
abbrev pub watched_node : ℕ → ℕ → ℕ → WatchedNode
watched_node n t h = record { node = n; timeout = t; last_heard = h }

-- the node with its last-heard time set to the time t
abbrev pub heard_now : ℕ → WatchedNode → WatchedNode
heard_now t w = watched_node w.node w.timeout t

-- one of the nodes has the number n
abbrev pub is_watched : ℕ → List WatchedNode → Bool
is_watched n ws = any_of (λ (w : WatchedNode). eqb w.node n) ws

-- the nodes with that of number n heard at t
abbrev pub heard_at : ℕ → ℕ → List WatchedNode → List WatchedNode
heard_at n t [] = []
heard_at n t (w ∷ ws) = pick (eqb w.node n) (heard_now t w ∷ ws) (w ∷ heard_at n t ws)

-- the place of a node; where it is not watched, the number of nodes
abbrev pub place_of : ℕ → List WatchedNode → ℕ
place_of n [] = 0
place_of n (w ∷ ws) = pick (eqb w.node n) 0 (suc (place_of n ws))

-- the nodes as start leaves them: never heard
abbrev pub unheard : List WatchedNode → List WatchedNode
unheard ws = map (heard_now 0) ws

-- a node of zeros, which is read past the end of an array of nodes
abbrev pub no_node : WatchedNode
no_node = watched_node 0 0 0

-- the first k nodes of an array; past its end `no_node` is read
abbrev pub watched_of : List WatchedNode → ℕ → List WatchedNode
watched_of ns k = listed (λ i. get_or ns i no_node) k

-- a run: its places, of which there are to be 32, and the number of those that are watched
pub record Run : Type 0 where
  pub places : List WatchedNode
  pub number : ℕ

-- the run of these places, of which the first k are watched
abbrev pub run : List WatchedNode → ℕ → Run
run ns k = record { places = ns; number = k }

-- the watched nodes of a run: the first ones, as many as the number says
abbrev pub watching : Run → List WatchedNode
watching r = watched_of r.places r.number

-- a run is well formed: it has 32 places, and its watched nodes are well formed. The places past
-- the number may hold anything
abbrev pub well_lent : Run → Bool
well_lent r = both (eqb (length r.places) watched_places) (well_formed (watching r))

-- a change of the first k nodes alone; the places behind stay
abbrev pub first : (List WatchedNode → List WatchedNode) → ℕ → List WatchedNode → List WatchedNode
first f k ns = f (take k ns) ++ drop k ns

-- the first k nodes with that of number n heard at t; the places behind stay
abbrev pub heard_first : ℕ → ℕ → ℕ → List WatchedNode → List WatchedNode
heard_first n t = first (heard_at n t)

-- the first k nodes as start leaves them, never heard; the places behind stay
abbrev pub unheard_first : ℕ → List WatchedNode → List WatchedNode
unheard_first = first unheard

-- a change of the watched nodes of a run; its number stays
abbrev pub changing : (List WatchedNode → List WatchedNode) → Run → Run
changing f r = run (first f r.number r.places) r.number

-- a node put in its place among ascending ones
abbrev pub inserted : WatchedNode → List WatchedNode → List WatchedNode
inserted v [] = v ∷ []
inserted v (w ∷ ws) = pick (ltb v.node w.node) (v ∷ w ∷ ws) (w ∷ inserted v ws)

-- the nodes without that of the number n
abbrev pub without : ℕ → List WatchedNode → List WatchedNode
without n [] = []
without n (w ∷ ws) = pick (eqb w.node n) ws (w ∷ without n ws)

-- the run that watches these nodes, with zeros in the places past them, as an add or a removal
-- leaves it
abbrev pub holding : List WatchedNode → Run
holding ws = run (ws ++ replicate (watched_places - length ws) no_node) (length ws)
