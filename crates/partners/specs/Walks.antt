-- What the two walks over the places leave, with how many of the places ahead are watched.
-- Assumes nothing.
use Rattle.std.specs.Prelude.{ℕ, zero, suc, ◌-◌, List, [], ◌∷◌, ltb, get_or}
use Rattle.types.specs.Pick.{pick}
use Rattle.watched.specs.declared.nodes.WatchedNode.{WatchedNode}
use Rattle.watched.specs.Watched.{no_node}

-- the place before the first node above n, past the last one where none is
abbrev pub place_before : ℕ → List WatchedNode → ℕ
place_before n [] = 0
place_before n (w ∷ ws) = pick (ltb n w.node) 0 (suc (place_before n ws))

-- The node v is carried along: it takes the place of the first node above it, which is carried on;
-- behind the watched nodes it takes the next place, and the places past that are cleared.
abbrev pub carried : ℕ → WatchedNode → List WatchedNode → List WatchedNode
carried k v [] = []
carried zero v (w ∷ ws) = v ∷ carried zero no_node ws
carried (suc k) v (w ∷ ws) = pick (ltb v.node w.node) (v ∷ carried k w ws) (w ∷ carried k v ws)

-- Each place takes the node behind it, where that is watched, and is cleared otherwise.
abbrev pub closed : ℕ → List WatchedNode → List WatchedNode
closed k [] = []
closed k (w ∷ ws) = pick (ltb 1 k) (get_or ws 0 no_node) no_node ∷ closed (k - 1) ws
