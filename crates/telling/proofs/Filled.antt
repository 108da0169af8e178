-- The places up to the last one that holds something, one place before the end.
-- Assumes nothing.
use Rattle.std.proofs.Common.{◌≡◌, true, false, List, [], ◌∷◌, ◌++◌, ap}
use Rattle.watched.specs.declared.nodes.WatchedNode.{WatchedNode}
use Rattle.telling.specs.Shows.{is_none, before_filled, filled}

pub none_behind : (ws : List WatchedNode) (w : WatchedNode) → is_none w ≡ true → filled (ws ++ (w ∷ [])) ≡ filled ws
unfolding filled
none_behind [] w h = rw h
none_behind (v ∷ vs) w h = ap (before_filled v) (none_behind vs w h)

pub some_behind : (ws : List WatchedNode) (w : WatchedNode) → is_none w ≡ false → filled (ws ++ (w ∷ [])) ≡ ws ++ (w ∷ [])
unfolding filled
some_behind [] w h = rw h
some_behind (v ∷ []) w h = ap (before_filled v) (some_behind [] w h)
some_behind (v ∷ u ∷ us) w h = ap (before_filled v) (some_behind (u ∷ us) w h)
