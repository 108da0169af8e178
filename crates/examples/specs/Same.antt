-- When a test is exact, and when a place of the watched nodes holds zeros.
-- Assumes nothing.
use Rattle.std.specs.Prelude.{◌≡◌, Bool, true, ◌&&◌, eqb}
use Rattle.watched.specs.declared.nodes.WatchedNode.{WatchedNode}

-- r is true exactly where P holds
pub record Exactly (r : Bool) (P : Type 0) : Type 0 where
  pub says : r ≡ true → P
  pub holds : P → r ≡ true

-- a place holds zeros
abbrev pub blank : WatchedNode → Bool
blank w = eqb w.node 0 && (eqb w.timeout 0 && eqb w.last_heard 0)
