-- What the walks over a run that is lent as records answer.
-- Assumes nothing.
use Rattle.std.specs.Prelude.{ℕ, Bool, eqb}
use Rattle.std.specs.declared.option.Option.{Option}
use Rattle.std.specs.declared.option.Option.TheVariants.{Some, None}
use Rattle.types.specs.Pick.{pick, both, all_of}
use Rattle.watched.specs.declared.nodes.WatchedNode.{WatchedNode}
use Rattle.watched.specs.Watched.{heard_now, heard_at, place_of, Run, watching, well_lent}
use Rattle.watched.specs.Nodes.{not_before, never, soonest, rests}
use Rattle.tick.specs.TickIn.{is_still}

-- a node with the one of number n heard at t
abbrev pub heard_if : ℕ → ℕ → WatchedNode → WatchedNode
heard_if n t w = pick (eqb w.node n) (heard_now t w) w

-- where the node n is among the watched nodes of a run, and their soonest moment with it heard at
-- t; none where the run is not well formed
abbrev pub found_in : ℕ → ℕ → Run → Option (ℕ × ℕ)
found_in n t r = pick (well_lent r) (Some (place_of n (watching r), soonest never (heard_at n t (watching r)))) None

-- the soonest moment of a well formed run of which each node rests at t; otherwise none
abbrev pub rest_in : ℕ → Run → Option ℕ
rest_in t r = pick (both (well_lent r) (all_of (rests t) (watching r))) (Some (soonest never (watching r))) None

-- the soonest moment of a well formed run of which no node asks a tick at t for anything, where c
-- says whether heartbeats are checked; otherwise none
abbrev pub still_in : Bool → ℕ → Run → Option ℕ
still_in c t r = pick (both (well_lent r) (is_still c t (watching r))) (Some (soonest never (watching r))) None

-- whether t is before no last-heard time of a well formed run; none where it is not well formed
abbrev pub active_in : ℕ → Run → Option Bool
active_in t r = pick (well_lent r) (Some (all_of (not_before t) (watching r))) None
