-- The heartbeats of a tick (RULES 7.2 to 7.4): which nodes are late, what their errors bring, and
-- their last-heard times afterwards.
-- Assumes nothing.
use Rattle.std.specs.Prelude.{ℕ, ◌-◌, Bool, List, [], ◌∷◌, map, eqb, leb, ltb}
use Rattle.types.specs.Pick.{pick, both, either}
use Rattle.types.specs.Types.{node}
use Rattle.types.specs.States.{state_number}
use Rattle.types.specs.declared.nmt.states.NmtState.{NmtState}
use Rattle.types.specs.declared.frame.error.types.DllError.{DllError}
use Rattle.types.specs.declared.frame.error.types.DllError.TheVariants.{HeartbeatTimeout}
use Rattle.counters.specs.Counters.{handled, HandledError}
use Rattle.counters.specs.Marks.{Mark, error_marks}
use Rattle.watched.specs.declared.nodes.WatchedNode.{WatchedNode}
use Rattle.watched.specs.Watched.{heard_now, Run, changing}
use Rattle.node.specs.Plain.{Plain}
use Rattle.node.specs.Steps.{with_errors}
use Rattle.node.specs.Phases.{Ticked, goes_on, behind, signalled, on_handled}

-- heartbeats are checked where the state's number is 0x5D or more, so not in CsStopped (0x4D)
abbrev pub checks_heartbeats : NmtState → Bool
checks_heartbeats s = leb 0x5D (state_number s)

-- a node is late where more than its timeout has passed since it was heard; never where it was not
-- heard yet or its timeout is 0
abbrev pub is_late : ℕ → WatchedNode → Bool
is_late t w =
    both (ltb 0 w.last_heard) (both (ltb 0 w.timeout) (ltb w.timeout (t - w.last_heard)))

-- the check of a node: its last-heard time becomes now where it was never heard or is late
abbrev pub refreshed : ℕ → WatchedNode → WatchedNode
refreshed t w = pick (either (eqb w.last_heard 0) (is_late t w)) (heard_now t w) w

-- the late nodes, in order
abbrev pub late_ones : ℕ → List WatchedNode → List WatchedNode
late_ones t [] = []
late_ones t (w ∷ ws) = pick (is_late t w) (w ∷ late_ones t ws) (late_ones t ws)

-- the error of a late node, with its marks ms and what the counters answer: neither counter 1 nor
-- an entry follows from it
abbrev pub on_late_by : Plain → List Mark → HandledError → Ticked
on_late_by p ms r =
    on_handled r ms [] [] (pick r.signal (signalled (with_errors p r.counters)) (with_errors p r.counters))

-- the error that a late node brings
abbrev pub timeout_of : WatchedNode → DllError
timeout_of w = HeartbeatTimeout (node w.node)

-- the error of a late node, given to the counters
unfoldable pub on_late : Plain → WatchedNode → Ticked
on_late p w = on_late_by p (error_marks p.errors (timeout_of w)) (handled p.errors (timeout_of w))

-- the errors of late nodes in order: the first that brings an action ends the walk, and the tick
unfoldable pub on_late_all : Plain → List WatchedNode → Ticked
on_late_all p [] = goes_on p
on_late_all p (w ∷ ws) = pick (on_late p w).ended (on_late p w) (behind (on_late p w) (on_late_all (on_late p w).head ws))

-- the heartbeats of a tick: what comes of the late nodes. All nodes are looked at before any error
-- is counted.
abbrev pub heartbeats : Plain → ℕ → List WatchedNode → Ticked
heartbeats p t ws = pick (checks_heartbeats p.nmt.current_state) (on_late_all p (late_ones t ws)) (goes_on p)

-- the run behind the check of heartbeats: where they are checked, a node that is late or was never
-- heard has now as its last-heard time
abbrev pub refreshed_at : Plain → ℕ → Run → Run
refreshed_at p t r = pick (checks_heartbeats p.nmt.current_state) (changing (map (refreshed t)) r) r
