-- The moment of the next tick: a tick that is taken before it finds nothing to do (crate `due`
-- shows that of the real calls).
-- Assumes nothing.
use Rattle.std.specs.Prelude.{ℕ, ◌<◌, Bool, not, List, [], ◌∷◌, eqb, ltb}
use Rattle.std.specs.declared.option.Option.{Option}
use Rattle.std.specs.declared.option.Option.TheVariants.{Some, None}
use Rattle.types.specs.Pick.{pick, both, all_of}
use Rattle.head.specs.declared.state.Deadline.{Deadline}
use Rattle.head.specs.declared.state.Deadline.TheVariants.{At, Nothing}
use Rattle.watched.specs.declared.nodes.WatchedNode.{WatchedNode}
use Rattle.watched.specs.Watched.{Run, watching, well_lent}
use Rattle.node.specs.Plain.{Plain, due_answer, Step}
use Rattle.node.specs.Steps.{Test, must, tried, answers, declines, smaller, earliest}
use Rattle.node.specs.Heartbeats.{checks_heartbeats}
use Rattle.node.specs.Deadline.{at_not_active, basic_timeout}

-- when a tick is due by the head alone: at its deadline, where one stands. Without one a tick at
-- NotActive sets it, if the basic timeout is above 0: at once.
abbrev pub deadline_due : Plain → Deadline → Option ℕ
deadline_due p (At d) = Some d
deadline_due p Nothing = pick (both (at_not_active p) (ltb 0 (basic_timeout p))) (Some 0) None

-- the node was heard: its last-heard time is above 0
abbrev pub was_heard : WatchedNode → Bool
was_heard w = not (eqb w.last_heard 0)

-- when a tick is due by the watched nodes: the earliest moment at which one would be late. One that
-- was not heard yet is set to be heard: at once.
abbrev pub nodes_due : List WatchedNode → Option ℕ
nodes_due ws = pick (all_of was_heard ws) (earliest ws) (Some 0)

-- when the next tick is due (RULES 7.13), in µs, or none: the sooner of both, the nodes only where
-- heartbeats are checked
unfoldable pub due : Plain → List WatchedNode → Option ℕ
due p ws = smaller (deadline_due p p.soc.next_tick_us) (pick (checks_heartbeats p.nmt.current_state) (nodes_due ws) None)

-- the test of next due: WatchedNodes
abbrev pub due_tests : Run → List (Test ℕ)
due_tests r = must (well_lent r) 3 ∷ []

-- next due: the moment of the next tick is the answer; head and run stay
abbrev pub due_step : Plain → Run → Step
due_step p r = tried (due_tests r) (declines p r) (answers p (due_answer (due p (watching r))) r)

-- a time before a moment; before none is any time
abbrev pub IsBefore : ℕ → Option ℕ → Type 0
IsBefore t (Some d) = t < d
IsBefore t None = Unit {0}
