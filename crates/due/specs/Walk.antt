-- What the walk over the watched nodes carries: for the contracts of private functions. No public
-- one cites it.
-- Assumes nothing.
use Rattle.std.specs.Prelude.{ℕ, true, List, [], ◌∷◌, length, take, eqb, leb, ltb}
use Rattle.std.specs.declared.option.Option.{Option}
use Rattle.std.specs.declared.option.Option.TheVariants.{Some, None}
use Rattle.std.specs.declared.result.Result.{Result}
use Rattle.std.specs.declared.result.Result.TheVariants.{Ok, Err}
use Rattle.types.specs.Pick.{pick, both}
use Rattle.types.specs.declared.refusals.Refusal.{Refusal}
use Rattle.types.specs.declared.refusals.Refusal.TheVariants.{WatchedNodes}
use Rattle.head.specs.Words.{nmt_of, soc_of}
use Rattle.watched.specs.declared.nodes.WatchedNode.{WatchedNode}
use Rattle.watched.specs.Watched.{fits, Run, watched_places}
use Rattle.watched.specs.Nodes.{never, moment_of, sooner_by}
use Rattle.node.specs.Steps.{smaller}
use Rattle.node.specs.Heartbeats.{checks_heartbeats}
use Rattle.node.specs.Due.{deadline_due, was_heard}
use Rattle.tick.specs.TickWords.{unlent}
use Rattle.due.specs.declared.moment.Walk.{Walk}

-- what the walk carries before the first node
abbrev pub start : Walk
start = record { last = 0; heard = true; soonest = never }

-- what the walk carries behind one more node, which is not tried
abbrev pub with_node : Walk → WatchedNode → Walk
with_node a w = record { last = w.node; heard = both a.heard (was_heard w); soonest = sooner_by a.soonest w }

-- what the walk carries behind one more node; none where its number is not above the last one's, or
-- it is outside its limits
abbrev pub over : Walk → WatchedNode → Option Walk
over a w = pick (both (ltb a.last w.node) (fits w)) (Some (with_node a w)) None

-- what the walk carries behind these nodes; none where one is not above the one before or is
-- outside its limits
unfoldable pub walked : Walk → List WatchedNode → Option Walk
walked a [] = Some a
walked a (w ∷ ws) = pick (both (ltb a.last w.node) (fits w)) (walked (with_node a w) ws) None

-- what the walk carries behind the watched nodes of a run; none where it is not well formed
abbrev pub walked_run : Run → Option Walk
walked_run r = pick (both (eqb (length r.places) watched_places) (leb r.number watched_places)) (walked start (take r.number r.places)) None

-- when the nodes need a tick: at once where one was not heard yet
abbrev pub walk_due : Walk → Option ℕ
walk_due a = pick a.heard (moment_of a.soonest) (Some 0)

-- when the next tick is due, on the words of a head
abbrev pub due_found : List ℕ → Option Walk → Result (Option ℕ) Refusal
due_found ws None = Err WatchedNodes
due_found ws (Some a) = Ok (smaller (deadline_due (unlent ws) (soc_of ws).next_tick_us) (pick (checks_heartbeats (nmt_of ws).current_state) (walk_due a) None))
