-- The tick of the plain head (RULES 7): its tests, its parts in order, and its answer.
-- Assumes nothing.
use Rattle.std.specs.Prelude.{ℕ, true, List, [], ◌∷◌}
use Rattle.types.specs.Pick.{pick, all_of}
use Rattle.watched.specs.declared.nodes.WatchedNode.{WatchedNode}
use Rattle.watched.specs.Watched.{in_time, Run, watching, well_lent}
use Rattle.watched.specs.Nodes.{not_before}
use Rattle.node.specs.Plain.{Plain, tick_answer, Step}
use Rattle.node.specs.Steps.{Test, must, tried, declines, up_to_date}
use Rattle.node.specs.Phases.{Ticked, behind}
use Rattle.node.specs.Heartbeats.{checks_heartbeats, heartbeats, refreshed_at}
use Rattle.node.specs.Deadline.{by_deadline}

-- the tests of a tick: WatchedNodes, TimeLimit, and BeforeHeard where heartbeats are checked
abbrev pub tick_tests : Plain → ℕ → Run → List (Test ℕ)
tick_tests p t r =
    must (well_lent r) 3 ∷
    must (in_time t) 5 ∷
    must (pick (checks_heartbeats p.nmt.current_state) (all_of (not_before t) (watching r)) true) 6 ∷
    []

-- the tick: the heartbeats, and what follows where no crossing ended it
unfoldable pub tick_taken : Plain → ℕ → List WatchedNode → Ticked
tick_taken p t ws =
    let b = heartbeats p t ws in
    pick b.ended b (behind b (by_deadline b.head t b.head.soc.next_tick_us))

-- what a tick leaves that came to k, with the run r: however it ended, the earliest moment is
-- worked out from that run
abbrev pub tick_answered : Ticked → Run → Step
tick_answered k r =
    record {
      head = up_to_date k.head r;
      answer = tick_answer k.logged;
      lent = r;
      event = k.event;
      marks = k.marks;
      checked = k.checked;
      crossings = k.crossings;
    }

-- the tick at t (RULES 7): refused by the first test that does not hold, else its parts in order
abbrev pub tick_step : Plain → ℕ → Run → Step
tick_step p t r =
    tried (tick_tests p t r) (declines p r) (tick_answered (tick_taken p t (watching r)) (refreshed_at p t r))
