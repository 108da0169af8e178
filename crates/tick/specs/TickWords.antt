-- The words of the head after each part of the tick behind the heartbeats, and after the tick:
-- every word, as a function of what came in.
-- Assumes nothing.
use Rattle.std.specs.Prelude.{ℕ, ◌+◌, Bool, true, List, [], ◌∷◌, leb, ltb, set}
use Rattle.types.specs.Pick.{pick, both}
use Rattle.types.specs.declared.nmt.events.NmtEvent.TheVariants.{Timeout}
use Rattle.types.specs.declared.frame.cs_state_machine.DllCsEvent.{DllCsEvent}
use Rattle.types.specs.declared.frame.cs_state_machine.DllCsEvent.TheVariants.{SocTimeout}
use Rattle.types.specs.declared.frame.error.types.DllError.{DllError}
use Rattle.counters.specs.Counters.{effect, handled}
use Rattle.entries.specs.Queue.{pushed}
use Rattle.entries.specs.History.{joined}
use Rattle.head.specs.declared.state.Deadline.{Deadline}
use Rattle.head.specs.declared.state.Deadline.TheVariants.{At, Nothing}
use Rattle.watched.specs.declared.nodes.WatchedNode.{WatchedNode}
use Rattle.node.specs.Plain.{Plain}
use Rattle.node.specs.Steps.{cycle_of, limit_of}
use Rattle.node.specs.Phases.{one_more}
use Rattle.node.specs.Heartbeats.{checks_heartbeats, late_ones, on_late_all}
use Rattle.node.specs.DllErrors.{on_dll_event}
use Rattle.node.specs.Deadline.{last_soc, elapsed, next_deadline, at_not_active}
use Rattle.node.specs.Refines.{plain}
use Rattle.head.specs.Places as at
use Rattle.head.specs.Words.{word, nmt_of, errors_of, soc_of, od_of, queue_of, history_of, head_of}
use Rattle.head.specs.Written.{deadline_written, queue_written, history_written}
use Rattle.node.specs.InPlace.{dll_outcome_of, dll_event_words, effect_words}
use Rattle.phases.specs.PartWords.{signal_words, event_words, finished_words, ends_by}
use Rattle.heartbeats.specs.Words.{on_late_all_words}

-- the words with counter 2 one higher
abbrev pub count2 : List ℕ → List ℕ
count2 ws = set ws at.counter2 (one_more (word ws at.counter2))

-- the words after the entry of a crossing: it joins queue and history and counter 2 rises, or it is
-- dropped and counter 3 rises
unfoldable pub entry_words : List ℕ → List ℕ
entry_words ws =
    pick (pushed (queue_of ws)).kept
    (history_written (queue_written (count2 ws) (pushed (queue_of ws)).queue) (joined (history_of ws)))
    (set ws at.counter3 (one_more (word ws at.counter3)))

-- the words after an error of a DLL event was counted: its counter's, and counter 1
unfoldable pub counted_words : List ℕ → DllError → List ℕ
counted_words ws e = set (effect_words ws (effect e)) at.counter1 (one_more (word (effect_words ws (effect e)) at.counter1))

-- the words after one error of a DLL event
unfoldable pub on_dll_error_words : List ℕ → DllError → List ℕ
on_dll_error_words ws e =
    finished_words (ends_by ws e)
    (pick (handled (errors_of ws) e).signal (entry_words (signal_words (counted_words ws e))) (counted_words ws e))

-- the words after the errors of a DLL event in order: the first that brings an action is the last
unfoldable pub on_dll_errors_words : List ℕ → List DllError → List ℕ
on_dll_errors_words ws [] = ws
on_dll_errors_words ws (e ∷ es) = pick (ends_by ws e) (on_dll_error_words ws e) (on_dll_errors_words (on_dll_error_words ws e) es)

-- the words after a DLL event and its errors
unfoldable pub on_dll_event_words : List ℕ → DllCsEvent → List ℕ
on_dll_event_words ws e =
    on_dll_errors_words (dll_event_words ws e true) (dll_outcome_of ws e true).errors

-- the plain head that the words stand for, lent no memory: the deadlines read no entry of queue or
-- history
abbrev pub unlent : List ℕ → Plain
unlent ws = plain (head_of ws) [] []

-- the words after the deadline is set anew, or with cycle 0 after the check goes off
unfoldable pub rescheduled_words : List ℕ → ℕ → List ℕ
rescheduled_words ws t =
    pick (ltb 0 (cycle_of (od_of ws))) (deadline_written ws (At (next_deadline (unlent ws) t))) (set ws at.check 0)

-- the moment at which the limit ends: last SoC + limit, in µs
abbrev pub limit_at : List ℕ → ℕ
limit_at ws = last_soc (unlent ws) + limit_of (od_of ws)

-- the words after the SoC check where the SoC is not lost
unfoldable pub within_words : List ℕ → ℕ → List ℕ
within_words ws t =
    pick (both (ltb 0 (cycle_of (od_of ws))) (ltb t (limit_at ws))) (deadline_written ws (At (limit_at ws))) (rescheduled_words ws t)

-- the words behind the errors of a lost SoC: where none ended the tick, the deadline is set anew
abbrev pub after_loss_words : Bool → List ℕ → ℕ → List ℕ
after_loss_words ended ws t = pick ended ws (rescheduled_words ws t)

-- the words after a lost SoC: the DLL state, its errors, and where none ends the tick the next
-- deadline
unfoldable pub lost_words : List ℕ → List ℕ → List ℕ → ℕ → List ℕ
lost_words ws q m t =
    after_loss_words (on_dll_event t (plain (head_of ws) q m) SocTimeout).ended
    (on_dll_event_words ws SocTimeout) t

-- the words after the SoC check, where it is on; where it is off all stay
unfoldable pub check_words : List ℕ → List ℕ → List ℕ → ℕ → List ℕ
check_words ws q m t =
    pick (soc_of ws).soc_timeout_check_active
    (pick (ltb (limit_of (od_of ws)) (elapsed (unlent ws) t)) (lost_words ws q m t) (within_words ws t)) ws

-- the words after a tick at NotActive without a deadline: one is set at now + basic timeout, where
-- that timeout is above 0
unfoldable pub basic_words : List ℕ → ℕ → List ℕ
basic_words ws t = pick (ltb 0 (word ws at.timeout)) (deadline_written ws (At (t + word ws at.timeout))) ws

-- the words after a deadline has passed at NotActive: the event Timeout, where the basic timeout is
-- above 0
unfoldable pub timeout_words : List ℕ → List ℕ
timeout_words ws = pick (ltb 0 (word ws at.timeout)) (event_words ws Timeout) ws

-- the words after a deadline has passed: at NotActive the basic timeout, elsewhere the SoC check
unfoldable pub passed_words : List ℕ → List ℕ → List ℕ → ℕ → List ℕ
passed_words ws q m t = pick (at_not_active (unlent ws)) (timeout_words ws) (check_words ws q m t)

-- the words after what follows from the deadline that stands, or from none
unfoldable pub deadline_words : List ℕ → List ℕ → List ℕ → ℕ → Deadline → List ℕ
deadline_words ws q m t Nothing = pick (at_not_active (unlent ws)) (basic_words ws t) ws
deadline_words ws q m t (At d) = pick (leb d t) (passed_words (set ws at.due 0) q m t) ws

-- the words after what follows behind the heartbeats
abbrev pub rest_words : List ℕ → List ℕ → List ℕ → ℕ → List ℕ
rest_words ws q m t = deadline_words ws q m t (soc_of ws).next_tick_us

-- the words after the tick: the heartbeats of the nodes, where they are checked, and what follows
-- where no crossing ended it
unfoldable pub tick_words : List ℕ → List ℕ → List ℕ → ℕ → List WatchedNode → List ℕ
tick_words ws q m t vs =
    pick (checks_heartbeats (nmt_of ws).current_state)
    (pick (on_late_all (plain (head_of ws) q m) (late_ones t vs)).ended (on_late_all_words ws (late_ones t vs))
    (rest_words (on_late_all_words ws (late_ones t vs)) q m t))
    (rest_words ws q m t)
