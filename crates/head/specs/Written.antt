-- The words after a part of the head is written: each gives every word, and all that it does not
-- name stay as they were.
-- Assumes nothing.
use Rattle.std.specs.Prelude.{ℕ, ◌≡◌, ◌+◌, ◌/◌, ◌%◌, List, slice_set}
use Rattle.std.specs.Fn.{Once}
use denote.Ref.{MutBor}
use Rattle.types.specs.States.{state_number}
use Rattle.nmt.specs.declared.cn_state_machine.CnNmtStateMachine.{CnNmtStateMachine}
use Rattle.dll.specs.Dll.{cs_state_number}
use Rattle.dll.specs.declared.cs_state_machine.DllCsState.TheVariants.{NonCyclic}
use Rattle.counters.specs.Counters.{counter}
use Rattle.counters.specs.declared.counters.CounterKind.{CounterKind}
use Rattle.counters.specs.declared.counters.CounterKind.TheVariants.{Collision, LossOfSoc, LossOfSoa, LossOfPreq, SoCJitter, Crc, HeartbeatTimeout}
use Rattle.counters.specs.declared.counters.ThresholdCounter.{ThresholdCounter}
use Rattle.counters.specs.declared.counters.CnErrorCounters.{CnErrorCounters}
use Rattle.entries.specs.declared.emergency_queue.EmergencyQueue.{EmergencyQueue}
use Rattle.entries.specs.declared.error_history.ErrorHistory.{ErrorHistory}
use Rattle.std.specs.declared.option.Option.{Option}
use Rattle.std.specs.declared.option.Option.TheVariants.{Some, None}
use Rattle.head.specs.declared.state.Deadline.{Deadline}
use Rattle.head.specs.declared.state.Deadline.TheVariants.{Nothing}
use Rattle.head.specs.declared.state.Dictionary.{Dictionary}
use Rattle.head.specs.declared.state.SocWatch.{SocWatch}
use Rattle.head.specs.Head.{moment_in}
use Rattle.head.specs.Places as at
use Rattle.head.specs.Words.{one}

-- after an NMT event: state, enabled and ready are written
abbrev pub nmt_written : List ℕ → CnNmtStateMachine → List ℕ
nmt_written ws m =
    slice_set (slice_set (slice_set ws at.state (state_number m.current_state)) at.enabled (one m.ready_to_operate_enabled)) at.ready
    (one m.app_ready)

-- after the counter of one kind is written: its threshold stays
abbrev pub counter_written : List ℕ → CounterKind → ThresholdCounter → List ℕ
counter_written ws k c =
    slice_set (slice_set (slice_set ws (at.counter k) c.cumulative_cnt) (at.counter k + 1) c.threshold_cnt) (at.counter k + 3) c.crossings_cnt

-- after of each counter the n-th of its four words is written, f k for the kind k
abbrev pub each_written : List ℕ → ℕ → (CounterKind → ℕ) → List ℕ
each_written ws n f =
    slice_set (slice_set (slice_set (slice_set (slice_set (slice_set (slice_set ws
    (at.counter Collision + n) (f Collision)) (at.counter LossOfSoc + n) (f LossOfSoc)) (at.counter LossOfSoa + n) (f LossOfSoa))
    (at.counter LossOfPreq + n) (f LossOfPreq)) (at.counter SoCJitter + n) (f SoCJitter)) (at.counter Crc + n) (f Crc))
    (at.counter HeartbeatTimeout + n) (f HeartbeatTimeout)

-- after a completed cycle: the levels are written
abbrev pub levels_written : List ℕ → CnErrorCounters → List ℕ
levels_written ws s = each_written ws 1 (λ (k : CounterKind). (counter k s).threshold_cnt)

-- after a time is written to the two words from a place on
abbrev pub time_written : List ℕ → ℕ → ℕ → List ℕ
time_written ws i t = slice_set (slice_set ws i (t % 4294967296)) (i + 1) (t / 4294967296)

-- a call of f, given a `&mut` to ws and t, may leave ws' there
pub record WritesThere {F T : Type 0} (g : Once F (MutBor (List ℕ) × (T × Unit {0})) (Unit {0} × (MutBor (List ℕ) × Unit {0}))) (f : F) (ws : List ℕ) (t : T) (ws' : List ℕ) : Type 0 where
  -- the borrow that f is given
  pub shown : MutBor (List ℕ)
  -- the same borrow, as f leaves it
  pub left : MutBor (List ℕ)
  pub called : g.post f (shown, (t, tt)) (tt, (left, tt))
  pub shows : shown.now ≡ ws
  pub leaves : left.now ≡ ws'

-- after a moment that may be missing is written: where there is none, its time stays as it was
abbrev pub moment_written : List ℕ → ℕ → ℕ → Option ℕ → List ℕ
moment_written ws there i (Some t) = time_written (slice_set ws there 1) i t
moment_written ws there i None = slice_set ws there 0

-- after the deadline is written
abbrev pub deadline_written : List ℕ → Deadline → List ℕ
deadline_written ws d = moment_written ws at.due at.deadline (moment_in d)

-- after the earliest moment is written
abbrev pub earliest_written : List ℕ → Option ℕ → List ℕ
earliest_written ws d = moment_written ws at.awaited at.earliest d

-- after the watch over the SoC is written
abbrev pub soc_written : List ℕ → SocWatch → List ℕ
soc_written ws s =
    deadline_written
    (slice_set (slice_set (time_written ws at.last_soc s.last_soc_reception_time_us) at.check (one s.soc_timeout_check_active)) at.changed
    (one s.error_status_changed))
    s.next_tick_us

-- after a reset has forgotten: no deadline, the check off, the DLL machine at NonCyclic
abbrev pub forgotten_written : List ℕ → List ℕ
forgotten_written ws = slice_set (slice_set (deadline_written ws Nothing) at.check 0) at.dll (cs_state_number NonCyclic)

-- after the places of the queue are written: its capacity stays
abbrev pub queue_written : List ℕ → EmergencyQueue → List ℕ
queue_written ws q = slice_set (slice_set ws at.oldest q.oldest) at.queued q.length

-- after the places of the history are written
abbrev pub history_written : List ℕ → ErrorHistory → List ℕ
history_written ws h = slice_set (slice_set ws at.newest h.newest) at.count h.count

-- after node, flags and basic timeout are written, which start alone does
abbrev pub identity_written : List ℕ → CnNmtStateMachine → List ℕ
identity_written ws m =
    slice_set (slice_set (slice_set ws at.node m.node_id.0) at.flags m.feature_flags.0) at.timeout m.basic_ethernet_timeout

-- after the thresholds are written
abbrev pub thresholds_written : List ℕ → CnErrorCounters → List ℕ
thresholds_written ws s = each_written ws 2 (λ (k : CounterKind). (counter k s).threshold)

-- after a value that may be missing is written: where there is none, its own word stays as it was
abbrev pub object_written : List ℕ → ℕ → Option ℕ → List ℕ
object_written ws i (Some n) = slice_set (slice_set ws i 1) (i + 1) n
object_written ws i None = slice_set ws i 0

-- after the values of the dictionary are written
abbrev pub od_written : List ℕ → Dictionary → List ℕ
od_written ws o =
    slice_set (slice_set (slice_set (slice_set (object_written (object_written (slice_set ws at.register o.error_register) at.cycle o.cycle_time) at.tolerance o.tolerance)
    at.counter1 o.counter_1) at.counter2 o.counter_2) at.counter3 o.counter_3) at.counter5 o.counter_5
