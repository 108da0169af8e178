-- The head that words stand for. Any words stand for one: a number that names no NMT state is read
-- as GsOff, one that names no DLL state as NonCyclic; of a byte's word the lowest byte counts, and
-- a flag is on where its word is not 0.
-- Assumes nothing.
use Rattle.std.specs.Prelude.{ℕ, ◌+◌, ◌*◌, ◌%◌, Bool, true, false, not, List, ◌==◌, slice_index}
use Rattle.types.specs.Pick.{pick}
use Rattle.types.specs.States.{read_state}
use Rattle.types.specs.Types as Types
use Rattle.types.specs.Flags as Flags
use Rattle.types.specs.declared.nmt.states.NmtState.{NmtState}
use Rattle.types.specs.declared.nmt.states.NmtState.TheVariants.{NmtGsOff}
use Rattle.std.specs.declared.result.Result.{Result}
use Rattle.std.specs.declared.option.Option.{Option}
use Rattle.std.specs.declared.result.Result.TheVariants.{Ok, Err}
use Rattle.std.specs.declared.option.Option.TheVariants.{Some, None}
use Rattle.types.specs.declared.refusals.Refusal.{Refusal}
use Rattle.nmt.specs.declared.cn_state_machine.CnNmtStateMachine.{CnNmtStateMachine}
use Rattle.dll.specs.Dll.{read_cs_state}
use Rattle.dll.specs.declared.cs_state_machine.DllCsState.{DllCsState}
use Rattle.dll.specs.declared.cs_state_machine.DllCsState.TheVariants.{NonCyclic}
use Rattle.counters.specs.Counters.{counter_of, by_kind}
use Rattle.counters.specs.declared.counters.CounterKind.{CounterKind}
use Rattle.counters.specs.declared.counters.ThresholdCounter.{ThresholdCounter}
use Rattle.counters.specs.declared.counters.CnErrorCounters.{CnErrorCounters}
use Rattle.entries.specs.Queue.{queue}
use Rattle.entries.specs.History.{error_history}
use Rattle.entries.specs.declared.emergency_queue.EmergencyQueue.{EmergencyQueue}
use Rattle.entries.specs.declared.error_history.ErrorHistory.{ErrorHistory}
use Rattle.head.specs.declared.state.Deadline.{Deadline}
use Rattle.head.specs.declared.state.Deadline.TheVariants.{At, Nothing}
use Rattle.head.specs.declared.state.SocWatch.{SocWatch}
use Rattle.head.specs.declared.state.Dictionary.{Dictionary}
use Rattle.head.specs.Head.{Head}
use Rattle.head.specs.Head.{soc_watch}
use Rattle.head.specs.Places as at

-- the i-th word
abbrev pub word : List ℕ → ℕ → ℕ
word ws i = slice_index ws i

-- whether a flag's word is on
abbrev pub yes : ℕ → Bool
yes n = not (n == 0)

-- the word of a flag: 1 where it is on, else 0
abbrev pub one : Bool → ℕ
one b = pick b 1 0

-- a time from its low and its high word
abbrev pub time_of : ℕ → ℕ → ℕ
time_of low high = low + 4294967296 * high

-- the time in the two words from a place on
abbrev pub time_at : List ℕ → ℕ → ℕ
time_at ws i = time_of (word ws i) (word ws (i + 1))

-- the NMT state that a number was read as; GsOff where it was refused
abbrev pub state_read : Result NmtState Refusal → NmtState
state_read (Ok s) = s
state_read (Err r) = NmtGsOff

-- the NMT state in a word; GsOff where its number names none
abbrev pub state_of : ℕ → NmtState
state_of n = state_read (read_state n)

-- the NMT machine that the words stand for
abbrev pub nmt_of : List ℕ → CnNmtStateMachine
nmt_of ws =
    record {
      current_state = state_of (word ws at.state);
      node_id = Types.node (word ws at.node % 256);
      feature_flags = Flags.flags (word ws at.flags);
      basic_ethernet_timeout = word ws at.timeout;
      ready_to_operate_enabled = yes (word ws at.enabled);
      app_ready = yes (word ws at.ready);
    }

-- the DLL state that a number was read as; NonCyclic where it was refused
abbrev pub dll_read : Result DllCsState Refusal → DllCsState
dll_read (Ok s) = s
dll_read (Err r) = NonCyclic

-- the DLL state in a word; NonCyclic where its number names none
abbrev pub dll_state : ℕ → DllCsState
dll_state n = dll_read (read_cs_state n)

-- the counter in the four words from a place on
abbrev pub counter_at : List ℕ → ℕ → ThresholdCounter
counter_at ws i = counter_of (word ws i) (word ws (i + 1)) (word ws (i + 2)) (word ws (i + 3))

-- the counters of all kinds, and the count of lost links
abbrev pub errors_of : List ℕ → CnErrorCounters
errors_of ws = by_kind (λ (k : CounterKind). counter_at ws (at.counter k)) (word ws at.links)

-- a deadline from whether there is one, and its time
abbrev pub deadline_of : Bool → ℕ → Deadline
deadline_of true t = At t
deadline_of false t = Nothing

-- the watch over the SoC that the words stand for
abbrev pub soc_of : List ℕ → SocWatch
soc_of ws =
    soc_watch (time_at ws at.last_soc) (yes (word ws at.check))
    (deadline_of (yes (word ws at.due)) (time_at ws at.deadline))
    (yes (word ws at.changed))

-- a value that may be missing, from whether it is there and its word
abbrev pub object_of : Bool → ℕ → Option ℕ
object_of true n = Some n
object_of false n = None

-- the value in the two words from a place on
abbrev pub object_at : List ℕ → ℕ → Option ℕ
object_at ws i = object_of (yes (word ws i)) (word ws (i + 1))

-- the values of the dictionary that the words stand for
abbrev pub od_of : List ℕ → Dictionary
od_of ws =
    record {
      error_register = word ws at.register % 256;
      cycle_time = object_at ws at.cycle;
      tolerance = object_at ws at.tolerance;
      counter_1 = word ws at.counter1;
      counter_2 = word ws at.counter2;
      counter_3 = word ws at.counter3;
      counter_5 = word ws at.counter5;
    }

-- the queue: the place of its oldest entry, how many wait, and how many may, a byte each
abbrev pub queue_of : List ℕ → EmergencyQueue
queue_of ws = queue (word ws at.oldest % 256) (word ws at.queued % 256) (word ws at.capacity % 256)

-- the history: the place of its newest entry, and how many there are, a byte each
abbrev pub history_of : List ℕ → ErrorHistory
history_of ws = error_history (word ws at.newest % 256) (word ws at.count % 256)

-- a moment from whether it is there, and its time
abbrev pub moment_there : Bool → ℕ → Option ℕ
moment_there true t = Some t
moment_there false t = None

-- the earliest moment at which a watched node would be late, or none
abbrev pub earliest_of : List ℕ → Option ℕ
earliest_of ws = moment_there (yes (word ws at.awaited)) (time_at ws at.earliest)

-- the head that words stand for
unfoldable pub head_of : List ℕ → Head
head_of ws =
    record {
      nmt = nmt_of ws;
      dll = record { state = dll_state (word ws at.dll) };
      errors = errors_of ws;
      soc = soc_of ws;
      od = od_of ws;
      queue = queue_of ws;
      history = history_of ws;
      earliest = earliest_of ws;
    }
