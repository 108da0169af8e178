-- What the plain head does at each call but the tick, a range and a margin (RULES 3).
-- Assumes nothing.
use Rattle.std.specs.Prelude.{ℕ, ◌+◌, ◌/◌, min, Bool, true, false, not, List, [], ◌∷◌, leb, ltb, take}
use Rattle.types.specs.Pick.{pick, both}
use Rattle.types.specs.Types.{node, is_node}
use Rattle.types.specs.Flags.{flags}
use Rattle.types.specs.States.{same_state}
use Rattle.types.specs.Errors.{reported}
use Rattle.types.specs.Refusals.{refusal_number}
use Rattle.types.specs.declared.nmt.states.NmtState.TheVariants.{NmtReadyToOperate}
use Rattle.types.specs.declared.nmt.events.NmtEvent.{NmtEvent}
use Rattle.std.specs.declared.result.Result.{Result}
use Rattle.std.specs.declared.option.Option.{Option}
use Rattle.std.specs.declared.result.Result.TheVariants.{Ok, Err}
use Rattle.std.specs.declared.option.Option.TheVariants.{Some, None}
use Rattle.head.specs.declared.state.Deadline.TheVariants.{At, Nothing}
use Rattle.types.specs.declared.refusals.Refusal.{Refusal}
use Rattle.types.specs.declared.frame.cs_state_machine.DllCsEvent.{DllCsEvent}
use Rattle.types.specs.declared.frame.error.types.DllError.{DllError}
use Rattle.nmt.specs.Resets.{is_reset}
use Rattle.nmt.specs.Nmt as Nmt
use Rattle.nmt.specs.declared.cn_state_machine.CnNmtStateMachine.{CnNmtStateMachine}
use Rattle.dll.specs.Dll as Dll
use Rattle.dll.specs.declared.cs_state_machine.DllCsState.{DllCsState}
use Rattle.dll.specs.declared.cs_state_machine.DllCsState.TheVariants.{NonCyclic}
use Rattle.counters.specs.Counters.{new_counters, thresholds_fit, handled, HandledError, CompletedCycle}
use Rattle.counters.specs.Marks.{Mark, error_marks}
use Rattle.counters.specs.declared.counters.CnErrorCounters.{CnErrorCounters}
use Rattle.entries.specs.Sizes.{queue_places, history_places}
use Rattle.entries.specs.Ring.{nth, rest}
use Rattle.entries.specs.declared.status_response.ErrorEntry.{ErrorEntry}
use Rattle.head.specs.declared.state.SocWatch.{SocWatch}
use Rattle.head.specs.declared.state.Dictionary.{Dictionary}
use Rattle.head.specs.Head.{soc_watch, forgotten}
use Rattle.node.specs.declared.load.DictionaryUpdate.{DictionaryUpdate}
use Rattle.watched.specs.declared.nodes.WatchedNode.{WatchedNode}
use Rattle.watched.specs.Watched.{in_time, is_watched, unheard, watched_node, Run, run, watching, well_lent, changing, inserted, without, holding, watched_places}
use Rattle.node.specs.Plain.{Plain, HistoryUpdate, set, keep, Start, Answer, refused, taken, nmt_answer, dll_answer, error_answer, cycle_answer, hand_out_answer, made, no_event, Step, begins, declined, FirstStep}

-- a test that a call makes, and the refusal that it gives where the test does not hold, as a number
-- or as the value of src/
pub record Test (R : Type 0) : Type 0 where
  pub holds : Bool
  pub otherwise : R

-- the test b, with the refusal r
abbrev pub must : {R : Type 0} → Bool → R → Test R
must b r = record { holds = b; otherwise = r }

-- the tests in their order: the first that does not hold gives its refusal, and where all hold the
-- call is taken (RULES 2)
abbrev pub tried : {R A : Type 0} → List (Test R) → (R → A) → A → A
tried [] refuse accept = accept
tried (t ∷ ts) refuse accept = pick t.holds (tried ts refuse accept) (refuse t.otherwise)

-- the head of these parts
abbrev pub plain_of : CnNmtStateMachine → DllCsState → CnErrorCounters → SocWatch → Dictionary → ℕ → List ErrorEntry → List ErrorEntry → Option ℕ → Plain
plain_of n d e s o c q h x =
    record { nmt = n; dll = d; errors = e; soc = s; od = o; capacity = c; queue = q; history = h; earliest = x }

-- the head with another NMT machine
abbrev pub with_nmt : Plain → CnNmtStateMachine → Plain
with_nmt p n = plain_of n p.dll p.errors p.soc p.od p.capacity p.queue p.history p.earliest

-- the head with another DLL state
abbrev pub with_dll : Plain → DllCsState → Plain
with_dll p d = plain_of p.nmt d p.errors p.soc p.od p.capacity p.queue p.history p.earliest

-- the head with other error counters
abbrev pub with_errors : Plain → CnErrorCounters → Plain
with_errors p e = plain_of p.nmt p.dll e p.soc p.od p.capacity p.queue p.history p.earliest

-- the head with another watch over the SoC
abbrev pub with_soc : Plain → SocWatch → Plain
with_soc p s = plain_of p.nmt p.dll p.errors s p.od p.capacity p.queue p.history p.earliest

-- the head with another emergency queue
abbrev pub with_queue : Plain → List ErrorEntry → Plain
with_queue p q = plain_of p.nmt p.dll p.errors p.soc p.od p.capacity q p.history p.earliest

-- the head with other values of the dictionary and another history
abbrev pub with_values : Plain → Dictionary → List ErrorEntry → Plain
with_values p o h = plain_of p.nmt p.dll p.errors p.soc o p.capacity p.queue h p.earliest

-- the head with another earliest moment, or none
abbrev pub with_earliest : Plain → Option ℕ → Plain
with_earliest p x = plain_of p.nmt p.dll p.errors p.soc p.od p.capacity p.queue p.history x

-- the run of a call that is lent none
abbrev pub no_run : Run
no_run = run [] 0

-- a call that answers a and leaves the head p and the run l, and of which nothing is counted
abbrev pub answers : Plain → Answer → Run → Step
answers p a l = record { head = p; answer = a; lent = l; event = no_event; marks = []; checked = []; crossings = [] }

-- a call that is refused by the number n: the head and what was lent stay as they are
abbrev pub declines : Plain → Run → ℕ → Step
declines p l n = answers p (refused n) l

-- the moment at which a node would be late (RULES 8.5): last heard + timeout + 1 where both are
-- above 0, or none
abbrev pub late_from : WatchedNode → Option ℕ
late_from w = pick (both (ltb 0 w.timeout) (ltb 0 w.last_heard)) (Some (w.last_heard + w.timeout + 1)) None

-- the smaller of two moments, where there are any
abbrev pub smaller : Option ℕ → Option ℕ → Option ℕ
smaller None d = d
smaller (Some a) None = Some a
smaller (Some a) (Some b) = Some (min a b)

-- the earliest moment at which one of some nodes would be late, in µs, or none (RULES 8.5)
unfoldable pub earliest : List WatchedNode → Option ℕ
earliest [] = None
earliest (w ∷ ws) = smaller (late_from w) (earliest ws)

-- the head with the earliest moment of a run, as each accepted start, tick, heard, add and removal
-- leaves it
abbrev pub up_to_date : Plain → Run → Plain
up_to_date p r = with_earliest p (earliest (watching r))

-- heard, add and removal, where they are taken, leave the run r and its earliest moment
abbrev pub leaves : Plain → Run → Step
leaves p r = answers (up_to_date p r) taken r

-- Start. A fresh head (RULES 1.9): at GsInitialising, not enabled, ready, DLL NonCyclic, check off,
-- no deadline, last SoC 0, levels and counts 0, `error_status_changed` off, queue and history
-- empty, no earliest moment, and the values that start gives.
unfoldable pub fresh : Start → Plain
fresh s =
    plain_of (Nmt.new_machine (node s.node) (flags s.flags) s.timeout) NonCyclic (new_counters s.thresholds)
    (soc_watch 0 false Nothing false) s.od s.capacity [] [] None

-- the tests of start: NodeNumber, QueueCapacity, WatchedNodes, ThresholdLimit
abbrev pub start_tests : Start → List (Test ℕ)
start_tests s =
    must (is_node s.node) 1 ∷
    must (leb s.capacity queue_places) 2 ∷
    must (well_lent s.watched) 3 ∷
    must (thresholds_fit s.thresholds) 14 ∷
    []

-- start: the head is fresh, and all watched nodes count as never heard
unfoldable pub started : Start → FirstStep
started s =
    tried (start_tests s)
    (λ n. record { begun = declined n; lent = s.watched })
    (record { begun = begins (fresh s); lent = changing unheard s.watched })

-- what a reset forgets (RULES 4.5), but for the ready word, which is the machine's: the deadline
-- and the check are off, and the DLL machine is NonCyclic
abbrev pub forgets : Plain → Plain
forgets p = plain_of p.nmt NonCyclic p.errors (forgotten p.soc) p.od p.capacity p.queue p.history p.earliest

-- An NMT event e that is taken, with what the machine makes of it. Its errors are reported and not
-- counted.
abbrev pub nmt_taken : Plain → NmtEvent → Nmt.Outcome → Step
nmt_taken p e o =
    record {
      head = pick (is_reset e) (forgets (with_nmt p o.machine)) (with_nmt p o.machine);
      answer = nmt_answer o.errors o.reset;
      lent = no_run;
      event = made e;
      marks = [];
      checked = [];
      crossings = [];
    }

-- an NMT event by the reading of its number: what the machine makes of it, or UnknownNumber
abbrev pub nmt_step : Plain → Result NmtEvent Refusal → Step
nmt_step p (Ok e) = nmt_taken p e (Nmt.processed p.nmt e)
nmt_step p (Err r) = declines p no_run (refusal_number r)

-- a DLL event in the head's own NMT state, told whether a PReq is expected: what the machine makes
-- of it
abbrev pub dll_outcome : Plain → DllCsEvent → Bool → Dll.CsOutcome
dll_outcome p e expected = Dll.cs_processed p.dll e p.nmt.current_state expected

-- A DLL event that is taken, with what the machine makes of it. Its errors are reported and not
-- counted.
abbrev pub dll_taken : Plain → Dll.CsOutcome → Step
dll_taken p o = answers (with_dll p o.state) (dll_answer o.errors) no_run

-- a DLL event by the reading of its number, in the head's own NMT state, told whether a PReq is
-- expected; or UnknownNumber
abbrev pub dll_step : Plain → Bool → Result DllCsEvent Refusal → Step
dll_step p expected (Ok e) = dll_taken p (dll_outcome p e expected)
dll_step p expected (Err r) = declines p no_run (refusal_number r)

-- An error that is given to the counters, with what they make of it: it changes only them.
abbrev pub error_taken : Plain → HandledError → List Mark → Step
error_taken p r ms =
    record {
      head = with_errors p r.counters;
      answer = error_answer r.action r.signal (reported r.logged);
      lent = no_run;
      event = no_event;
      marks = ms;
      checked = [];
      crossings = [];
    }

-- an error by the reading of its kind: it goes to the counters; or UnknownNumber or NodeNumber
abbrev pub error_step : Plain → Result DllError Refusal → Step
error_step p (Ok e) = error_taken p (handled p.errors e) (error_marks p.errors e)
error_step p (Err r) = declines p no_run (refusal_number r)

-- Cycle complete: each level above 0 falls by 1; the answer is whether the last one reached 0.
abbrev pub cycle_taken : Plain → CompletedCycle → List Mark → Step
cycle_taken p r ms =
    record {
      head = with_errors p r.counters;
      answer = cycle_answer r.cleared;
      lent = no_run;
      event = no_event;
      marks = ms;
      checked = [];
      crossings = [];
    }

-- Withdraw: the application is not ready any more.
abbrev pub withdrawn : CnNmtStateMachine → CnNmtStateMachine
withdrawn m = Nmt.with m m.current_state m.ready_to_operate_enabled false

-- the test of a withdrawal: ReadyToOperate, in the state of that name
abbrev pub withdraw_tests : Plain → List (Test ℕ)
withdraw_tests p = must (not (same_state p.nmt.current_state NmtReadyToOperate)) 8 ∷ []

-- the tests of heard: WatchedNodes, TimeLimit, NotWatched
abbrev pub heard_tests : ℕ → ℕ → Run → List (Test ℕ)
heard_tests n t r = must (well_lent r) 3 ∷ must (in_time t) 5 ∷ must (is_watched n (watching r)) 7 ∷ []

-- the tests of add: NodeNumber, WatchedNodes, also where the timeout is above the limit of a time,
-- AlreadyWatched, AllWatched
abbrev pub add_tests : ℕ → ℕ → Run → List (Test ℕ)
add_tests n o r =
    must (is_node n) 1 ∷
    must (both (well_lent r) (in_time o)) 3 ∷
    must (not (is_watched n (watching r))) 10 ∷
    must (ltb r.number watched_places) 9 ∷
    []

-- the tests of remove: WatchedNodes, NotWatched
abbrev pub remove_tests : ℕ → Run → List (Test ℕ)
remove_tests n r = must (well_lent r) 3 ∷ must (is_watched n (watching r)) 7 ∷ []

-- the run with a node added in its place, never heard yet; the places past the number are zeros
abbrev pub added : ℕ → ℕ → Run → Run
added n o r = holding (inserted (watched_node n o 0) (watching r))

-- the run without the node of number n; the places past the number are zeros
abbrev pub removed : ℕ → Run → Run
removed n r = holding (without n (watching r))

-- Hand out: the oldest entry of the queue, which leaves it; of an empty queue, none.
abbrev pub hand_out_step : Plain → Step
hand_out_step p = answers (with_queue p (rest p.queue)) (hand_out_answer (nth p.queue 0)) no_run

-- the error register after a load: the value that is named, or the old one
abbrev pub updated_byte : ℕ → Option ℕ → ℕ
updated_byte old (Some n) = n
updated_byte old None = old

-- a counter of object 0x1102 after a load: the value that is named, or the old one
abbrev pub updated_counter : ℕ → Option ℕ → ℕ
updated_counter old (Some n) = n
updated_counter old None = old

-- cycle or tolerance after a load: the value that is named, which may be missing, or the old one
abbrev pub updated_object : Option ℕ → Option (Option ℕ) → Option ℕ
updated_object old (Some v) = v
updated_object old None = old

-- Load: the values that are named are set, cycle and tolerance also to missing; the others stay.
unfoldable pub updated : Dictionary → DictionaryUpdate → Dictionary
updated o u =
    record {
      error_register = updated_byte o.error_register u.error_register;
      cycle_time = updated_object o.cycle_time u.cycle_time;
      tolerance = updated_object o.tolerance u.tolerance;
      counter_1 = updated_counter o.counter_1 u.counter_1;
      counter_2 = updated_counter o.counter_2 u.counter_2;
      counter_3 = updated_counter o.counter_3 u.counter_3;
      counter_5 = updated_counter o.counter_5 u.counter_5;
    }

-- the history after a load: of one that is named the newest 254 entries are kept, else the old one
-- stays
abbrev pub updated_history : List ErrorEntry → HistoryUpdate → List ErrorEntry
updated_history old (set l) = take history_places l
updated_history old keep = old

-- a value that may be missing, or what counts then
abbrev pub value_or : ℕ → Option ℕ → ℕ
value_or none (Some n) = n
value_or none None = none

-- the cycle in µs; 0 where it is missing
abbrev pub cycle_of : Dictionary → ℕ
cycle_of o = value_or 0 o.cycle_time

-- the tolerance in ns; 100,000 where it is missing
abbrev pub tolerance_of : Dictionary → ℕ
tolerance_of o = value_or 100000 o.tolerance

-- the limit (RULES 7.6): cycle + tolerance / 1000, rounded down, in µs
abbrev pub limit_of : Dictionary → ℕ
limit_of o = cycle_of o + tolerance_of o / 1000

-- the test of arm: TimeLimit
abbrev pub arm_tests : ℕ → List (Test ℕ)
arm_tests t = must (in_time t) 5 ∷ []

-- an SoC at t: with a cycle above 0 the check goes on and the deadline is t + limit; with cycle 0
-- the check is off and no deadline stands
unfoldable pub armed : SocWatch → Dictionary → ℕ → SocWatch
armed s o t =
    pick (ltb 0 (cycle_of o))
    (soc_watch t true (At (t + limit_of o)) s.error_status_changed)
    (soc_watch t false Nothing s.error_status_changed)
