-- A part written is the head with that part replaced, and nothing else. Each law is computed on
-- words written out one by one (`whole`), with what was written as it stands; what is read of it is
-- put in then.
-- Assumes nothing.
use Rattle.std.proofs.Common.{◌≡◌, ℕ, ◌+◌, ◌/◌, ◌%◌, ◌<◌, ◌≤◌, Bool, true, false, List, length, set, sym, refl, ap, ◌∙◌, arith, eqb-true}
use Rattle.types.specs.States.{state_number, read_state, same_state}
use Rattle.types.specs.declared.nmt.states.NmtState.{NmtState}
use Rattle.types.proofs.Cases.{everywhere, NmtStates}
use Rattle.nmt.specs.Nmt as Nmt
use Rattle.nmt.specs.declared.cn_state_machine.CnNmtStateMachine.{CnNmtStateMachine}
use Rattle.dll.specs.Dll.{cs_state_number}
use Rattle.dll.specs.declared.cs_state_machine.DllCsState.{DllCsState}
use Rattle.dll.specs.declared.cs_state_machine.DllCsState.TheVariants.{NonCyclic, WaitSoc, WaitPreq, WaitSoa}
use Rattle.counters.specs.Counters.{counter, counter_of, by_kind, replaced, lowered}
use Rattle.counters.specs.declared.counters.CounterKind.{CounterKind}
use Rattle.counters.specs.declared.counters.CounterKind.TheVariants.{Collision, LossOfSoc, LossOfSoa, LossOfPreq, SoCJitter, Crc, HeartbeatTimeout}
use Rattle.counters.specs.declared.counters.ThresholdCounter.{ThresholdCounter}
use Rattle.entries.specs.Queue.{queue}
use Rattle.entries.specs.declared.emergency_queue.EmergencyQueue.{EmergencyQueue}
use Rattle.entries.specs.History.{error_history}
use Rattle.entries.specs.declared.error_history.ErrorHistory.{ErrorHistory}
use Rattle.std.specs.declared.option.Option.{Option}
use Rattle.std.specs.declared.option.Option.TheVariants.{Some, None}
use Rattle.head.specs.declared.state.Deadline.{Deadline}
use Rattle.head.specs.declared.state.Deadline.TheVariants.{At, Nothing}
use Rattle.head.specs.declared.state.Object.{Object}
use Rattle.head.specs.declared.state.Object.TheVariants.{CycleTime, Tolerance}
use Rattle.head.specs.declared.state.Statistic.{Statistic}
use Rattle.head.specs.declared.state.Statistic.TheVariants.{Counter1, Counter2, Counter3, Counter5}
use Rattle.head.specs.Head.{forgetting, Head, soc_watch, with_register, with_object, with_statistic, head_with_nmt, head_with_dll, head_with_errors, head_with_soc, head_with_values, head_with_od, head_with_queue, head_with_earliest}
use Rattle.head.specs.Places as at
use Rattle.head.specs.Words.{word, yes, one, time_of, state_of, nmt_of, dll_state, counter_at, errors_of, deadline_of, moment_there, head_of}
use Rattle.head.specs.Written.{forgotten_written, nmt_written, counter_written, levels_written, earliest_written, soc_written, queue_written, object_written, history_written}
use Rattle.head.proofs.Whole.{whole}

-- what is read of a word that was written
pub yes_one : (b : Bool) → yes (one b) ≡ b
yes_one true = refl
yes_one false = refl

pub state_back : (s : NmtState) → state_of (state_number s) ≡ s
unfolding read_state
state_back = everywhere NmtStates (λ (s : NmtState). state_of (state_number s)) (λ (s : NmtState). s) refl refl

-- a test of two states that holds
pub state_is : (s t : NmtState) → same_state s t ≡ true → s ≡ t
state_is s t h = sym (state_back s) ∙ ap state_of (eqb-true (state_number s) (state_number t) h) ∙ state_back t

pub dll_back : (s : DllCsState) → dll_state (cs_state_number s) ≡ s
dll_back NonCyclic = refl
dll_back WaitSoc = refl
dll_back WaitPreq = refl
dll_back WaitSoa = refl

pub time_back : (t : ℕ) → time_of (t % 4294967296) (t / 4294967296) ≡ t
time_back t = omega arith

-- each claim is computed: what the words stand for after numbers are written at places
abbrev NmtRead : ℕ → ℕ → ℕ → List ℕ → Type 0
NmtRead s e r ws =
    head_of (set (set (set ws at.state s) at.enabled e) at.ready r)
    ≡ head_with_nmt (head_of ws) (Nmt.with (nmt_of ws) (state_of s) (yes e) (yes r))

abbrev ReadyRead : ℕ → List ℕ → Type 0
ReadyRead r ws =
    head_of (set ws at.ready r) ≡ head_with_nmt (head_of ws) (Nmt.with (nmt_of ws) (nmt_of ws).current_state (nmt_of ws).ready_to_operate_enabled (yes r))

abbrev DllRead : ℕ → List ℕ → Type 0
DllRead n ws = head_of (set ws at.dll n) ≡ head_with_dll (head_of ws) (record { state = dll_state n })

abbrev CounterRead : CounterKind → ℕ → ℕ → ℕ → List ℕ → Type 0
CounterRead k n l x ws =
    head_of (set (set (set ws (at.counter k) n) (at.counter k + 1) l) (at.counter k + 3) x)
    ≡ head_with_errors (head_of ws) (replaced k (counter_of n l (counter_at ws (at.counter k)).threshold x) (errors_of ws))

abbrev LinksRead : ℕ → List ℕ → Type 0
LinksRead n ws = head_of (set ws at.links n) ≡ head_with_errors (head_of ws) (by_kind (λ (k : CounterKind). counter k (errors_of ws)) n)

abbrev SocRead : ℕ → ℕ → ℕ → ℕ → ℕ → ℕ → ℕ → List ℕ → Type 0
SocRead l h c g d a b ws =
    head_of (set (set (set (set (set (set (set ws at.last_soc l) (at.last_soc + 1) h) at.check c) at.changed g) at.due d) at.deadline a) (at.deadline + 1) b)
    ≡ head_with_soc (head_of ws) (soc_watch (time_of l h) (yes c) (deadline_of (yes d) (time_of a b)) (yes g))

abbrev NoDeadlineRead : ℕ → ℕ → ℕ → ℕ → List ℕ → Type 0
NoDeadlineRead l h c g ws =
    head_of (set (set (set (set (set ws at.last_soc l) (at.last_soc + 1) h) at.check c) at.changed g) at.due 0)
    ≡ head_with_soc (head_of ws) (soc_watch (time_of l h) (yes c) Nothing (yes g))

abbrev QueueRead : ℕ → ℕ → List ℕ → Type 0
QueueRead o n ws =
    head_of (set (set ws at.oldest o) at.queued n) ≡ head_with_queue (head_of ws) (queue (o % 256) (n % 256) (word ws at.capacity % 256))

abbrev RegisterRead : ℕ → List ℕ → Type 0
RegisterRead n ws = head_of (set ws at.register n) ≡ head_with_od (head_of ws) (with_register (n % 256) (head_of ws).od)

abbrev ObjectRead : Object → Option ℕ → List ℕ → Type 0
ObjectRead o v ws = head_of (object_written ws (at.object o) v) ≡ head_with_od (head_of ws) (with_object o v (head_of ws).od)

abbrev StatisticRead : Statistic → ℕ → List ℕ → Type 0
StatisticRead s n ws = head_of (set ws (at.statistic s) n) ≡ head_with_od (head_of ws) (with_statistic s n (head_of ws).od)

abbrev HistoryRead : ℕ → ℕ → List ℕ → Type 0
HistoryRead a b ws =
    head_of (set (set ws at.newest a) at.count b) ≡ head_with_values (head_of ws) (head_of ws).od (error_history (a % 256) (b % 256))

abbrev EarliestRead : ℕ → ℕ → ℕ → List ℕ → Type 0
EarliestRead d a b ws =
    head_of (set (set (set ws at.awaited d) at.earliest a) (at.earliest + 1) b) ≡ head_with_earliest (head_of ws) (moment_there (yes d) (time_of a b))

abbrev NoEarliestRead : List ℕ → Type 0
NoEarliestRead ws = head_of (set ws at.awaited 0) ≡ head_with_earliest (head_of ws) None

-- the watch with its status changed, and the register and counter 5 replaced
abbrev pub with_signal : Head → ℕ → ℕ → Head
with_signal h r n =
    head_with_values
    (head_with_soc h (soc_watch h.soc.last_soc_reception_time_us h.soc.soc_timeout_check_active h.soc.next_tick_us true))
    (record {
      error_register = r;
      cycle_time = h.od.cycle_time;
      tolerance = h.od.tolerance;
      counter_1 = h.od.counter_1;
      counter_2 = h.od.counter_2;
      counter_3 = h.od.counter_3;
      counter_5 = n;
    })
    h.history

abbrev SignalRead : ℕ → ℕ → List ℕ → Type 0
SignalRead r n ws = head_of (set (set (set ws at.changed 1) at.register r) at.counter5 n) ≡ with_signal (head_of ws) (r % 256) n

abbrev ChangedRead : List ℕ → Type 0
ChangedRead ws = head_of (set ws at.changed 1) ≡ with_signal (head_of ws) (word ws at.register % 256) (word ws at.counter5)

module _ (ws : List ℕ) (long : length ws ≡ 60) where
  nmt_read : (s e r : ℕ) → NmtRead s e r ws
  unfolding head_of
  nmt_read s e r = whole (NmtRead s e r) ws long refl

  -- a machine whose node, flags and timeout are those that were read
  pub nmt_written_lem :
      (m : CnNmtStateMachine) →
      m ≡ Nmt.with (nmt_of ws) m.current_state m.ready_to_operate_enabled m.app_ready →
      head_of (nmt_written ws m) ≡ head_with_nmt (head_of ws) m
  nmt_written_lem m kept =
      nmt_read _ _ _ ∙
      (λ i. head_with_nmt (head_of ws) (Nmt.with (nmt_of ws) (state_back m.current_state i) (yes_one m.ready_to_operate_enabled i) (yes_one m.app_ready i)))
      ∙ ap (head_with_nmt (head_of ws)) (sym kept)

  pub ready_written : (r : ℕ) → ReadyRead r ws
  unfolding head_of
  ready_written r = whole (ReadyRead r) ws long refl

  dll_read : (n : ℕ) → DllRead n ws
  unfolding head_of
  dll_read n = whole (DllRead n) ws long refl

  pub dll_written : (s : DllCsState) → head_of (set ws at.dll (cs_state_number s)) ≡ head_with_dll (head_of ws) (record { state = s })
  dll_written s = dll_read (cs_state_number s) ∙ (λ i. head_with_dll (head_of ws) (record { state = dll_back s i }))

  counter_read : (k : CounterKind) (n l x : ℕ) → CounterRead k n l x ws
  unfolding head_of replaced
  counter_read Collision n l x = whole (CounterRead Collision n l x) ws long refl
  counter_read LossOfSoc n l x = whole (CounterRead LossOfSoc n l x) ws long refl
  counter_read LossOfSoa n l x = whole (CounterRead LossOfSoa n l x) ws long refl
  counter_read LossOfPreq n l x = whole (CounterRead LossOfPreq n l x) ws long refl
  counter_read SoCJitter n l x = whole (CounterRead SoCJitter n l x) ws long refl
  counter_read Crc n l x = whole (CounterRead Crc n l x) ws long refl
  counter_read HeartbeatTimeout n l x = whole (CounterRead HeartbeatTimeout n l x) ws long refl

  -- a counter with the threshold that was read
  pub counter_written_lem :
      (k : CounterKind) (c : ThresholdCounter) →
      c.threshold ≡ (counter_at ws (at.counter k)).threshold →
      head_of (counter_written ws k c) ≡ head_with_errors (head_of ws) (replaced k c (errors_of ws))
  counter_written_lem k c kept =
      counter_read k c.cumulative_cnt c.threshold_cnt c.crossings_cnt
      ∙ (λ i. head_with_errors (head_of ws) (replaced k (counter_of c.cumulative_cnt c.threshold_cnt (sym kept i) c.crossings_cnt) (errors_of ws)))

  pub links_written : (n : ℕ) → LinksRead n ws
  unfolding head_of
  links_written n = whole (LinksRead n) ws long refl

  pub levels_written_lem : head_of (levels_written ws (lowered (errors_of ws))) ≡ head_with_errors (head_of ws) (lowered (errors_of ws))
  unfolding head_of lowered
  levels_written_lem =
      whole (λ (ws : List ℕ). head_of (levels_written ws (lowered (errors_of ws))) ≡ head_with_errors (head_of ws) (lowered (errors_of ws))) ws long refl

  soc_read : (l h c g d a b : ℕ) → SocRead l h c g d a b ws
  unfolding head_of
  soc_read l h c g d a b = whole (SocRead l h c g d a b) ws long refl

  no_deadline_read : (l h c g : ℕ) → NoDeadlineRead l h c g ws
  unfolding head_of
  no_deadline_read l h c g = whole (NoDeadlineRead l h c g) ws long refl

  -- any watch
  pub soc_written_lem : (l : ℕ) (on : Bool) (d : Deadline) (changed : Bool) → head_of (soc_written ws (soc_watch l on d changed)) ≡ head_with_soc (head_of ws) (soc_watch l on d changed)
  soc_written_lem l on (At t) changed =
      soc_read _ _ _ _ 1 _ _
      ∙ (λ i. head_with_soc (head_of ws) (soc_watch (time_back l i) (yes_one on i) (At (time_back t i)) (yes_one changed i)))
  soc_written_lem l on Nothing changed =
      no_deadline_read _ _ _ _ ∙ (λ i. head_with_soc (head_of ws) (soc_watch (time_back l i) (yes_one on i) Nothing (yes_one changed i)))

  pub forgotten_written_lem : head_of (forgotten_written ws) ≡ forgetting (head_of ws)
  unfolding head_of
  forgotten_written_lem = whole (λ (ws : List ℕ). head_of (forgotten_written ws) ≡ forgetting (head_of ws)) ws long refl

  queue_read : (o n : ℕ) → QueueRead o n ws
  unfolding head_of
  queue_read o n = whole (QueueRead o n) ws long refl

  -- a queue with the capacity that was read
  pub queue_written_lem :
      (q : EmergencyQueue) →
      q.oldest < 256 →
      q.length < 256 →
      q.capacity ≡ word ws at.capacity % 256 →
      head_of (queue_written ws q) ≡ head_with_queue (head_of ws) q
  queue_written_lem q a b kept =
      let o : q.oldest % 256 ≡ q.oldest = omega arith in
      let n : q.length % 256 ≡ q.length = omega arith in
      queue_read q.oldest q.length ∙ (λ i. head_with_queue (head_of ws) (queue (o i) (n i) (sym kept i)))

  pub signal_written : (r n : ℕ) → SignalRead r n ws
  unfolding head_of
  signal_written r n = whole (SignalRead r n) ws long refl

  pub changed_written : ChangedRead ws
  unfolding head_of
  changed_written = whole ChangedRead ws long refl

  register_read : (n : ℕ) → RegisterRead n ws
  unfolding head_of
  register_read n = whole (RegisterRead n) ws long refl

  pub register_written : (n : ℕ) → n ≤ 255 → head_of (set ws at.register n) ≡ head_with_od (head_of ws) (with_register n (head_of ws).od)
  register_written n h =
      let e : n % 256 ≡ n = omega arith in
      register_read n ∙ ap (λ (n : ℕ). head_with_od (head_of ws) (with_register n (head_of ws).od)) e

  pub object_written_lem : (o : Object) (v : Option ℕ) → ObjectRead o v ws
  unfolding head_of
  object_written_lem CycleTime (Some n) = whole (ObjectRead CycleTime (Some n)) ws long refl
  object_written_lem CycleTime None = whole (ObjectRead CycleTime None) ws long refl
  object_written_lem Tolerance (Some n) = whole (ObjectRead Tolerance (Some n)) ws long refl
  object_written_lem Tolerance None = whole (ObjectRead Tolerance None) ws long refl

  pub statistic_written : (s : Statistic) (n : ℕ) → StatisticRead s n ws
  unfolding head_of
  statistic_written Counter1 n = whole (StatisticRead Counter1 n) ws long refl
  statistic_written Counter2 n = whole (StatisticRead Counter2 n) ws long refl
  statistic_written Counter3 n = whole (StatisticRead Counter3 n) ws long refl
  statistic_written Counter5 n = whole (StatisticRead Counter5 n) ws long refl

  history_read : (a b : ℕ) → HistoryRead a b ws
  unfolding head_of
  history_read a b = whole (HistoryRead a b) ws long refl

  pub history_written_lem :
      (h : ErrorHistory) → h.newest < 256 → h.count < 256 → head_of (history_written ws h) ≡ head_with_values (head_of ws) (head_of ws).od h
  history_written_lem h a b =
      let n : h.newest % 256 ≡ h.newest = omega arith in
      let c : h.count % 256 ≡ h.count = omega arith in
      history_read h.newest h.count ∙ (λ i. head_with_values (head_of ws) (head_of ws).od (error_history (n i) (c i)))

  earliest_read : (d a b : ℕ) → EarliestRead d a b ws
  unfolding head_of
  earliest_read d a b = whole (EarliestRead d a b) ws long refl

  no_earliest_read : NoEarliestRead ws
  unfolding head_of
  no_earliest_read = whole NoEarliestRead ws long refl

  pub earliest_written_lem : (d : Option ℕ) → head_of (earliest_written ws d) ≡ head_with_earliest (head_of ws) d
  earliest_written_lem (Some t) = earliest_read 1 _ _ ∙ (λ i. head_with_earliest (head_of ws) (Some (time_back t i)))
  earliest_written_lem None = no_earliest_read
