-- Each call's refinement of the plain head, over plain variables: what the parts below answered
-- gives what the call must leave.
-- Assumes nothing.
use Prim.Native.Nat.{ℕ, ◌+◌, ◌<◌, ◌≤◌, min}
use mathlib.Core.Path.{◌≡◌, refl, sym, ap, ◌∙◌}
use mathlib.Core.Bool.{Bool, true, false, not}
use mathlib.Core.List.{List, [], ◌∷◌}
use lib.Dec.{ltb}
use borrow.Author.Tests.{lt-ltb, le-ltb}
use Rattle.types.specs.Pick.{pick}
use Rattle.types.specs.States.{same_state}
use Rattle.types.specs.Events.{read_event}
use Rattle.types.specs.CsEvents.{read_cs_event}
use Rattle.types.specs.Errors.{read_error, reported}
use Rattle.types.specs.declared.nmt.states.NmtState.{NmtState}
use Rattle.types.specs.declared.nmt.states.NmtState.TheVariants.{NmtReadyToOperate}
use Rattle.types.specs.declared.nmt.events.NmtEvent.{NmtEvent}
use Rattle.std.specs.declared.result.Result.TheVariants.{Ok}
use Rattle.std.specs.declared.option.Option.{Option}
use Rattle.std.specs.declared.option.Option.TheVariants.{Some, None}
use Rattle.head.specs.declared.state.Deadline.TheVariants.{At, Nothing}
use Rattle.types.specs.declared.frame.cs_state_machine.DllCsEvent.{DllCsEvent}
use Rattle.types.specs.declared.frame.error.types.DllError.{DllError}
use Rattle.nmt.specs.Resets.{Passed, is_reset}
use Rattle.nmt.specs.Nmt as Nmt
use Rattle.dll.specs.Dll as Dll
use Rattle.types.specs.declared.frame.error.types.DllErrors.{DllErrors}
use Rattle.counters.specs.Counters.{handled, completed, HandledError, CompletedCycle}
use Rattle.counters.specs.Marks.{error_marks, cycle_marks}
use Rattle.entries.specs.Ring.{nth, rest}
use Rattle.entries.specs.Queue as Queue
use Rattle.entries.specs.History as History
use Rattle.entries.specs.Queue.{HandedOut}
use Rattle.entries.specs.declared.error_history.ErrorHistory.{ErrorHistory}
use Rattle.entries.proofs.Lists.{handed_first, rest_waits, handed_capacity, history_loaded}
use Rattle.head.specs.Head.{Head, forgetting, head_with_nmt, head_with_dll, head_with_errors, head_with_soc, head_with_values, head_with_queue, soc_watch}
use Rattle.head.specs.declared.state.SocWatch.{SocWatch}
use Rattle.head.specs.declared.state.Dictionary.{Dictionary}
use Rattle.node.specs.declared.load.DictionaryUpdate.{DictionaryUpdate}
use Rattle.node.specs.Plain.{Plain, Step, Call, nmt_event, dll_event, error, cycle_complete, withdraw, hand_out, load, arm, refused, taken, nmt_answer, dll_answer, error_answer, cycle_answer, hand_out_answer}
use Rattle.watched.specs.Watched.{in_time, Run}
use Rattle.node.specs.Steps.{forgets, must, tried, plain_of, with_nmt, with_soc, no_run, answers, declines, nmt_taken, nmt_step, dll_outcome, dll_taken, dll_step, error_taken, error_step, cycle_taken, withdrawn, hand_out_step, updated, updated_history, cycle_of, limit_of, armed}
use Rattle.node.specs.Run.{step}
use Rattle.node.specs.Refines.{plain, Left, left, history_update, loaded_places, loaded_memory, Refines, SamePlaces}

-- what a call left is what its step, worked out, leaves
pub refined :
    (h : Head) (q m : List ℕ) (c : Call) (o : Left) (q' m' : List ℕ) (l : Run) (t : Step) →
    step (plain h q m) c ≡ t →
    plain o.head q' m' ≡ t.head →
    o.answer ≡ t.answer →
    l ≡ t.lent →
    Refines h q m c o q' m' l
refined h q m c o q' m' l t s a b d =
    record {
      head = a ∙ sym (ap (λ (t : Step). t.head) s);
      answer = b ∙ sym (ap (λ (t : Step). t.answer) s);
      lent = d ∙ sym (ap (λ (t : Step). t.lent) s);
    }

-- the contract of a call that is not lent the queue or the history
abbrev pub Alone : Head → Call → Left → Type 0
Alone h c o = ((q m : List ℕ) → Refines h q m c o q m no_run) × SamePlaces h o.head

pub same_places : (h : Head) → SamePlaces h h
same_places h = record { queue = refl; history = refl }

-- a reset forgets
abbrev pub forgetting_if : Bool → Head → Head
forgetting_if b h = pick b (forgetting h) h

plain_forgets : (b : Bool) (h : Head) (q m : List ℕ) → plain (forgetting_if b h) q m ≡ pick b (forgets (plain h q m)) (plain h q m)
plain_forgets true h q m = refl
plain_forgets false h q m = refl

forgets_places : (b : Bool) (h : Head) → SamePlaces h (forgetting_if b h)
forgets_places true h = record { queue = refl; history = refl }
forgets_places false h = record { queue = refl; history = refl }

pub nmt_taken_lem :
    (h : Head) (n : ℕ) (e : NmtEvent) (es : List DllError) (t : Passed) →
    read_event n ≡ Ok e →
    es ≡ (Nmt.processed h.nmt e).errors →
    t ≡ (Nmt.processed h.nmt e).reset →
    Alone h (nmt_event n) (left (forgetting_if (is_reset e) (head_with_nmt h (Nmt.processed h.nmt e).machine)) (nmt_answer es t))
nmt_taken_lem h n e es t r x y = (
  λ q m.
      let p : Plain = plain h q m in
      let g : Head = head_with_nmt h (Nmt.processed h.nmt e).machine in
      refined h q m (nmt_event n) _ q m no_run (nmt_taken p e (Nmt.processed h.nmt e)) (ap (nmt_step p) r)
      (plain_forgets (is_reset e) g q m) (λ i. nmt_answer (x i) (y i)) refl,
  let s = forgets_places (is_reset e) (head_with_nmt h (Nmt.processed h.nmt e).machine) in record { queue = s.queue; history = s.history },
)

pub dll_taken_lem :
    (h : Head) (n : ℕ) (expected : Bool) (e : DllCsEvent) (es : DllErrors) →
    read_cs_event n ≡ Ok e →
    reported es ≡ (Dll.cs_processed h.dll.state e h.nmt.current_state expected).errors →
    Alone h (dll_event n expected)
    (left (head_with_dll h (record { state = (Dll.cs_processed h.dll.state e h.nmt.current_state expected).state })) (dll_answer (reported es)))
dll_taken_lem h n expected e es r o = (
  λ q m.
      let p : Plain = plain h q m in
      refined h q m (dll_event n expected) _ q m no_run (dll_taken p (dll_outcome p e expected)) (ap (dll_step p expected) r) refl (ap dll_answer o) refl,
  record { queue = refl; history = refl },
)

pub error_taken_lem :
    (h : Head) (kind a b : ℕ) (e : DllError) (r : HandledError) →
    read_error kind a b ≡ Ok e →
    r ≡ handled h.errors e →
    Alone h (error kind a b)
    (left (head_with_errors h r.counters) (error_answer r.action r.signal (reported r.logged)))
error_taken_lem h kind a b e r t s = (
  λ q m.
      let p : Plain = plain h q m in
      refined h q m (error kind a b) _ q m no_run (error_taken p r (error_marks h.errors e))
      (ap (error_step p) t ∙ ap (λ (r : HandledError). error_taken p r (error_marks h.errors e)) (sym s)) refl refl refl,
  record { queue = refl; history = refl },
)

pub cycle_taken_lem :
    (h : Head) (r : CompletedCycle) →
    r ≡ completed h.errors →
    Alone h cycle_complete (left (head_with_errors h r.counters) (cycle_answer r.cleared))
cycle_taken_lem h r s = (
  λ q m.
      let p : Plain = plain h q m in
      refined h q m cycle_complete _ q m no_run (cycle_taken p r (cycle_marks h.errors))
      (ap (λ (r : CompletedCycle). cycle_taken p r (cycle_marks h.errors)) (sym s)) refl refl refl,
  record { queue = refl; history = refl },
)

-- withdraw: refused at ReadyToOperate, taken elsewhere
abbrev withdraw_by : Plain → NmtState → Step
withdraw_by p s =
    tried (must (not (same_state s NmtReadyToOperate)) 8 ∷ []) (declines p no_run) (answers (with_nmt p (withdrawn p.nmt)) taken no_run)

pub withdraw_refused :
    (h : Head) → h.nmt.current_state ≡ NmtReadyToOperate → Alone h withdraw (left h (refused 8))
withdraw_refused h e = (
  λ q m. refined h q m withdraw _ q m no_run (declines (plain h q m) no_run 8) (ap (withdraw_by (plain h q m)) e) refl refl refl,
  same_places h,
)

pub withdraw_taken :
    (h : Head) →
    not (same_state h.nmt.current_state NmtReadyToOperate) ≡ true →
    Alone h withdraw (left (head_with_nmt h (withdrawn h.nmt)) taken)
withdraw_taken h e = (
  λ q m.
      let p : Plain = plain h q m in
      let t : Step = answers (with_nmt p (withdrawn p.nmt)) taken no_run in
      refined h q m withdraw _ q m no_run t (ap (λ (b : Bool). pick b t (declines p no_run 8)) e) refl refl refl,
  record { queue = refl; history = refl },
)

-- arm: the watch armed
pub arm_taken :
    (h : Head) (t : ℕ) (s : SocWatch) →
    in_time t ≡ true →
    s ≡ armed h.soc h.od t →
    Alone h (arm t) (left (head_with_soc h s) taken)
arm_taken h t s e a = (
  λ q m.
      let p : Plain = plain h q m in
      refined h q m (arm t) _ q m no_run (answers (with_soc p s) taken no_run)
      (ap (λ (b : Bool). pick b (answers (with_soc p (armed p.soc p.od t)) taken no_run) (declines p no_run 5)) e
      ∙ ap (λ (s : SocWatch). answers (with_soc p s) taken no_run) (sym a))
      refl refl refl,
  record { queue = refl; history = refl },
)

-- hand out: the queue's law
pub hand_out_taken :
    (h : Head) (q : List ℕ) (r : HandedOut) →
    r ≡ Queue.handed_out q h.queue →
    ((m : List ℕ) → Refines h q m hand_out (left (head_with_queue h r.queue) (hand_out_answer r.entry)) q m no_run)
    × (r.queue ≡ (Queue.handed_out q h.queue).queue)
    × (h.history ≡ h.history)
hand_out_taken h q r e =
    let capacity : Queue.capacity_of r.queue ≡ Queue.capacity_of h.queue =
    ap (λ (r : HandedOut). Queue.capacity_of r.queue) e ∙ ap (λ (n : ℕ). min n 32) (handed_capacity q h.queue) in
    let waits : Queue.waiting q r.queue ≡ rest (Queue.waiting q h.queue) =
    ap (λ (r : HandedOut). Queue.waiting q r.queue) e ∙ rest_waits q h.queue in
    let first : r.entry ≡ nth (Queue.waiting q h.queue) 0 =
    ap (λ (r : HandedOut). r.entry) e ∙ handed_first q h.queue in (
      λ m.
          refined h q m hand_out _ q m no_run (hand_out_step (plain h q m)) refl
          (λ i. plain_of h.nmt h.dll.state h.errors h.soc h.od (capacity i) (waits i) (History.history m h.history) h.earliest)
          (ap hand_out_answer first) refl,
      ap (λ (r : HandedOut). r.queue) e,
      refl,
    )

-- load: the values, and the history where it is named
module _ (h : Head) (m : List ℕ) (values : DictionaryUpdate) (o : Dictionary) (e : o ≡ updated h.od values) where
  pub load_taken :
      (m' : List ℕ) (es : Option (List ℕ)) (k : ErrorHistory) →
      k ≡ loaded_places es h.history →
      m' ≡ loaded_memory es m →
      ((q : List ℕ) → Refines h q m (load values (history_update es)) (left (head_with_values h o k) taken) q m' no_run)
      × (h.queue ≡ h.queue)
      × (k ≡ loaded_places es h.history)
      × (m' ≡ loaded_memory es m)
  load_taken m' es k places bytes = (
    λ q.
        let lists : History.history m' k ≡ updated_history (History.history m h.history) (history_update es) =
        listed_by es m' k places bytes in
        refined h q m (load values (history_update es)) _ q m' no_run (step (plain h q m) (load values (history_update es))) refl
        (λ i. plain_of h.nmt h.dll.state h.errors h.soc (e i) (Queue.capacity_of h.queue) (Queue.waiting q h.queue) (lists i) h.earliest)
        refl refl,
    refl,
    places,
    bytes,
  )
    where
      listed_by :
          (es : Option (List ℕ)) (m' : List ℕ) (k : ErrorHistory) →
          k ≡ loaded_places es h.history →
          m' ≡ loaded_memory es m →
          History.history m' k ≡ updated_history (History.history m h.history) (history_update es)
      listed_by (Some s) m' k a b = rw (a, b) (history_loaded m s)
      listed_by None m' k a b = rw (a, b)

-- the watch armed, by whether there is a cycle
module _ (s : SocWatch) (o : Dictionary) (t y : ℕ) (e : y ≡ cycle_of o) where
  pub armed_on : 0 < y → (l : ℕ) → l ≡ limit_of o → soc_watch t (ltb 0 y) (At (t + l)) s.error_status_changed ≡ armed s o t
  unfolding armed
  armed_on h l f = rw (f, ← e, lt-ltb 0 y h)

  pub armed_off : y ≤ 0 → soc_watch t (ltb 0 y) Nothing s.error_status_changed ≡ armed s o t
  unfolding armed
  armed_off h = rw (← e, le-ltb 0 y h)
