-- Each call's contract over plain variables: what the functions by value answered, and the words
-- that were written, give what the call must leave.
-- Assumes nothing.
use Prim.Native.Nat.{ℕ, ◌<◌}
use mathlib.Core.Path.{◌≡◌, refl, sym, ap, subst, ◌∙◌}
use mathlib.Core.Bool.{Bool, true, false, not}
use mathlib.Core.List.{List, [], ◌∷◌}
use native.Mathlib.Omega.{arith}
use lib.Dec.{ltb}
use lib.ListN.{length, set, length-set}
use Rattle.types.specs.Pick.{pick}
use Rattle.types.specs.States.{same_state}
use Rattle.types.specs.Events.{read_event}
use Rattle.types.specs.CsEvents.{read_cs_event}
use Rattle.types.specs.Errors.{read_error, reported}
use Rattle.types.specs.declared.nmt.states.NmtState.{NmtState}
use Rattle.types.specs.declared.nmt.states.NmtState.TheVariants.{NmtReadyToOperate}
use Rattle.types.specs.declared.nmt.events.NmtEvent.{NmtEvent}
use Rattle.std.specs.declared.result.Result.TheVariants.{Ok}
use Rattle.types.specs.declared.frame.cs_state_machine.DllCsEvent.{DllCsEvent}
use Rattle.types.specs.declared.frame.error.types.DllError.{DllError}
use Rattle.types.specs.declared.frame.error.types.DllErrors.{DllErrors}
use Rattle.types.specs.declared.frame.error.types.DllErrors.TheVariants as errors
use Rattle.types.specs.declared.frame.error.types.NmtAction.TheVariants as action
use Rattle.nmt.specs.Resets.{passed, states_entered, is_reset}
use Rattle.nmt.specs.Nmt as Nmt
use Rattle.nmt.specs.declared.cn_state_machine.CnNmtStateMachine.{CnNmtStateMachine}
use Rattle.nmt.specs.Nmt.{Move, Goes, Stays, Enables, Readies, Unexpected}
use Rattle.dll.specs.Dll as Dll
use Rattle.dll.specs.declared.cs_state_machine.DllAnswer.{DllAnswer}
use Rattle.counters.specs.Counters as Counters
use Rattle.counters.specs.declared.counters.CounterKind.{CounterKind}
use Rattle.counters.specs.declared.counters.ThresholdCounter.{ThresholdCounter}
use Rattle.counters.specs.Counters.{ThresholdCheck, HandledError, CompletedCycle, replied}
use Rattle.counters.specs.declared.counters.CnErrorCounters.{CnErrorCounters}
use Rattle.counters.proofs.ByKind.{counter_of_lem}
use Rattle.entries.specs.Queue.{handed_out, length_of}
use Rattle.entries.specs.declared.emergency_queue.EmergencyQueue.{EmergencyQueue}
use Rattle.entries.specs.Queue.{HandedOut}
use Rattle.entries.proofs.Lists.{handed_capacity}
use Rattle.head.specs.Head.{Head, head_with_errors, head_with_queue}
use Rattle.node.specs.Plain.{Call, nmt_event, dll_event, error, cycle_complete, withdraw, hand_out, arm, Answer, refused, taken, nmt_answer, dll_answer, error_answer, cycle_answer, hand_out_answer}
use Rattle.watched.specs.Watched.{in_time}
use Rattle.node.specs.Steps.{Test, tried, no_run}
use Rattle.node.specs.Refines.{left, Refines}
use Rattle.node.proofs.Laws.{Alone, forgetting_if, nmt_taken_lem, dll_taken_lem, error_taken_lem, cycle_taken_lem, withdraw_taken, withdraw_refused, arm_taken, hand_out_taken}
use Rattle.node.specs.declared.calls.NmtTaken.{NmtTaken}
use Rattle.counters.specs.declared.counters.ErrorTaken.{ErrorTaken}
use Rattle.head.specs.Places as at
use Rattle.head.specs.Words.{word, one, state_of, nmt_of, counter_at, errors_of, queue_of, head_of}
use Rattle.head.specs.Written.{nmt_written, levels_written, queue_written}
use Rattle.node.specs.InPlace.{InPlace, withdraw_words, reset_words, processed_words, Processed, nmt_words, dll_outcome_of, dll_event_words, DllProcessed, dll_words, effect_words, error_words, cycle_words, armed_words, arm_words, hand_out_words}
use Rattle.head.proofs.Laws.{nmt_written_lem, forgotten_written_lem, ready_written, dll_written, counter_written_lem, links_written, levels_written_lem, soc_written_lem, queue_written_lem}

-- a call that wrote the words `to`, which stand for the head k that the call is to leave
pub in_place :
    (ws : List ℕ) (c : Call) (a : Answer) (k : Head) (to known ws' : List ℕ) →
    Alone (head_of ws) c (left k a) →
    head_of to ≡ k →
    known ≡ to →
    ws' ≡ to →
    InPlace ws c a ws' known
in_place ws c a k to known ws' x e f w =
    let y : Alone (head_of ws) c (left (head_of ws') a) =
    subst (λ (g : Head). Alone (head_of ws) c (left g a)) (sym (ap head_of w ∙ e)) x in
    record { refines = y.0; places = y.1; words = w ∙ sym f }

-- the machine's part is written, and there are as many words as before
nmt_long : (ws : List ℕ) → length ws ≡ 60 → (m : CnNmtStateMachine) → length (nmt_written ws m) ≡ 60
nmt_long ws long m = length-set (set (set ws at.state _) at.enabled _) at.ready _ ∙ length-set (set ws at.state _) at.enabled _ ∙ length-set ws at.state _ ∙ long

-- a reset forgets, in words
reset_written : (b : Bool) (ws : List ℕ) → length ws ≡ 60 → head_of (reset_words b ws) ≡ forgetting_if b (head_of ws)
reset_written true ws long = forgotten_written_lem ws long
reset_written false ws long = refl

-- and one that wrote none
pub unwritten :
    (ws : List ℕ) (c : Call) (a : Answer) (known : List ℕ) →
    Alone (head_of ws) c (left (head_of ws) a) →
    known ≡ ws →
    InPlace ws c a ws known
unwritten ws c a known x f = record { refines = x.0; places = x.1; words = sym f }

-- what holds of both choices holds of the choice
pub picked : {A : Type 0} (P : A → Type 0) (b : Bool) (x y : A) → P x → P y → P (pick b x y)
picked P true x y p q = p
picked P false x y p q = q

-- what holds of each refusal and of what is taken holds of what comes of the tests
pub tried_by_lem :
    {A : Type 0} (P : A → Type 0) (ts : List (Test ℕ)) (refuse : ℕ → A) (accept : A) →
    ((r : ℕ) → P (refuse r)) → P accept → P (tried ts refuse accept)
tried_by_lem P [] refuse accept d a = a
tried_by_lem P (t ∷ ts) refuse accept d a =
    picked P t.holds (tried ts refuse accept) (refuse t.otherwise) (tried_by_lem P ts refuse accept d a) (d t.otherwise)

-- an NMT event keeps node, flags and timeout
abbrev pub Keeps : CnNmtStateMachine → CnNmtStateMachine → Type 0
Keeps m n = n ≡ Nmt.with m n.current_state n.ready_to_operate_enabled n.app_ready

entered_keeps : (m : CnNmtStateMachine) (ss : List NmtState) → Keeps m (Nmt.enter_all m ss)
unfolding Nmt.enter
entered_keeps m [] = refl
entered_keeps m (s ∷ ss) = entered_keeps (Nmt.enter m s) ss

applied_keeps : (m : CnNmtStateMachine) (e : NmtEvent) (d : Move) → Keeps m (Nmt.applied m e d).machine
unfolding Nmt.enter Nmt.applied
applied_keeps m e (Goes s) = refl
applied_keeps m e Stays = refl
applied_keeps m e (Enables s) = picked (Keeps m) m.app_ready _ _ refl refl
applied_keeps m e Readies = picked (Keeps m) m.ready_to_operate_enabled _ _ refl refl
applied_keeps m e Unexpected = refl

pub processed_keeps : (m : CnNmtStateMachine) (e : NmtEvent) → Keeps m (Nmt.processed m e).machine
unfolding Nmt.processed Nmt.reset_by
processed_keeps m e =
    picked (λ (o : Nmt.Outcome). Keeps m o.machine) (is_reset e) (Nmt.reset_by m e) (Nmt.applied m e (Nmt.row_of m.current_state e))
    (ap Nmt.unready (entered_keeps m (states_entered e))) (applied_keeps m e (Nmt.row_of m.current_state e))

-- an error keeps the threshold of its counter
pub check_keeps : (c : ThresholdCounter) → (Counters.after_error c).counter.threshold ≡ c.threshold
unfolding Counters.after_error
check_keeps c =
    picked (λ (t : ThresholdCheck). t.counter.threshold ≡ c.threshold) (Counters.reaches (Counters.incremented c)) _ _ refl refl

counted_counters :
    (k : CounterKind) (s : CnErrorCounters) (e : DllError) →
    (Counters.counted_error k s e).counters ≡ Counters.replaced k (Counters.after_error (Counters.counter k s)).counter s
unfolding Counters.counted_error
counted_counters k s e =
    picked (λ (r : HandledError). r.counters ≡ Counters.raised k s) (Counters.after_error (Counters.counter k s)).reached _ _ refl refl

module _ (ws : List ℕ) where
  counter_read : (k : CounterKind) → Counters.counter k (errors_of ws) ≡ counter_at ws (at.counter k)
  counter_read k = counter_of_lem (λ (k : CounterKind). counter_at ws (at.counter k)) (word ws at.links) k

  -- an error that counts: the answer by the check of its one counter
  pub count_answers :
      (k : CounterKind) (e : DllError) (r : Bool) →
      r ≡ (Counters.after_error (counter_at ws (at.counter k))).reached →
      ◌≡◌ {A = ErrorTaken} (record { action = pick r action.ResetCommunication action.None; signal = r; logged = pick r (errors.One e) errors.None })
      (replied (Counters.counted_error k (errors_of ws) e))
  unfolding Counters.counted_error
  count_answers k e r h =
      by r (Counters.raised k (errors_of ws))
      ∙ ap (λ (b : Bool). replied (pick b (Counters.crossed_answer (Counters.raised k (errors_of ws)) e) (Counters.unsignalled (Counters.raised k (errors_of ws)))))
      (h ∙ ap (λ (c : ThresholdCounter). (Counters.after_error c).reached) (sym (counter_read k)))
    where
      by :
          (b : Bool) (s : CnErrorCounters) →
          ◌≡◌ {A = ErrorTaken} (record { action = pick b action.ResetCommunication action.None; signal = b; logged = pick b (errors.One e) errors.None })
          (replied (pick b (Counters.crossed_answer s e) (Counters.unsignalled s)))
      by true s = refl
      by false s = refl

  -- an error by its effect
  pub handled_by :
      (e : DllError) (x : Counters.Effect) (r : ErrorTaken) (ws' : List ℕ) →
      Counters.effect e ≡ x →
      r ≡ replied (Counters.handled_as x (errors_of ws) e) →
      ws' ≡ effect_words ws x →
      (r ≡ replied (Counters.handled (errors_of ws) e)) × (ws' ≡ effect_words ws (Counters.effect e))
  unfolding Counters.handled
  handled_by e x r ws' h a b =
      (a ∙ ap (λ (x : Counters.Effect). replied (Counters.handled_as x (errors_of ws) e)) (sym h), b ∙ ap (effect_words ws) (sym h))

  module _ (long : length ws ≡ 60) where
    pub effect_written :
        (x : Counters.Effect) (e : DllError) →
        head_of (effect_words ws x) ≡ head_with_errors (head_of ws) (Counters.handled_as x (errors_of ws) e).counters
    unfolding head_of
    effect_written (Counters.counts k) e =
        let c : ThresholdCounter = (Counters.after_error (counter_at ws (at.counter k))).counter in
        counter_written_lem ws long k c (check_keeps (counter_at ws (at.counter k)))
        ∙ ap (λ (c : ThresholdCounter). head_with_errors (head_of ws) (Counters.replaced k (Counters.after_error c).counter (errors_of ws))) (sym (counter_read k))
        ∙ ap (head_with_errors (head_of ws)) (sym (counted_counters k (errors_of ws) e))
    effect_written Counters.loses_link e = links_written ws long (Counters.add_top (word ws at.links) 1)
    effect_written Counters.is_logged e = refl
    effect_written Counters.nothing e = refl

  -- a DLL event, by the machine's answer
  pub dll_processed :
      (e : DllCsEvent) (expected : Bool) (a : DllAnswer) (ws' : List ℕ) →
      Dll.cs_outcome a ≡ dll_outcome_of ws e expected →
      ws' ≡ set ws at.dll (Dll.cs_state_number a.machine.state) →
      DllProcessed ws e expected a.errors ws'
  dll_processed e expected a ws' o w =
      record {
        errors = ap (λ (o : Dll.CsOutcome). o.errors) o;
        words = w ∙ ap (λ (o : Dll.CsOutcome). set ws at.dll (Dll.cs_state_number o.state)) o;
      }

  -- the calls
  pub withdraw_no : state_of (word ws at.state) ≡ NmtReadyToOperate → InPlace ws withdraw (refused 8) ws (withdraw_words ws)
  unfolding head_of
  withdraw_no e =
      unwritten ws withdraw _ _ (withdraw_refused (head_of ws) e)
      (ap (λ (s : NmtState). pick (same_state s NmtReadyToOperate) ws (set ws at.ready 0)) e)

  module _ (long : length ws ≡ 60) (ws' : List ℕ) where
    pub withdraw_yes :
        same_state (state_of (word ws at.state)) NmtReadyToOperate ≡ false →
        ws' ≡ set ws at.ready (one false) →
        InPlace ws withdraw taken ws' (withdraw_words ws)
    unfolding head_of
    withdraw_yes e w =
        in_place ws withdraw taken _ (set ws at.ready 0) _ ws' (withdraw_taken (head_of ws) (ap not e)) (ready_written ws long 0)
        (ap (λ (b : Bool). pick b ws (set ws at.ready 0)) e) w

    pub nmt_yes :
        (n : ℕ) (e : NmtEvent) (t : NmtTaken) →
        read_event n ≡ Ok e →
        Processed ws e t ws' →
        InPlace ws (nmt_event n) (nmt_answer (reported t.errors) (passed t.reset)) ws' (nmt_words ws (read_event n))
    unfolding head_of
    nmt_yes n e t r p =
        let m = (Nmt.processed (nmt_of ws) e).machine in
        in_place ws (nmt_event n) _ _ (processed_words ws e) _ ws' (nmt_taken_lem (head_of ws) n e _ _ r p.errors p.reset)
        (reset_written (is_reset e) (nmt_written ws m) (nmt_long ws long m)
        ∙ ap (forgetting_if (is_reset e)) (nmt_written_lem ws long m (processed_keeps (nmt_of ws) e)))
        (ap (nmt_words ws) r) p.words

    pub dll_yes :
        (n : ℕ) (expected : Bool) (e : DllCsEvent) (es : DllErrors) →
        read_cs_event n ≡ Ok e →
        DllProcessed ws e expected es ws' →
        InPlace ws (dll_event n expected) (dll_answer (reported es)) ws' (dll_words ws expected (read_cs_event n))
    unfolding head_of
    dll_yes n expected e es r p =
        in_place ws (dll_event n expected) _ _ (dll_event_words ws e expected) _ ws'
        (dll_taken_lem (head_of ws) n expected e es r p.errors)
        (dll_written ws long (dll_outcome_of ws e expected).state) (ap (dll_words ws expected) r) p.words

    pub error_yes :
        (kind a b : ℕ) (e : DllError) (t : ErrorTaken) →
        read_error kind a b ≡ Ok e →
        t ≡ replied (Counters.handled (errors_of ws) e) →
        ws' ≡ effect_words ws (Counters.effect e) →
        InPlace ws (error kind a b) (error_answer t.action t.signal (reported t.logged)) ws' (error_words ws (read_error kind a b))
    unfolding head_of Counters.handled
    error_yes kind a b e t r o w =
        rw o
        (in_place ws (error kind a b) _ _ (effect_words ws (Counters.effect e)) _ ws'
        (error_taken_lem (head_of ws) kind a b e (Counters.handled (errors_of ws) e) r refl) (effect_written long (Counters.effect e) e) (ap (error_words ws) r) w)

    pub cycle_yes :
        (r : CompletedCycle) →
        r ≡ Counters.completed (errors_of ws) →
        ws' ≡ levels_written ws r.counters →
        InPlace ws cycle_complete (cycle_answer r.cleared) ws' (cycle_words ws)
    unfolding head_of Counters.completed
    cycle_yes r o w =
        let s : r.counters ≡ Counters.lowered (errors_of ws) = ap (λ (r : CompletedCycle). r.counters) o in
        in_place ws cycle_complete _ _ (cycle_words ws) _ ws' (cycle_taken_lem (head_of ws) r o)
        (levels_written_lem ws long ∙ ap (head_with_errors (head_of ws)) (sym s)) refl (w ∙ ap (levels_written ws) s)

    pub arm_yes :
        (t : ℕ) → in_time t ≡ true → ws' ≡ armed_words ws t → InPlace ws (arm t) taken ws' (arm_words ws t)
    unfolding head_of
    arm_yes t e w =
        in_place ws (arm t) taken _ (armed_words ws t) _ ws' (arm_taken (head_of ws) t _ e refl) (soc_written_lem ws long _ _ _ _)
        (ap (λ (b : Bool). pick b (armed_words ws t) ws) e) w

    pub hand_out_yes :
        (q : List ℕ) (r : HandedOut) →
        r ≡ handed_out q (queue_of ws) →
        ws' ≡ queue_written ws r.queue →
        ((m : List ℕ) → Refines (head_of ws) q m hand_out (left (head_of ws') (hand_out_answer r.entry)) q m no_run)
        × (ws' ≡ hand_out_words ws q)
        × (head_of ws' ≡ head_with_queue (head_of ws) (handed_out q (head_of ws).queue).queue)
    unfolding head_of handed_out
    hand_out_yes q r o w =
        let p : EmergencyQueue = queue_of ws in
        let oldest : (handed_out q p).queue.oldest < 256 =
        picked (λ (r : HandedOut). r.queue.oldest < 256) (ltb 0 (length_of p)) _ _ (omega arith) (omega arith) in
        let length : (handed_out q p).queue.length < 256 =
        picked (λ (r : HandedOut). r.queue.length < 256) (ltb 0 (length_of p)) _ _ (omega arith) (omega arith) in
        let to : head_of ws' ≡ head_with_queue (head_of ws) r.queue =
        ap head_of (w ∙ ap (λ (r : HandedOut). queue_written ws r.queue) o)
        ∙ queue_written_lem ws long (handed_out q p).queue oldest length (handed_capacity q p)
        ∙ ap (λ (r : HandedOut). head_with_queue (head_of ws) r.queue) (sym o) in
        let x = hand_out_taken (head_of ws) q r o in (
          λ m. subst (λ (g : Head). Refines (head_of ws) q m hand_out (left g (hand_out_answer r.entry)) q m no_run) (sym to) (x.0 m),
          w ∙ ap (λ (r : HandedOut). queue_written ws r.queue) o,
          to ∙ ap (λ (r : HandedOut). head_with_queue (head_of ws) r.queue) o,
        )
