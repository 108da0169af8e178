-- How a head came to ReadyToOperate: each call, from one computed test over every state, event and flag; then any list.
-- Assumes nothing.
use mathlib.Core.Path.{◌≡◌, refl, sym, ap, subst, ◌∙◌}
use mathlib.Core.Bool.{Bool, true, false, not, true≢false}
use mathlib.Core.List.{List, [], ◌∷◌, ◌++◌}
use mathlib.Core.Logic.{◌⊎◌, inl, inr}
use borrow.Author.Tests.{eqb-true, eq-eqb}
use Rattle.types.specs.Pick.{pick, both, either}
use Rattle.types.specs.States.{state_number, same_state}
use Rattle.types.specs.Events.{event_number, same_event, read_event}
use Rattle.types.specs.declared.nmt.states.NmtState.{NmtState}
use Rattle.types.specs.declared.nmt.states.NmtState.TheVariants.{NmtGsInitialising, NmtPreOperational2, NmtReadyToOperate}
use Rattle.types.specs.declared.nmt.events.NmtEvent.{NmtEvent}
use Rattle.types.specs.declared.nmt.events.NmtEvent.TheVariants.{Error, Timeout, CnConfigurationComplete}
use Rattle.std.specs.declared.result.Result.{Result}
use Rattle.std.specs.declared.result.Result.TheVariants.{Ok}
use Rattle.types.specs.declared.refusals.Refusal.{Refusal}
use Rattle.types.proofs.Cases.{NmtEvents}
use Rattle.types.proofs.RoundTrips.{events_faithful}
use Rattle.types.proofs.Tests.{both_first, both_second, either_cases}
use Rattle.nmt.specs.Resets.{is_reset, states_entered}
use Rattle.nmt.specs.Nmt.{enter, row_of, applied, reset_by, processed}
use Rattle.nmt.specs.declared.cn_state_machine.CnNmtStateMachine.{CnNmtStateMachine}
use Rattle.head.proofs.Laws.{state_is}
use Rattle.node.specs.Plain.{Plain, Call, nmt_event, dll_event, error, cycle_complete, withdraw, heard, hand_out, load, arm, tick, range, margin, add, remove, next_due, frame, Start, taken, EventMade}
use Rattle.node.specs.Steps.{no_run, answers, declines, with_nmt, withdrawn, fresh}
use Rattle.node.specs.Run.{step, step_all}
use Rattle.trace.specs.Tally.{Orders, orders, asks, in_pre_operational2}
use Rattle.trace.specs.Visits.{nmt_state, Stays, InVisit, Asking, Asked, visiting, Enabled, at_once, later, is_withdraw, is_taken, NoneWithdrawn, resets, NoReset, after_reset, ReadyWord, since}
use Rattle.trace.proofs.Modes.{implies, always, every, always_at, every_at, follows}
use Rattle.trace.proofs.Ticking.{InTick}
use Rattle.trace.proofs.Moves.{Moves, moves}

pub is_state : (s t : NmtState) → s ≡ t → same_state s t ≡ true
is_state s t e = eq-eqb (state_number s) (state_number t) (ap state_number e)

-- one call more, at the end of a list
pub again : (xs ys zs : List Call) → (xs ++ ys) ++ zs ≡ xs ++ (ys ++ zs)
again [] ys zs = refl
again (x ∷ xs) ys zs = ap (λ (l : List Call). x ∷ l) (again xs ys zs)

at_end : (xs : List Call) → xs ++ [] ≡ xs
at_end [] = refl
at_end (x ∷ xs) = ap (λ (l : List Call). x ∷ l) (at_end xs)

pub run_then : (p : Plain) (xs : List Call) (c : Call) → step_all p (xs ++ (c ∷ [])) ≡ (step (step_all p xs) c).head
unfolding step_all
run_then p [] c = refl
run_then p (x ∷ xs) c = run_then (step p x).head xs c

stays_then : (s : NmtState) (p : Plain) (xs : List Call) (c : Call) → Stays s p xs → nmt_state (step (step_all p xs) c).head ≡ s → Stays s p (xs ++ (c ∷ []))
unfolding Stays step_all
stays_then s p [] c h e = (e, tt)
stays_then s p (x ∷ xs) c h e = (h.0, stays_then s (step p x).head xs c h.1 e)

run_on : (p : Plain) (xs ys : List Call) → step_all p (xs ++ ys) ≡ step_all (step_all p xs) ys
unfolding step_all
run_on p [] ys = refl
run_on p (x ∷ xs) ys = run_on (step p x).head xs ys

-- the machine: at ReadyToOperate, enabled in PreOperational2; and outside of both, not enabled
abbrev ready : CnNmtStateMachine → Bool
ready m = same_state m.current_state NmtReadyToOperate

abbrev enabling : CnNmtStateMachine → Bool
enabling m = both (in_pre_operational2 m) m.ready_to_operate_enabled

abbrev calm : CnNmtStateMachine → Bool
calm m = either (in_pre_operational2 m) (either (ready m) (not m.ready_to_operate_enabled))

-- an NMT event: enabled comes of an enable or StartNode in the same visit, and ReadyToOperate of that or of enabled
abbrev asked_now : CnNmtStateMachine → NmtEvent → Bool
asked_now m e = both (in_pre_operational2 m) (asks e)

abbrev comes : CnNmtStateMachine → NmtEvent → CnNmtStateMachine → Bool
comes m e m' =
    both (calm m')
    (both (implies (enabling m') (either (enabling m) (asked_now m e))) (implies (ready m') (either (ready m) (either (enabling m) (asked_now m e)))))

abbrev event_comes : NmtEvent → CnNmtStateMachine → Orders → Bool
event_comes e m w = implies (calm m) (comes m e (processed m e).machine)

event_test : (m : CnNmtStateMachine) → always NmtEvents (λ e. every (event_comes e) m) ≡ true
unfolding processed reset_by applied enter row_of is_reset states_entered
event_test m = refl

event_came : (m : CnNmtStateMachine) (e : NmtEvent) → calm m ≡ true → comes m e (processed m e).machine ≡ true
event_came m e =
    follows (calm m) (comes m e (processed m e).machine)
    (every_at (event_comes e) m (orders false false) (always_at NmtEvents (λ e. every (event_comes e) m) (event_test m) e))

-- of a call c on the head p, whose machine is m after it
record Came (p : Plain) (c : Call) (m : CnNmtStateMachine) : Type 0 where
  calms : calm m ≡ true
  opens : enabling m ≡ true → (enabling p.nmt ≡ true) ⊎ Asking p c
  readies : ready m ≡ true → (ready p.nmt ≡ true) ⊎ ((enabling p.nmt ≡ true) ⊎ Asking p c)

module _ (p : Plain) (c : Call) (h : calm p.nmt ≡ true) where
  by_event : (e : NmtEvent) → (asked_now p.nmt e ≡ true → Asking p c) → Came p c (processed p.nmt e).machine
  by_event e f =
      let m = p.nmt in
      let m' = (processed p.nmt e).machine in
      let t = event_came p.nmt e h in
      let both_of = both_second (calm m') _ t in
      record {
        calms = both_first (calm m') _ t;
        opens = λ o. asked (enabling m) (either_cases (enabling m) (asked_now m e) (follows (enabling m') _ (both_first _ _ both_of) o));
        readies =
            λ r.
            entered (either_cases (ready m) (either (enabling m) (asked_now m e)) (follows (ready m') _ (both_second (implies (enabling m') (either (enabling m) (asked_now m e))) _ both_of) r));
      }
    where
      asked : (a : Bool) → (a ≡ true) ⊎ (asked_now p.nmt e ≡ true) → (a ≡ true) ⊎ Asking p c
      asked a (inl x) = inl x
      asked a (inr x) = inr (f x)

      entered :
          (ready p.nmt ≡ true) ⊎ (either (enabling p.nmt) (asked_now p.nmt e) ≡ true) →
          (ready p.nmt ≡ true) ⊎ ((enabling p.nmt ≡ true) ⊎ Asking p c)
      entered (inl x) = inl x
      entered (inr x) = inr (asked (enabling p.nmt) (either_cases (enabling p.nmt) (asked_now p.nmt e) x))

  stays : Came p c p.nmt
  stays = record { calms = h; opens = λ o. inl o; readies = λ r. inl r }

  unasked : (e : NmtEvent) → asks e ≡ false → asked_now p.nmt e ≡ true → Asking p c
  unasked e a x = absurd (true≢false (sym (both_second (in_pre_operational2 p.nmt) (asks e) x) ∙ a))

  in_tick : {e : EventMade} {m : CnNmtStateMachine} → InTick p.nmt e m → Came p c m
  in_tick InTick.still = stays
  in_tick InTick.fails = by_event Error (unasked Error refl)
  in_tick InTick.times_out_lem = by_event Timeout (unasked Timeout refl)

  came : {e : EventMade} {m : CnNmtStateMachine} → (step p c).event ≡ e → Moves p c e m → Came p c m
  came y Moves.same = stays
  came y Moves.takes_back = record { calms = h; opens = λ o. inl o; readies = λ r. inl r }
  came y (Moves.orders e) =
      by_event e (λ a.
      record {
        event = e;
        given = y;
        passes = both_second (in_pre_operational2 p.nmt) (asks e) a;
        visit = state_is (nmt_state p) NmtPreOperational2 (both_first (in_pre_operational2 p.nmt) (asks e) a);
      })
  came y (Moves.ticks t) = in_tick t

-- after some calls from the head p
record Known (p : Plain) (cs : List Call) : Type 0 where
  calms : calm (step_all p cs).nmt ≡ true
  asked : enabling (step_all p cs).nmt ≡ true → Asked p cs
  entered : ready (step_all p cs).nmt ≡ true → Enabled p cs

asked_then : (p : Plain) {cs : List Call} → Asked p cs → (c : Call) → nmt_state (step (step_all p cs) c).head ≡ NmtPreOperational2 → Asked p (cs ++ (c ∷ []))
asked_then p (visiting before a visit x s) c e =
    subst (Asked p) (sym (again before (a ∷ visit) (c ∷ [])))
    (visiting before a (visit ++ (c ∷ [])) x
    (stays_then NmtPreOperational2 (step_all p before) (a ∷ visit) c s
    (ap (λ (g : Plain). nmt_state (step g c).head) (sym (run_on p before (a ∷ visit))) ∙ e)))

enabled_then : (p : Plain) {cs : List Call} → Enabled p cs → (c : Call) → nmt_state (step (step_all p cs) c).head ≡ NmtReadyToOperate → Enabled p (cs ++ (c ∷ []))
enabled_then p (at_once before a after x s) c e =
    subst (Enabled p) (sym (again before (a ∷ after) (c ∷ [])))
    (at_once before a (after ++ (c ∷ [])) x
    (stays_then NmtReadyToOperate (step_all p before) (a ∷ after) c s
    (ap (λ (g : Plain). nmt_state (step g c).head) (sym (run_on p before (a ∷ after))) ∙ e)))
enabled_then p (later {visited = visited} k a after s) c e =
    subst (Enabled p) (sym (again visited (a ∷ after) (c ∷ [])))
    (later k a (after ++ (c ∷ []))
    (stays_then NmtReadyToOperate (step_all p visited) (a ∷ after) c s
    (ap (λ (g : Plain). nmt_state (step g c).head) (sym (run_on p visited (a ∷ after))) ∙ e)))

known_then : (p : Plain) (cs : List Call) (c : Call) → Known p cs → Known p (cs ++ (c ∷ []))
unfolding Stays
known_then p cs c k =
    let g = step_all p cs in
    let z = came g c k.calms refl (moves g c) in
    let on : (step_all p (cs ++ (c ∷ []))).nmt ≡ (step g c).head.nmt = ap (λ (g : Plain). g.nmt) (run_then p cs c) in
    record {
      calms = ap calm on ∙ z.calms;
      asked = λ o. visits (sym (ap enabling on) ∙ o) (z.opens (sym (ap enabling on) ∙ o));
      entered = λ r. enters (sym (ap ready on) ∙ r) (z.readies (sym (ap ready on) ∙ r));
    }
  where
    g₀ : Plain
    g₀ = step_all p cs

    visits : enabling (step g₀ c).head.nmt ≡ true → (enabling g₀.nmt ≡ true) ⊎ Asking g₀ c → Asked p (cs ++ (c ∷ []))
    visits o (inl x) = asked_then p (k.asked x) c (state_is _ NmtPreOperational2 (both_first (in_pre_operational2 (step g₀ c).head.nmt) _ o))
    visits o (inr x) = visiting cs c [] x (state_is _ NmtPreOperational2 (both_first (in_pre_operational2 (step g₀ c).head.nmt) _ o), tt)

    enters : ready (step g₀ c).head.nmt ≡ true → (ready g₀.nmt ≡ true) ⊎ ((enabling g₀.nmt ≡ true) ⊎ Asking g₀ c) → Enabled p (cs ++ (c ∷ []))
    enters r (inl x) = enabled_then p (k.entered x) c (state_is _ NmtReadyToOperate r)
    enters r (inr (inl x)) = later (k.asked x) c [] (state_is _ NmtReadyToOperate r, tt)
    enters r (inr (inr x)) = at_once cs c [] x (state_is _ NmtReadyToOperate r, tt)

known_all : (p : Plain) (done cs : List Call) → Known p done → Known p (done ++ cs)
known_all p done [] k = subst (Known p) (sym (at_end done)) k
known_all p done (c ∷ cs) k = subst (Known p) (again done (c ∷ []) cs) (known_all p (done ++ (c ∷ [])) cs (known_then p done c k))

-- what holds of the fresh head: neither in PreOperational2 nor at ReadyToOperate, and not enabled
known_fresh : (s : Start) → Known (fresh s) []
unfolding fresh step_all
known_fresh s = record { calms = refl; asked = λ h. absurd (true≢false (sym h)); entered = λ h. absurd (true≢false (sym h)) }

-- AT READYTOOPERATE, after any list of calls from a fresh head
pub enabled_before : (s : Start) (cs : List Call) → nmt_state (step_all (fresh s) cs) ≡ NmtReadyToOperate → Enabled (fresh s) cs
enabled_before s cs h = (known_all (fresh s) [] cs (known_fresh s)).entered (is_state _ NmtReadyToOperate h)

-- The ready word. Ready comes of a ready word in PreOperational2, and no call that leaves it on is a withdrawal that was accepted.
abbrev Wording : Plain → Call → Type 0
Wording p c = InVisit (λ (e : NmtEvent). e ≡ CnConfigurationComplete) p c

abbrev worded_now : CnNmtStateMachine → NmtEvent → Bool
worded_now m e = both (in_pre_operational2 m) (same_event e CnConfigurationComplete)

abbrev event_words_lem : NmtEvent → CnNmtStateMachine → Orders → Bool
event_words_lem e m w = implies (processed m e).machine.app_ready (either m.app_ready (worded_now m e))

word_test : (m : CnNmtStateMachine) → always NmtEvents (λ e. every (event_words_lem e) m) ≡ true
unfolding processed reset_by applied enter row_of is_reset states_entered
word_test m = refl

event_is : (d e : NmtEvent) → same_event d e ≡ true → d ≡ e
event_is d e h =
    let t : ◌≡◌ {A = Result NmtEvent Refusal} (Ok d) (Ok e) =
    sym (events_faithful.back d) ∙ ap read_event (eqb-true (event_number d) (event_number e) h) ∙ events_faithful.back e in
    cc

module _ (p : Plain) (c : Call) where
  word_by_lem : (e : NmtEvent) → (worded_now p.nmt e ≡ true → Wording p c) → (processed p.nmt e).machine.app_ready ≡ true → (p.nmt.app_ready ≡ true) ⊎ Wording p c
  word_by_lem e f h =
      by (either_cases p.nmt.app_ready (worded_now p.nmt e)
      (follows (processed p.nmt e).machine.app_ready (either p.nmt.app_ready (worded_now p.nmt e))
      (every_at (event_words_lem e) p.nmt (orders false false) (always_at NmtEvents (λ e. every (event_words_lem e) p.nmt) (word_test p.nmt) e)) h))
    where
      by : (p.nmt.app_ready ≡ true) ⊎ (worded_now p.nmt e ≡ true) → (p.nmt.app_ready ≡ true) ⊎ Wording p c
      by (inl x) = inl x
      by (inr x) = inr (f x)

  unworded : (e : NmtEvent) → same_event e CnConfigurationComplete ≡ false → worded_now p.nmt e ≡ true → Wording p c
  unworded e a x = absurd (true≢false (sym (both_second (in_pre_operational2 p.nmt) (same_event e CnConfigurationComplete) x) ∙ a))

  word_in_tick : {e : EventMade} {m : CnNmtStateMachine} → InTick p.nmt e m → m.app_ready ≡ true → (p.nmt.app_ready ≡ true) ⊎ Wording p c
  word_in_tick InTick.still h = inl h
  word_in_tick InTick.fails h = word_by_lem Error (unworded Error refl) h
  word_in_tick InTick.times_out_lem h = word_by_lem Timeout (unworded Timeout refl) h

  word_came : {e : EventMade} {m : CnNmtStateMachine} → (step p c).event ≡ e → Moves p c e m → m.app_ready ≡ true → (p.nmt.app_ready ≡ true) ⊎ Wording p c
  word_came y Moves.same h = inl h
  word_came y Moves.takes_back h = absurd (true≢false (sym h))
  word_came y (Moves.orders e) h =
      word_by_lem e (λ a.
      record {
        event = e;
        given = y;
        passes = event_is e CnConfigurationComplete (both_second (in_pre_operational2 p.nmt) (same_event e CnConfigurationComplete) a);
        visit = state_is (nmt_state p) NmtPreOperational2 (both_first (in_pre_operational2 p.nmt) (same_event e CnConfigurationComplete) a);
      }) h
  word_came y (Moves.ticks t) h = word_in_tick t h

-- a call that leaves the machine ready is no withdrawal that was accepted
not_withdrawn : (p : Plain) (c : Call) → (step p c).head.nmt.app_ready ≡ true → both (is_withdraw c) (is_taken (step p c).answer) ≡ false
not_withdrawn p (nmt_event n) h = refl
not_withdrawn p (dll_event n x) h = refl
not_withdrawn p (error k a b) h = refl
not_withdrawn p cycle_complete h = refl
not_withdrawn p withdraw h = by (not (same_state (nmt_state p) NmtReadyToOperate)) h
  where
    by :
        (b : Bool) →
        (pick b (answers (with_nmt p (withdrawn p.nmt)) taken no_run) (declines p no_run 8)).head.nmt.app_ready ≡ true →
        is_taken (pick b (answers (with_nmt p (withdrawn p.nmt)) taken no_run) (declines p no_run 8)).answer ≡ false
    by true g = absurd (true≢false (sym g))
    by false g = refl
not_withdrawn p (heard n t r) h = refl
not_withdrawn p hand_out h = refl
not_withdrawn p (load v u) h = refl
not_withdrawn p (arm t) h = refl
not_withdrawn p (tick t r) h = refl
not_withdrawn p (range a b) h = refl
not_withdrawn p (margin t) h = refl
not_withdrawn p (add n o r) h = refl
not_withdrawn p (remove n r) h = refl
not_withdrawn p (next_due r) h = refl
not_withdrawn p (frame t b) h = refl

none_then :
    (p : Plain) (xs : List Call) (c : Call) → NoneWithdrawn p xs → both (is_withdraw c) (is_taken (step (step_all p xs) c).answer) ≡ false →
    NoneWithdrawn p (xs ++ (c ∷ []))
unfolding NoneWithdrawn step_all
none_then p [] c h e = (e, tt)
none_then p (x ∷ xs) c h e = (h.0, none_then (step p x).head xs c h.1 e)

-- a reset: not ready behind it; and before the first one a head stays at GsInitialising
abbrev event_forgets : NmtEvent → CnNmtStateMachine → Orders → Bool
event_forgets e m w = implies (is_reset e) (not (processed m e).machine.app_ready)

forgets_test : (m : CnNmtStateMachine) → always NmtEvents (λ e. every (event_forgets e) m) ≡ true
unfolding processed reset_by applied enter row_of is_reset states_entered
forgets_test m = refl

abbrev initial : CnNmtStateMachine → Bool
initial m = same_state m.current_state NmtGsInitialising

abbrev event_remains : NmtEvent → CnNmtStateMachine → Orders → Bool
event_remains e m w = implies (both (initial m) (not (is_reset e))) (initial (processed m e).machine)

remains_test : (m : CnNmtStateMachine) → always NmtEvents (λ e. every (event_remains e) m) ≡ true
unfolding processed reset_by applied enter row_of is_reset states_entered
remains_test m = refl

not_true : (b : Bool) → not b ≡ true → b ≡ true → {A : Type 0} → A
not_true true h g = absurd (true≢false (sym h))
not_true false h g = absurd (true≢false (sym g))

module _ (p : Plain) (c : Call) where
  forgotten_event : (e : NmtEvent) → is_reset e ≡ true → (processed p.nmt e).machine.app_ready ≡ true → {A : Type 0} → A
  forgotten_event e r h =
      not_true (processed p.nmt e).machine.app_ready
      (follows (is_reset e) (not (processed p.nmt e).machine.app_ready)
      (every_at (event_forgets e) p.nmt (orders false false) (always_at NmtEvents (λ e. every (event_forgets e) p.nmt) (forgets_test p.nmt) e)) r) h

  remains_event : (e : NmtEvent) → is_reset e ≡ false → initial p.nmt ≡ true → initial (processed p.nmt e).machine ≡ true
  remains_event e r i =
      follows (both (initial p.nmt) (not (is_reset e))) (initial (processed p.nmt e).machine)
      (every_at (event_remains e) p.nmt (orders false false) (always_at NmtEvents (λ e. every (event_remains e) p.nmt) (remains_test p.nmt) e)) (rw (i, r))

  -- a call that resets leaves the machine not ready
  reset_forgets : {e : EventMade} {m : CnNmtStateMachine} → Moves p c e m → resets e ≡ true → m.app_ready ≡ true → {A : Type 0} → A
  reset_forgets Moves.same r h = absurd (true≢false (sym r))
  reset_forgets Moves.takes_back r h = absurd (true≢false (sym r))
  reset_forgets (Moves.orders e) r h = forgotten_event e r h
  reset_forgets (Moves.ticks InTick.still) r h = absurd (true≢false (sym r))
  reset_forgets (Moves.ticks InTick.fails) r h = forgotten_event Error r h
  reset_forgets (Moves.ticks InTick.times_out_lem) r h = forgotten_event Timeout r h

  -- a call that does not, leaves a head at GsInitialising
  remains : {e : EventMade} {m : CnNmtStateMachine} → Moves p c e m → resets e ≡ false → initial p.nmt ≡ true → initial m ≡ true
  remains Moves.same r i = i
  remains Moves.takes_back r i = i
  remains (Moves.orders e) r i = remains_event e r i
  remains (Moves.ticks InTick.still) r i = i
  remains (Moves.ticks InTick.fails) r i = remains_event Error r i
  remains (Moves.ticks InTick.times_out_lem) r i = remains_event Timeout r i

never_moved : (p : Plain) (cs : List Call) → NoReset p cs → initial p.nmt ≡ true → initial (step_all p cs).nmt ≡ true
unfolding NoReset step_all
never_moved p [] k i = i
never_moved p (c ∷ cs) k i = never_moved (step p c).head cs k.1 (remains p c (moves p c) k.0 i)

no_reset_then : (p : Plain) (xs : List Call) (c : Call) → NoReset p xs → resets (step (step_all p xs) c).event ≡ false → NoReset p (xs ++ (c ∷ []))
unfolding NoReset step_all
no_reset_then p [] c k e = (e, tt)
no_reset_then p (x ∷ xs) c k e = (k.0, no_reset_then (step p x).head xs c k.1 e)

-- the last reset of some calls, or that there is none
data Last (p : Plain) : List Call → Type 0 where
  never : {cs : List Call} → NoReset p cs → Last p cs
  last :
      (before : List Call) (r : Call) (behind : List Call) → resets (step (step_all p before) r).event ≡ true → NoReset (after_reset p before r) behind →
      Last p (before ++ (r ∷ behind))

run_behind : (p : Plain) (before : List Call) (r : Call) (behind : List Call) → step_all p (before ++ (r ∷ behind)) ≡ step_all (after_reset p before r) behind
unfolding step_all
run_behind p before r behind = run_on p before (r ∷ behind)

last_then : (p : Plain) {cs : List Call} → Last p cs → (c : Call) (b : Bool) → resets (step (step_all p cs) c).event ≡ b → Last p (cs ++ (c ∷ []))
unfolding NoReset
last_then p {cs = cs} k c true e = last cs c [] e tt
last_then p (never {cs = cs} k) c false e = never (no_reset_then p cs c k e)
last_then p (last before r behind x k) c false e =
    subst (Last p) (sym (again before (r ∷ behind) (c ∷ [])))
    (last before r (behind ++ (c ∷ [])) x
    (no_reset_then (after_reset p before r) behind c k
    (ap (λ (g : Plain). resets (step g c).event) (sym (run_behind p before r behind)) ∙ e)))

-- a ready word, and one call more that is no reset and no withdrawal that was accepted
word_then :
    (p : Plain) {cs : List Call} → ReadyWord p cs → (c : Call) → resets (step (step_all p cs) c).event ≡ false →
    both (is_withdraw c) (is_taken (step (step_all p cs) c).answer) ≡ false → ReadyWord p (cs ++ (c ∷ []))
word_then p (since before r between a after x k v w) c n e =
    let from = after_reset p before r in
    let at : step_all p (before ++ (r ∷ (between ++ (a ∷ after)))) ≡ step_all from (between ++ (a ∷ after)) = run_behind p before r (between ++ (a ∷ after)) in
    subst (ReadyWord p)
    (ap (λ (l : List Call). before ++ (r ∷ l)) (sym (again between (a ∷ after) (c ∷ []))) ∙ sym (again before (r ∷ (between ++ (a ∷ after))) (c ∷ [])))
    (since before r between a (after ++ (c ∷ [])) x
    (subst (NoReset from) (again between (a ∷ after) (c ∷ []))
    (no_reset_then from (between ++ (a ∷ after)) c k (ap (λ (g : Plain). resets (step g c).event) (sym at) ∙ n)))
    v
    (none_then (step_all from between) (a ∷ after) c w
    (ap (λ (g : Plain). both (is_withdraw c) (is_taken (step g c).answer)) (sym (at ∙ run_on from between (a ∷ after))) ∙ e)))

-- after some calls from a head at GsInitialising
record Worded (p : Plain) (cs : List Call) : Type 0 where
  last : Last p cs
  word : (step_all p cs).nmt.app_ready ≡ true → NoReset p cs ⊎ ReadyWord p cs

module _ (p : Plain) (start : initial p.nmt ≡ true) where
  -- a ready word, taken in PreOperational2: so there was a reset before it
  word_given : {cs : List Call} → Last p cs → (c : Call) → Wording (step_all p cs) c → resets (step (step_all p cs) c).event ≡ false → both (is_withdraw c) (is_taken (step (step_all p cs) c).answer) ≡ false → ReadyWord p (cs ++ (c ∷ []))
  unfolding NoneWithdrawn
  word_given (never {cs = cs} k) c w n e =
      let i : same_state NmtPreOperational2 NmtGsInitialising ≡ true = ap (λ (s : NmtState). same_state s NmtGsInitialising) (sym w.visit) ∙ never_moved p cs k start in
      absurd (true≢false (sym i))
  word_given (last before r behind x k) c w n e =
      let at = run_behind p before r behind in
      subst (ReadyWord p) (sym (again before (r ∷ behind) (c ∷ [])))
      (since before r behind c [] x
      (no_reset_then (after_reset p before r) behind c k (ap (λ (g : Plain). resets (step g c).event) (sym at) ∙ n))
      (subst (λ (g : Plain). Wording g c) at w)
      (ap (λ (g : Plain). both (is_withdraw c) (is_taken (step g c).answer)) (sym at) ∙ e, tt))

  worded_then : (cs : List Call) (c : Call) → Worded p cs → Worded p (cs ++ (c ∷ []))
  worded_then cs c k =
      record {
        last = last_then p k.last c (resets (step (step_all p cs) c).event) refl;
        word = λ h. by (resets (step (step_all p cs) c).event) refl (sym (ap (λ (q : Plain). q.nmt.app_ready) (run_then p cs c)) ∙ h);
      }
    where
      by :
          (b : Bool) → resets (step (step_all p cs) c).event ≡ b → (step (step_all p cs) c).head.nmt.app_ready ≡ true →
          NoReset p (cs ++ (c ∷ [])) ⊎ ReadyWord p (cs ++ (c ∷ []))
      by true r g = reset_forgets (step_all p cs) c (moves (step_all p cs) c) r g
      by false r g = came_by (word_came (step_all p cs) c refl (moves (step_all p cs) c) g)
        where
          taken_back_lem : both (is_withdraw c) (is_taken (step (step_all p cs) c).answer) ≡ false
          taken_back_lem = not_withdrawn (step_all p cs) c g

          kept : NoReset p cs ⊎ ReadyWord p cs → NoReset p (cs ++ (c ∷ [])) ⊎ ReadyWord p (cs ++ (c ∷ []))
          kept (inl n) = inl (no_reset_then p cs c n r)
          kept (inr w) = inr (word_then p w c r taken_back_lem)

          came_by : ((step_all p cs).nmt.app_ready ≡ true) ⊎ Wording (step_all p cs) c → NoReset p (cs ++ (c ∷ [])) ⊎ ReadyWord p (cs ++ (c ∷ []))
          came_by (inl x) = kept (k.word x)
          came_by (inr w) = inr (word_given k.last c w r taken_back_lem)

  worded_all : (done cs : List Call) → Worded p done → Worded p (done ++ cs)
  worded_all done [] k = subst (Worded p) (sym (at_end done)) k
  worded_all done (c ∷ cs) k = subst (Worded p) (again done (c ∷ []) cs) (worded_all (done ++ (c ∷ [])) cs (worded_then done c k))

worded_fresh : (s : Start) → Worded (fresh s) []
unfolding NoReset
worded_fresh s = record { last = never tt; word = λ h. inl tt }

fresh_initial : (s : Start) → initial (fresh s).nmt ≡ true
unfolding fresh
fresh_initial s = refl

-- AT READYTOOPERATE with the machine ready, after any list of calls from a fresh head
pub word_before : (s : Start) (cs : List Call) → nmt_state (step_all (fresh s) cs) ≡ NmtReadyToOperate → (step_all (fresh s) cs).nmt.app_ready ≡ true → ReadyWord (fresh s) cs
word_before s cs r h = by ((worded_all (fresh s) (fresh_initial s) [] cs (worded_fresh s)).word h)
  where
    by : NoReset (fresh s) cs ⊎ ReadyWord (fresh s) cs → ReadyWord (fresh s) cs
    by (inl n) =
        let i : same_state NmtReadyToOperate NmtGsInitialising ≡ true = ap (λ (s : NmtState). same_state s NmtGsInitialising) (sym r) ∙ never_moved (fresh s) cs n (fresh_initial s) in
        absurd (true≢false (sym i))
    by (inr w) = w
