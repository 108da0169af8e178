-- The node's answer tells of a reset exactly where the event that the call made is one.
-- Assumes nothing.
use Prim.Native.Nat.{ℕ}
use mathlib.Core.Path.{◌≡◌, refl, ◌∙◌}
use mathlib.Core.Bool.{Bool, true, false, not}
use Rattle.types.specs.Pick.{pick}
use Rattle.types.specs.Frames.{frame_cs_event}
use Rattle.types.specs.States.{same_state}
use Rattle.types.specs.Events.{read_event}
use Rattle.types.specs.CsEvents.{read_cs_event}
use Rattle.types.specs.Errors.{read_error}
use Rattle.types.specs.declared.nmt.states.NmtState.TheVariants.{NmtReadyToOperate}
use Rattle.types.specs.declared.nmt.events.NmtEvent.{NmtEvent}
use Rattle.types.specs.declared.nmt.events.NmtEvent.TheVariants.{Reset, SwReset, ResetNode, ResetCommunication, ResetConfiguration}
use Rattle.std.specs.declared.option.Option.{Option}
use Rattle.std.specs.declared.option.Option.TheVariants.{Some, None}
use Rattle.std.specs.declared.result.Result.{Result}
use Rattle.std.specs.declared.result.Result.TheVariants.{Ok, Err}
use Rattle.types.specs.declared.refusals.Refusal.{Refusal}
use Rattle.types.specs.declared.frame.cs_state_machine.DllCsEvent.{DllCsEvent}
use Rattle.types.specs.declared.frame.error.types.DllError.{DllError}
use Rattle.frames.specs.declared.Message.{Message}
use Rattle.frames.specs.declared.Frame.{Frame}
use Rattle.frames.specs.Frame.{message_type, nmt_event_of, read_frame}
use Rattle.nmt.specs.Resets.{is_reset, states_entered, reset_sequence}
use Rattle.nmt.specs.Nmt.{Move, Goes, Stays, Enables, Readies, Unexpected, row_of, applied, reset_by, processed}
use Rattle.nmt.specs.declared.cn_state_machine.CnNmtStateMachine.{CnNmtStateMachine}
use Rattle.watched.specs.Watched.{heard_at, watching, changing}
use Rattle.node.specs.Plain.{Plain, Call, nmt_event, dll_event, error, cycle_complete, withdraw, heard, hand_out, load, arm, tick, range, margin, add, remove, next_due, frame, taken, not_ours, range_answer, margin_answer, due_answer, EventMade, Step}
use Rattle.node.specs.Steps.{no_run, answers, declines, leaves, with_nmt, with_soc, nmt_step, dll_step, error_step, withdrawn, heard_tests, add_tests, remove_tests, added, removed, arm_tests, armed}
use Rattle.node.specs.Heartbeats.{refreshed_at}
use Rattle.node.specs.Phases.{Ticked}
use Rattle.node.specs.Tick.{tick_tests, tick_taken, tick_answered}
use Rattle.node.specs.Range.{range_tests, margin_tests, verdict_of, margin_of}
use Rattle.node.specs.Due.{due, due_tests}
use Rattle.node.specs.FrameSteps.{is_ours, received, reply_to, made_by, stops, follows, frame_taken, frame_tests, by_frame, frame_step}
use Rattle.node.specs.Run.{step}
use Rattle.node.proofs.Refining.{picked, tried_by_lem}
use Rattle.calling.specs.Values.{enters_some, event_tells_reset, tells_reset}
use Rattle.trace.specs.Visits.{resets}
use Rattle.trace.proofs.Ticking.{InTick, still, fails, times_out_lem, on_dll_event_walk, tick_part}

-- an NMT event: a reset enters some state, and another event none
reset_enters : (e : NmtEvent) → enters_some (states_entered e) ≡ is_reset e
unfolding is_reset states_entered
reset_enters Reset = refl
reset_enters SwReset = refl
reset_enters ResetNode = refl
reset_enters ResetCommunication = refl
reset_enters ResetConfiguration = refl
reset_enters e = refl

move_enters : (m : CnNmtStateMachine) (e : NmtEvent) (v : Move) → enters_some (applied m e v).reset.states ≡ false
unfolding applied
move_enters m e (Goes s) = refl
move_enters m e Stays = refl
move_enters m e (Enables s) = refl
move_enters m e Readies = refl
move_enters m e Unexpected = refl

event_enters : (m : CnNmtStateMachine) (e : NmtEvent) → enters_some (processed m e).reset.states ≡ is_reset e
unfolding processed reset_by reset_sequence
event_enters m e = by (is_reset e) refl
  where
    by : (b : Bool) → is_reset e ≡ b → enters_some (pick b (reset_by m e) (applied m e (row_of m.current_state e))).reset.states ≡ b
    by true f = reset_enters e ∙ f
    by false f = move_enters m e (row_of m.current_state e)

-- what a step's answer tells is what its event is
abbrev Tells : Step → Type 0
Tells t = tells_reset t.answer ≡ resets t.event

nmt_tells : (p : Plain) (r : Result NmtEvent Refusal) → Tells (nmt_step p r)
nmt_tells p (Ok e) = event_enters p.nmt e
nmt_tells p (Err r) = refl

dll_tells : (p : Plain) (x : Bool) (r : Result DllCsEvent Refusal) → Tells (dll_step p x r)
dll_tells p x (Ok e) = refl
dll_tells p x (Err r) = refl

error_tells : (p : Plain) (r : Result DllError Refusal) → Tells (error_step p r)
error_tells p (Ok e) = refl
error_tells p (Err r) = refl

-- a tick's event is none, Error or Timeout
tick_resets : {m m' : CnNmtStateMachine} {e : EventMade} → InTick m e m' → false ≡ resets e
unfolding is_reset
tick_resets still = refl
tick_resets fails = refl
tick_resets times_out_lem = refl

-- a frame that an action ends tells of no reset, and another what its NMT event is
stops_tells : (k : Ticked) → false ≡ resets k.event → Tells (stops k)
stops_tells k h = h

follows_tells : (t : ℕ) (m : Message) (k : Ticked) → Tells (follows t m k)
follows_tells t m k = by (nmt_event_of m)
  where
    by : (e : Option NmtEvent) → event_tells_reset (reply_to e k.head) ≡ resets (made_by e)
    by (Some e) = event_enters k.head.nmt e
    by None = refl

ours_tells : (p : Plain) (t : ℕ) (m : Message) → Tells (frame_taken t p m)
unfolding frame_taken
ours_tells p t m =
    let k = received t p m in
    picked Tells k.ended (stops k) (follows t m k)
    (stops_tells k (tick_resets (on_dll_event_walk t p (frame_cs_event (message_type m))).part.moves)) (follows_tells t m k)

frame_tells : (p : Plain) (t : ℕ) (r : Result Frame Refusal) → Tells (by_frame t p r)
frame_tells p t (Err r) = refl
frame_tells p t (Ok f) =
    let taken = frame_taken t p f.message in
    let passed = answers p not_ours no_run in
    let ours = is_ours p.nmt.node_id f.destination in
    tried_by_lem Tells (frame_tests t) (declines p no_run) (pick ours taken passed) (λ n. refl)
    (picked Tells ours taken passed (ours_tells p t f.message) refl)

pub answer_tells : (p : Plain) (c : Call) → Tells (step p c)
unfolding frame_step
answer_tells p (nmt_event n) = nmt_tells p (read_event n)
answer_tells p (dll_event n x) = dll_tells p x (read_cs_event n)
answer_tells p (error k a b) = error_tells p (read_error k a b)
answer_tells p cycle_complete = refl
answer_tells p withdraw =
    picked Tells (not (same_state p.nmt.current_state NmtReadyToOperate)) (answers (with_nmt p (withdrawn p.nmt)) taken no_run) (declines p no_run 8) refl refl
answer_tells p (heard n t r) =
    tried_by_lem Tells (heard_tests n t r) (declines p r) (leaves p (changing (heard_at n t) r)) (λ n. refl) refl
answer_tells p hand_out = refl
answer_tells p (load v h) = refl
answer_tells p (arm t) =
    tried_by_lem Tells (arm_tests t) (declines p no_run) (answers (with_soc p (armed p.soc p.od t)) taken no_run) (λ n. refl) refl
answer_tells p (tick t r) =
    tried_by_lem Tells (tick_tests p t r) (declines p r) (tick_answered (tick_taken p t (watching r)) (refreshed_at p t r)) (λ n. refl)
    (tick_resets (tick_part p t (watching r)).moves)
answer_tells p (range a b) =
    tried_by_lem Tells (range_tests a b) (declines p no_run) (answers p (range_answer (verdict_of p a b)) no_run) (λ n. refl) refl
answer_tells p (margin t) =
    tried_by_lem Tells (margin_tests t) (declines p no_run) (answers p (margin_answer (margin_of p t)) no_run) (λ n. refl) refl
answer_tells p (add n o r) =
    tried_by_lem Tells (add_tests n o r) (declines p r) (leaves p (added n o r)) (λ n. refl) refl
answer_tells p (remove n r) =
    tried_by_lem Tells (remove_tests n r) (declines p r) (leaves p (removed n r)) (λ n. refl) refl
answer_tells p (next_due r) =
    tried_by_lem Tells (due_tests r) (declines p r) (answers p (due_answer (due p (watching r))) r) (λ n. refl) refl
answer_tells p (frame t b) = frame_tells p t (read_frame b)
