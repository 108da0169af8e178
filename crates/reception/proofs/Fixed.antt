-- A frame's contract fixes its answer, every word and every byte; and an action of a frame leaves no
-- error of the NMT machine unreported.
-- Assumes nothing.
use Prim.Native.Nat.{ℕ}
use mathlib.Core.Path.{◌≡◌, refl, sym, ap, ◌∙◌}
use mathlib.Core.Bool.{Bool, true, false, true≢false}
use mathlib.Core.List.{List, []}
use Rattle.types.proofs.Refused.{number_fixes}
use Rattle.types.proofs.Reported.{reported_fixes}
use Rattle.types.specs.declared.refusals.Refusal.{Refusal}
use Rattle.types.specs.declared.nmt.states.NmtState.{NmtState}
use Rattle.types.specs.declared.nmt.states.NmtState.TheVariants.{NmtGsOff, NmtGsInitialising, NmtGsResetApplication, NmtGsResetCommunication, NmtGsResetConfiguration, NmtNotActive, NmtPreOperational1, NmtPreOperational2, NmtReadyToOperate, NmtOperational, NmtCsStopped, NmtBasicEthernet}
use Rattle.types.specs.declared.nmt.events.NmtEvent.{NmtEvent}
use Rattle.types.specs.declared.nmt.events.NmtEvent.TheVariants.{Error}
use Rattle.types.specs.declared.nmt.events.NmtStateCommand.TheVariants as command
use Rattle.types.specs.declared.frame.error.types.DllError.{DllError}
use Rattle.std.specs.declared.result.Result.{Result}
use Rattle.std.specs.declared.result.Result.TheVariants.{Ok, Err}
use Rattle.std.specs.declared.option.Option.{Option}
use Rattle.std.specs.declared.option.Option.TheVariants.{Some, None}
use Rattle.frames.specs.declared.Service.TheVariants.{NmtCommand, Other}
use Rattle.frames.specs.declared.Message.{Message}
use Rattle.frames.specs.declared.Message.TheVariants.{SoC, PReq, PRes, SoA, ASnd}
use Rattle.frames.specs.Frame.{nmt_event_of}
use Rattle.nmt.specs.Resets.{Passed, is_reset}
use Rattle.nmt.specs.Nmt.{with, enter, row_of, applied, reset_by, processed}
use Rattle.nmt.specs.declared.cn_state_machine.CnNmtStateMachine.{CnNmtStateMachine}
use Rattle.nmt.proofs.Fixed.{passed_fixes}
use Rattle.dll.specs.Dll.{is_cyclic}
use Rattle.node.specs.Plain.{Answer, refused, taken, nmt_answer, dll_answer, error_answer, cycle_answer, hand_out_answer, tick_answer, range_answer, margin_answer, due_answer, not_ours, frame_answer, NmtReply}
use Rattle.node.specs.Refines.{Rings}
use Rattle.node.specs.declared.calls.NmtTaken.{NmtTaken}
use Rattle.node.proofs.Fixed.{refusal_of, apart, errors_of_lem}
use Rattle.reception.specs.declared.FrameAnswer.{FrameAnswer}
use Rattle.reception.specs.declared.FrameAnswer.TheVariants.{NotOurs, Ours}
use Rattle.reception.specs.FrameIn.{reply_of, frame_said, FrameIn}

-- The event Error. A frame's DLL event reports errors only in these states, and there it has a row:
-- so no error of the NMT machine is lost with an action.
pub action_silent : (m : CnNmtStateMachine) → is_cyclic m.current_state ≡ true → (processed m Error).errors ≡ []
unfolding processed reset_by applied enter row_of is_reset
action_silent m h = by m.current_state h
  where
    by : (s : NmtState) → is_cyclic s ≡ true → (processed (with m s m.ready_to_operate_enabled m.app_ready) Error).errors ≡ []
    by NmtGsOff h = absurd (true≢false (sym h))
    by NmtGsInitialising h = absurd (true≢false (sym h))
    by NmtGsResetApplication h = absurd (true≢false (sym h))
    by NmtGsResetCommunication h = absurd (true≢false (sym h))
    by NmtGsResetConfiguration h = absurd (true≢false (sym h))
    by NmtNotActive h = absurd (true≢false (sym h))
    by NmtPreOperational1 h = absurd (true≢false (sym h))
    by NmtPreOperational2 h = refl
    by NmtReadyToOperate h = refl
    by NmtOperational h = refl
    by NmtCsStopped h = refl
    by NmtBasicEthernet h = absurd (true≢false (sym h))

-- Out of BasicEthernet: a frame's event leaves it only where it is a reset.
abbrev pub resets : Option NmtEvent → Bool
resets (Some e) = is_reset e
resets None = false

abbrev after : Option NmtEvent → CnNmtStateMachine → CnNmtStateMachine
after (Some e) m = (processed m e).machine
after None m = m

abbrev at_basic_ethernet : CnNmtStateMachine → CnNmtStateMachine
at_basic_ethernet m = with m NmtBasicEthernet m.ready_to_operate_enabled m.app_ready

pub basic_ethernet_stays :
    (m : CnNmtStateMachine) (f : Message) → resets (nmt_event_of f) ≡ false →
    (after (nmt_event_of f) (at_basic_ethernet m)).current_state ≡ NmtBasicEthernet
unfolding processed reset_by applied enter row_of is_reset
basic_ethernet_stays m SoC h = refl
basic_ethernet_stays m PReq h = refl
basic_ethernet_stays m PRes h = refl
basic_ethernet_stays m SoA h = refl
basic_ethernet_stays m (ASnd (NmtCommand command.StartNode)) h = refl
basic_ethernet_stays m (ASnd (NmtCommand command.StopNode)) h = refl
basic_ethernet_stays m (ASnd (NmtCommand command.EnterPreOperational2)) h = refl
basic_ethernet_stays m (ASnd (NmtCommand command.EnableReadyToOperate)) h = refl
basic_ethernet_stays m (ASnd (NmtCommand command.ResetNode)) h = absurd (true≢false h)
basic_ethernet_stays m (ASnd (NmtCommand command.ResetCommunication)) h = absurd (true≢false h)
basic_ethernet_stays m (ASnd (NmtCommand command.ResetConfiguration)) h = absurd (true≢false h)
basic_ethernet_stays m (ASnd (NmtCommand command.SwReset)) h = absurd (true≢false h)
basic_ethernet_stays m (ASnd (Other n)) h = refl

-- an answer is fixed by what it says: whether the frame is ours, and what its NMT event answered
abbrev ours_in : Answer → Bool
ours_in (refused n) = false
ours_in taken = false
ours_in (nmt_answer es p) = false
ours_in (dll_answer es) = false
ours_in (error_answer a s es) = false
ours_in (cycle_answer b) = false
ours_in (hand_out_answer f) = false
ours_in (tick_answer es) = false
ours_in (range_answer v) = false
ours_in (margin_answer z) = false
ours_in (due_answer d) = false
ours_in not_ours = false
ours_in (frame_answer es r) = true

abbrev reply_in : Answer → Option NmtReply
reply_in (refused n) = None
reply_in taken = None
reply_in (nmt_answer es p) = None
reply_in (dll_answer es) = None
reply_in (error_answer a s es) = None
reply_in (cycle_answer b) = None
reply_in (hand_out_answer f) = None
reply_in (tick_answer es) = None
reply_in (range_answer v) = None
reply_in (margin_answer z) = None
reply_in (due_answer d) = None
reply_in not_ours = None
reply_in (frame_answer es r) = r

abbrev errors_in : Option NmtReply → List DllError
errors_in (Some r) = r.errors
errors_in None = []

abbrev reset_in : Option NmtReply → Passed
reset_in (Some r) = r.reset
reset_in None = record { states = []; ranges = [] }

abbrev there : Option NmtReply → Bool
there (Some r) = true
there None = false

reply_fixes : (a b : Option NmtTaken) → reply_of a ≡ reply_of b → a ≡ b
reply_fixes (Some n) (Some m) e =
    let r = reported_fixes n.errors m.errors (ap errors_in e) in
    let p = passed_fixes n.reset m.reset (ap reset_in e) in
    λ i. Some (record { errors = r i; reset = p i })
reply_fixes (Some n) None e = absurd (true≢false (ap there e))
reply_fixes None (Some m) e = absurd (true≢false (sym (ap there e)))
reply_fixes None None e = refl

pub frame_said_fixed : (a b : Result FrameAnswer Refusal) → frame_said a ≡ frame_said b → a ≡ b
frame_said_fixed (Ok NotOurs) (Ok NotOurs) e = refl
frame_said_fixed (Ok NotOurs) (Ok (Ours d)) e = absurd (true≢false (sym (ap ours_in e)))
frame_said_fixed (Ok (Ours d)) (Ok NotOurs) e = absurd (true≢false (ap ours_in e))
frame_said_fixed (Ok (Ours d)) (Ok (Ours c)) e =
    let l = reported_fixes d.logged c.logged (errors_of_lem e) in
    let n = reply_fixes d.nmt c.nmt (ap reply_in e) in
    λ i. Ok (Ours (record { logged = l i; nmt = n i }))
frame_said_fixed (Ok NotOurs) (Err r) e = apart (sym e) refl refl
frame_said_fixed (Ok (Ours d)) (Err r) e = apart (sym e) refl refl
frame_said_fixed (Err r) (Ok NotOurs) e = apart e refl refl
frame_said_fixed (Err r) (Ok (Ours d)) e = apart e refl refl
frame_said_fixed (Err r) (Err s) e = ap Err (number_fixes (refusal_of e))

-- a frame leaves one answer, one head and one memory
pub frame_fixes :
    {ws q m b ws₁ q₁ m₁ ws₂ q₂ m₂ : List ℕ} {t : ℕ} {x y : Result FrameAnswer Refusal} →
    FrameIn ws q m t b x ws₁ q₁ m₁ →
    FrameIn ws q m t b y ws₂ q₂ m₂ →
    (x ≡ y) × (ws₁ ≡ ws₂) × (q₁ ≡ q₂) × (m₁ ≡ m₂)
frame_fixes {x = x} {y = y} a b =
    let r = a.rings ∙ sym b.rings in (
      frame_said_fixed x y (a.refines.answer ∙ sym b.refines.answer),
      a.words ∙ sym b.words,
      ap (λ (r : Rings). r.queue_bytes) r,
      ap (λ (r : Rings). r.history_bytes) r,
    )
