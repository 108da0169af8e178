-- What is packed for C can be read back.
-- Assumes nothing.
use Rattle.std.proofs.Common.{◌≡◌, refl, ap, ap₂, ℕ, Bool, true, false}
use Rattle.std.specs.declared.option.Option.{Option}
use Rattle.std.specs.declared.option.Option.TheVariants as option
use Rattle.std.specs.declared.result.Result.TheVariants.{Ok}
use Rattle.types.specs.declared.frame.error.types.NmtAction.{NmtAction}
use Rattle.types.specs.declared.frame.error.types.NmtAction.TheVariants as action
use Rattle.types.specs.declared.frame.error.types.DllError.{DllError}
use Rattle.types.specs.declared.frame.error.types.DllError.TheVariants.{LossOfLink, BadPhysicalMode, MacBuffer, Crc, Collision, InvalidFormat, LossOfSoc, LossOfSoa, LossOfPreq, LossOfPres, LossOfStatusRes, CycleTimeExceeded, LatePres, SoCJitter, MsWaitSoc, MultipleMn, AddressConflict, MevAsndTimeout, UnexpectedEventInState, PdoMapVersion, PdoPayloadShort, HeartbeatTimeout}
use Rattle.types.specs.declared.frame.error.types.DllErrors.{DllErrors}
use Rattle.types.specs.declared.frame.error.types.DllErrors.TheVariants.{None, One, Two}
use Rattle.nmt.specs.declared.state_machine.ResetSequence.{ResetSequence}
use Rattle.nmt.specs.declared.state_machine.ResetSequence.TheVariants as reset
use Rattle.counters.specs.declared.counters.ErrorTaken.{ErrorTaken}
use Rattle.entries.specs.Entry.{bit, read_mode, mode_number}
use Rattle.entries.specs.declared.status_response.ErrorEntry.{ErrorEntry}
use Rattle.entries.specs.declared.status_response.ErrorEntryMode.{ErrorEntryMode}
use Rattle.entries.specs.declared.status_response.ErrorEntryMode.TheVariants.{Terminator, ErrorActive, ErrorCleared, EventOccurred}
use Rattle.node.specs.declared.calls.NmtTaken.{NmtTaken}
use Rattle.node.specs.declared.range.SocVerdict.{SocVerdict}
use Rattle.node.specs.declared.range.SocVerdict.TheVariants.{Lost, Kept, Open}
use Rattle.reception.specs.declared.FrameAnswer.{FrameAnswer}
use Rattle.reception.specs.declared.FrameAnswer.TheVariants.{NotOurs, Ours}
use Rattle.powerlink_cn.specs.Answers.{c_error, c_errors, c_nmt, c_taken, c_frame, c_frame_taken, c_due, reset_number, verdict_number, action_node}
use Rattle.powerlink_cn.specs.Entries.{c_entry, read_entry, c_handed_out}
use Rattle.powerlink_cn.specs.Setups.{flag}
use Rattle.powerlink_cn.specs.Readings.{reset_named}
use Rattle.powerlink_cn.specs.Unpacked.{handed_out_in, error_in, errors_in, nmt_in, action_in, taken_in, flag_in, due_in, frame_in, verdict_in, ReadBack}
use Rattle.types.specs.Errors.{action_number}

pub error_lem : (e : DllError) → error_in (c_error e) ≡ e
error_lem LossOfLink = refl
error_lem BadPhysicalMode = refl
error_lem MacBuffer = refl
error_lem Crc = refl
error_lem Collision = refl
error_lem InvalidFormat = refl
error_lem LossOfSoc = refl
error_lem LossOfSoa = refl
error_lem LossOfPreq = refl
error_lem (LossOfPres n) = refl
error_lem (LossOfStatusRes n) = refl
error_lem CycleTimeExceeded = refl
error_lem (LatePres n) = refl
error_lem SoCJitter = refl
error_lem MsWaitSoc = refl
error_lem MultipleMn = refl
error_lem AddressConflict = refl
error_lem MevAsndTimeout = refl
error_lem (UnexpectedEventInState s e) = refl
error_lem (PdoMapVersion n) = refl
error_lem (PdoPayloadShort n) = refl
error_lem (HeartbeatTimeout n) = refl

pub errors_lem : (es : DllErrors) → errors_in (c_errors es) ≡ es
errors_lem None = refl
errors_lem (One e) = ap One (error_lem e)
errors_lem (Two e f) = ap₂ Two (error_lem e) (error_lem f)

pub reset_lem : (r : ResetSequence) → reset_named (reset_number r) ≡ r
reset_lem reset.None = refl
reset_lem reset.Whole = refl
reset_lem reset.Node = refl
reset_lem reset.Communication = refl
reset_lem reset.Configuration = refl

pub nmt_lem : (t : NmtTaken) → nmt_in (c_nmt t) ≡ t
nmt_lem t = ap₂ (λ es r. record { errors = es; reset = r }) (errors_lem t.errors) (reset_lem t.reset)

pub action_lem : (a : NmtAction) → action_in (action_number a) (action_node a) ≡ a
action_lem action.None = refl
action_lem action.ResetCommunication = refl
action_lem (action.ResetNode n) = refl

pub flag_lem : (b : Bool) → flag_in (bit b) ≡ b
flag_lem true = refl
flag_lem false = refl

pub taken_lem : (t : ErrorTaken) → taken_in (c_taken t) ≡ t
taken_lem t =
    rw (action_lem t.action) (rw (flag_lem t.signal) (rw (errors_lem t.logged) refl))

pub due_lem : (d : Option ℕ) → due_in (c_due d) ≡ d
due_lem (option.Some t) = refl
due_lem option.None = refl

pub ours_lem :
    (es : DllErrors) (n : Option NmtTaken) →
    frame_in (c_frame_taken (c_errors es) n) ≡ Ours (record { logged = es; nmt = n })
ours_lem es (option.Some t) = rw (errors_lem es) (rw (nmt_lem t) refl)
ours_lem es option.None = rw (errors_lem es) refl

pub frame_lem : (a : FrameAnswer) → frame_in (c_frame a) ≡ a
frame_lem NotOurs = refl
frame_lem (Ours d) = ours_lem d.logged d.nmt

pub mode_lem : (m : ErrorEntryMode) → read_mode (mode_number m) ≡ Ok m
unfolding read_mode
mode_lem Terminator = refl
mode_lem ErrorActive = refl
mode_lem ErrorCleared = refl
mode_lem EventOccurred = refl

pub given_lem : (b : Bool) → flag (bit b) ≡ b
given_lem true = refl
given_lem false = refl

pub entry_lem : (e : ErrorEntry) → read_entry (c_entry e) ≡ Ok e
entry_lem e =
    rw (mode_lem e.entry_type.mode)
    (rw (given_lem e.entry_type.is_status_entry) (rw (given_lem e.entry_type.send_to_queue) refl))

pub handed_out_lem : (e : ErrorEntry) → handed_out_in (c_handed_out (option.Some e)) ≡ option.Some (Ok e)
handed_out_lem e = ap option.Some (entry_lem e)

pub verdict_lem : (v : SocVerdict) → verdict_in (verdict_number v) ≡ v
verdict_lem Lost = refl
verdict_lem Kept = refl
verdict_lem Open = refl

pub read_back_lem : ReadBack
read_back_lem =
    record {
      errors = errors_lem;
      nmt = nmt_lem;
      taken = taken_lem;
      due = due_lem;
      frame = frame_lem;
      entry = entry_lem;
      handed_out = handed_out_lem;
      none_waits = refl;
      cycle = flag_lem;
      margin = λ z. refl;
      verdict = verdict_lem;
    }
