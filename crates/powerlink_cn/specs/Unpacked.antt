-- How what is packed for C is read back, and the law that this gives what was packed.
-- Assumes nothing.
use Rattle.std.specs.Prelude.{ℕ, ℤ, zero, suc, ◌≡◌, Bool, true, false, List, [], ◌∷◌, get_or}
use Rattle.std.specs.declared.option.Option.{Option}
use Rattle.std.specs.declared.option.Option.TheVariants as option
use Rattle.std.specs.declared.result.Result.{Result}
use Rattle.std.specs.declared.result.Result.TheVariants.{Ok}
use Rattle.types.specs.declared.refusals.Refusal.{Refusal}
use Rattle.types.specs.Types.{node}
use Rattle.types.specs.declared.frame.error.types.NmtAction.{NmtAction}
use Rattle.types.specs.declared.frame.error.types.NmtAction.TheVariants as action
use Rattle.types.specs.declared.frame.error.types.DllError.{DllError}
use Rattle.types.specs.declared.frame.error.types.DllError.TheVariants.{LossOfLink, BadPhysicalMode, MacBuffer, Crc, Collision, InvalidFormat, LossOfSoc, LossOfSoa, LossOfPreq, LossOfPres, LossOfStatusRes, CycleTimeExceeded, LatePres, SoCJitter, MsWaitSoc, MultipleMn, AddressConflict, MevAsndTimeout, UnexpectedEventInState, PdoMapVersion, PdoPayloadShort, HeartbeatTimeout}
use Rattle.types.specs.declared.frame.error.types.DllErrors.{DllErrors}
use Rattle.types.specs.declared.frame.error.types.DllErrors.TheVariants.{None, One, Two}
use Rattle.counters.specs.declared.counters.ErrorTaken.{ErrorTaken}
use Rattle.entries.specs.declared.status_response.ErrorEntry.{ErrorEntry}
use Rattle.node.specs.declared.calls.NmtTaken.{NmtTaken}
use Rattle.node.specs.declared.range.SocVerdict.{SocVerdict}
use Rattle.node.specs.declared.range.SocVerdict.TheVariants.{Lost, Kept, Open}
use Rattle.reception.specs.declared.FrameAnswer.{FrameAnswer}
use Rattle.reception.specs.declared.FrameAnswer.TheVariants.{NotOurs, Ours}
use Rattle.powerlink_cn.specs.declared.answers.PlcnError.{PlcnError}
use Rattle.powerlink_cn.specs.declared.answers.PlcnErrors.{PlcnErrors}
use Rattle.powerlink_cn.specs.declared.answers.PlcnNmtAnswer.{PlcnNmtAnswer}
use Rattle.powerlink_cn.specs.declared.answers.PlcnErrorAnswer.{PlcnErrorAnswer}
use Rattle.powerlink_cn.specs.declared.answers.PlcnFrameAnswer.{PlcnFrameAnswer}
use Rattle.powerlink_cn.specs.declared.answers.PlcnDueAnswer.{PlcnDueAnswer}
use Rattle.powerlink_cn.specs.declared.entry.PlcnHandedOut.{PlcnHandedOut}
use Rattle.powerlink_cn.specs.Answers.{c_errors, c_nmt, c_taken, c_cycle, c_margin, c_frame, c_due, no_error, verdict_number}
use Rattle.powerlink_cn.specs.Entries.{c_entry, read_entry, c_handed_out}
use Rattle.powerlink_cn.specs.Readings.{reset_named}

-- all errors, by their kinds' numbers; a is the node that one carries, or a and b are its state and
-- event
abbrev pub errors_with : ℕ → ℕ → List DllError
errors_with a b =
    LossOfLink ∷
    BadPhysicalMode ∷
    MacBuffer ∷
    Crc ∷
    Collision ∷
    InvalidFormat ∷
    LossOfSoc ∷
    LossOfSoa ∷
    LossOfPreq ∷
    LossOfPres (node a) ∷
    LossOfStatusRes (node a) ∷
    CycleTimeExceeded ∷
    LatePres (node a) ∷
    SoCJitter ∷
    MsWaitSoc ∷
    MultipleMn ∷
    AddressConflict ∷
    MevAsndTimeout ∷
    UnexpectedEventInState a b ∷
    PdoMapVersion (node a) ∷
    PdoPayloadShort (node a) ∷
    HeartbeatTimeout (node a) ∷
    []

-- an error
abbrev pub error_in : PlcnError → DllError
error_in c = get_or (errors_with c.a c.b) c.kind LossOfLink

-- the errors of a count, and the two that there may be
abbrev pub counted : ℕ → DllError → DllError → DllErrors
counted zero e f = None
counted (suc zero) e f = One e
counted (suc (suc n)) e f = Two e f

-- the errors of a call
abbrev pub errors_in : PlcnErrors → DllErrors
errors_in c = counted c.count (error_in (get_or c.error 0 no_error)) (error_in (get_or c.error 1 no_error))

-- what an NMT event answers
abbrev pub nmt_in : PlcnNmtAnswer → NmtTaken
nmt_in c = record { errors = errors_in c.errors; reset = reset_named c.reset }

-- an action, of its number and its node
abbrev pub action_in : ℕ → ℕ → NmtAction
action_in zero n = action.None
action_in (suc zero) n = action.ResetCommunication
action_in (suc (suc k)) n = action.ResetNode (node n)

-- whether a flag is set
abbrev pub flag_in : ℕ → Bool
flag_in zero = false
flag_in (suc n) = true

-- what an error answers
abbrev pub taken_in : PlcnErrorAnswer → ErrorTaken
taken_in c =
    record {
      action = action_in c.action c.action_node;
      signal = flag_in c.signal;
      logged = errors_in c.logged;
    }

-- a thing that may be there
abbrev pub there : {A : Type 0} → ℕ → A → Option A
there zero a = option.None
there (suc n) a = option.Some a

-- when the next tick is due
abbrev pub due_in : PlcnDueAnswer → Option ℕ
due_in c = there c.there c.time_us

-- what a frame answers that is ours, or is not
abbrev pub frame_with : ℕ → PlcnFrameAnswer → FrameAnswer
frame_with zero c = NotOurs
frame_with (suc n) c = Ours (record { logged = errors_in c.logged; nmt = there c.has_nmt (nmt_in c.nmt) })

-- what a frame answers
abbrev pub frame_in : PlcnFrameAnswer → FrameAnswer
frame_in c = frame_with c.ours c

-- a verdict
abbrev pub verdict_in : ℕ → SocVerdict
verdict_in zero = Lost
verdict_in (suc zero) = Kept
verdict_in (suc (suc n)) = Open

-- the entry that was handed out, if any
abbrev pub handed_out_in : PlcnHandedOut → Option (Result ErrorEntry Refusal)
handed_out_in c = there c.there (read_entry c.entry)

-- The law: what is read back is what was packed. An entry is read back by `read_entry`, as the
-- library itself reads one that C gives.
pub record ReadBack : Type 0 where
  pub errors : (es : DllErrors) → errors_in (c_errors es) ≡ es
  pub nmt : (t : NmtTaken) → nmt_in (c_nmt t) ≡ t
  pub taken : (t : ErrorTaken) → taken_in (c_taken t) ≡ t
  pub due : (d : Option ℕ) → due_in (c_due d) ≡ d
  pub frame : (a : FrameAnswer) → frame_in (c_frame a) ≡ a
  pub entry : (e : ErrorEntry) → read_entry (c_entry e) ≡ Ok e
  pub handed_out : (e : ErrorEntry) → handed_out_in (c_handed_out (option.Some e)) ≡ option.Some (Ok e)
  pub none_waits : handed_out_in (c_handed_out option.None) ≡ option.None
  pub cycle : (b : Bool) → flag_in (c_cycle b).cleared ≡ b
  pub margin : (z : ℤ) → (c_margin z).margin_us ≡ z
  pub verdict : (v : SocVerdict) → verdict_in (verdict_number v) ≡ v
