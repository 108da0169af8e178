-- What C is given for an answer of the library.
-- Assumes nothing.
use Rattle.std.specs.Prelude.{ℕ, ℤ, ◌≡◌, Bool, [], ◌∷◌}
use Rattle.std.specs.declared.result.Result.{Result}
use Rattle.std.specs.declared.result.Result.TheVariants.{Ok, Err}
use Rattle.std.specs.declared.option.Option.{Option}
use Rattle.std.specs.declared.option.Option.TheVariants as option
use Rattle.types.specs.Errors.{error_kind_of, action_number}
use Rattle.types.specs.Refusals.{refusal_number}
use Rattle.types.specs.declared.refusals.Refusal.{Refusal}
use Rattle.types.specs.declared.frame.error.types.NmtAction.{NmtAction}
use Rattle.types.specs.declared.frame.error.types.NmtAction.TheVariants as action
use Rattle.types.specs.declared.frame.error.types.DllError.{DllError}
use Rattle.types.specs.declared.frame.error.types.DllError.TheVariants.{LossOfLink, BadPhysicalMode, MacBuffer, Crc, Collision, InvalidFormat, LossOfSoc, LossOfSoa, LossOfPreq, LossOfPres, LossOfStatusRes, CycleTimeExceeded, LatePres, SoCJitter, MsWaitSoc, MultipleMn, AddressConflict, MevAsndTimeout, UnexpectedEventInState, PdoMapVersion, PdoPayloadShort, HeartbeatTimeout}
use Rattle.types.specs.declared.frame.error.types.DllErrors.{DllErrors}
use Rattle.types.specs.declared.frame.error.types.DllErrors.TheVariants.{None, One, Two}
use Rattle.entries.specs.Entry.{bit}
use Rattle.nmt.specs.declared.state_machine.ResetSequence.{ResetSequence}
use Rattle.nmt.specs.declared.state_machine.ResetSequence.TheVariants as reset
use Rattle.counters.specs.declared.counters.ErrorTaken.{ErrorTaken}
use Rattle.node.specs.declared.calls.NmtTaken.{NmtTaken}
use Rattle.node.specs.declared.range.SocVerdict.{SocVerdict}
use Rattle.node.specs.declared.range.SocVerdict.TheVariants.{Lost, Kept, Open}
use Rattle.reception.specs.declared.FrameAnswer.{FrameAnswer}
use Rattle.reception.specs.declared.FrameAnswer.TheVariants.{NotOurs, Ours}
use Rattle.powerlink_cn.specs.declared.answers.PlcnError.{PlcnError}
use Rattle.powerlink_cn.specs.declared.answers.PlcnErrors.{PlcnErrors}
use Rattle.powerlink_cn.specs.declared.answers.PlcnNmtAnswer.{PlcnNmtAnswer}
use Rattle.powerlink_cn.specs.declared.answers.PlcnErrorAnswer.{PlcnErrorAnswer}
use Rattle.powerlink_cn.specs.declared.answers.PlcnCycleAnswer.{PlcnCycleAnswer}
use Rattle.powerlink_cn.specs.declared.answers.PlcnRangeAnswer.{PlcnRangeAnswer}
use Rattle.powerlink_cn.specs.declared.answers.PlcnMarginAnswer.{PlcnMarginAnswer}
use Rattle.powerlink_cn.specs.declared.answers.PlcnDueAnswer.{PlcnDueAnswer}
use Rattle.powerlink_cn.specs.declared.answers.PlcnFrameAnswer.{PlcnFrameAnswer}

-- 0, or the number of the refusal
abbrev pub number_of : {A : Type 0} → Result A Refusal → ℕ
number_of (Ok a) = 0
number_of (Err r) = refusal_number r

-- what stands where an answer goes out: it, packed; a refusal leaves what stood there
abbrev pub sent : {A C : Type 0} → (A → C) → Result A Refusal → C → C
sent pack (Ok a) old = pack a
sent pack (Err r) old = old

-- that an answer went out, with the number n; `gives` is how it is packed
abbrev pub Sent : {A C : Type 0} → (A → C → Type 0) → Result A Refusal → ℕ → C → C → Type 0
Sent gives (Ok a) n old new = (n ≡ 0) × gives a new
Sent gives (Err r) n old new = (n ≡ refusal_number r) × (new ≡ old)

-- an error, by its kind and the two numbers that it carries
abbrev pub error : ℕ → ℕ → ℕ → PlcnError
error k a b = record { kind = k; a = a; b = b }

-- the two numbers that an error carries, with zeros for none, behind its kind
abbrev pub carries : DllError → ℕ → PlcnError
carries LossOfLink k = error k 0 0
carries BadPhysicalMode k = error k 0 0
carries MacBuffer k = error k 0 0
carries Crc k = error k 0 0
carries Collision k = error k 0 0
carries InvalidFormat k = error k 0 0
carries LossOfSoc k = error k 0 0
carries LossOfSoa k = error k 0 0
carries LossOfPreq k = error k 0 0
carries (LossOfPres n) k = error k n.0 0
carries (LossOfStatusRes n) k = error k n.0 0
carries CycleTimeExceeded k = error k 0 0
carries (LatePres n) k = error k n.0 0
carries SoCJitter k = error k 0 0
carries MsWaitSoc k = error k 0 0
carries MultipleMn k = error k 0 0
carries AddressConflict k = error k 0 0
carries MevAsndTimeout k = error k 0 0
carries (UnexpectedEventInState s e) k = error k s e
carries (PdoMapVersion n) k = error k n.0 0
carries (PdoPayloadShort n) k = error k n.0 0
carries (HeartbeatTimeout n) k = error k n.0 0

-- an error
abbrev pub c_error : DllError → PlcnError
c_error e = carries e (error_kind_of e)

-- no error
abbrev pub no_error : PlcnError
no_error = error 0 0 0

-- errors, by their count and the two that there may be
abbrev pub errors : ℕ → PlcnError → PlcnError → PlcnErrors
errors n e f = record { count = n; error = e ∷ f ∷ [] }

-- the errors of a call
abbrev pub c_errors : DllErrors → PlcnErrors
c_errors None = errors 0 no_error no_error
c_errors (One e) = errors 1 (c_error e) no_error
c_errors (Two e f) = errors 2 (c_error e) (c_error f)

-- a reset
abbrev pub reset_number : ResetSequence → ℕ
reset_number reset.None = 0
reset_number reset.Whole = 1
reset_number reset.Node = 2
reset_number reset.Communication = 3
reset_number reset.Configuration = 4

-- what an NMT event answers
abbrev pub c_nmt : NmtTaken → PlcnNmtAnswer
c_nmt t = record { errors = c_errors t.errors; reset = reset_number t.reset }

-- no answer to an NMT event
abbrev pub no_nmt : PlcnNmtAnswer
no_nmt = record { errors = c_errors None; reset = 0 }

-- the node of an action, with 0 for none
abbrev pub action_node : NmtAction → ℕ
action_node action.None = 0
action_node action.ResetCommunication = 0
action_node (action.ResetNode n) = n.0

-- what an error answers
abbrev pub c_taken : ErrorTaken → PlcnErrorAnswer
c_taken t =
    record {
      action = action_number t.action;
      action_node = action_node t.action;
      signal = bit t.signal;
      logged = c_errors t.logged;
    }

-- what a complete cycle answers
abbrev pub c_cycle : Bool → PlcnCycleAnswer
c_cycle b = record { cleared = bit b }

-- a verdict
abbrev pub verdict_number : SocVerdict → ℕ
verdict_number Lost = 0
verdict_number Kept = 1
verdict_number Open = 2

-- what a range answers
abbrev pub c_range : SocVerdict → PlcnRangeAnswer
c_range v = record { verdict = verdict_number v }

-- what a margin answers
abbrev pub c_margin : ℤ → PlcnMarginAnswer
c_margin z = record { margin_us = z }

-- when the next tick is due
abbrev pub c_due : Option ℕ → PlcnDueAnswer
c_due (option.Some t) = record { time_us = t; there = 1 }
c_due option.None = record { time_us = 0; there = 0 }

-- what the NMT event of a frame answers, behind what the frame logged
abbrev pub c_frame_taken : PlcnErrors → Option NmtTaken → PlcnFrameAnswer
c_frame_taken es (option.Some t) = record { ours = 1; logged = es; has_nmt = 1; nmt = c_nmt t }
c_frame_taken es option.None = record { ours = 1; logged = es; has_nmt = 0; nmt = no_nmt }

-- what a frame answers
abbrev pub c_frame : FrameAnswer → PlcnFrameAnswer
c_frame NotOurs = record { ours = 0; logged = c_errors None; has_nmt = 0; nmt = no_nmt }
c_frame (Ours d) = c_frame_taken (c_errors d.logged) d.nmt
