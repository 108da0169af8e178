-- Entries, frames and numbers for C.
-- Assumes nothing.
use Rattle.std.specs.Prelude.{ℕ, ◌≡◌, List, [], ◌∷◌, length}
use Rattle.std.specs.List.{slice_get}
use Rattle.std.specs.declared.option.Option.{Option}
use Rattle.std.specs.declared.option.Option.TheVariants.{Some, None}
use Rattle.std.specs.declared.result.Result.{Result}
use Rattle.std.specs.declared.result.Result.TheVariants.{Ok, Err}
use Rattle.types.specs.Frames.{message_number}
use Rattle.types.specs.Events.{command_number}
use Rattle.types.specs.States.{state_number}
use Rattle.types.specs.Pick.{read_by}
use Rattle.types.specs.Refusals.{refusal_number}
use Rattle.types.specs.declared.nmt.states.NmtState.{NmtState}
use Rattle.types.specs.declared.refusals.Refusal.{Refusal}
use Rattle.nmt.specs.Resets.{entered_states, restored_ranges}
use Rattle.nmt.specs.declared.state_machine.IndexRange.{IndexRange}
use Rattle.nmt.specs.declared.state_machine.ResetSequence.{ResetSequence}
use Rattle.nmt.specs.declared.state_machine.ResetSequence.TheVariants as reset
use Rattle.entries.specs.Desk.{Reply, write_reply, desk_after}
use Rattle.entries.specs.declared.status_response.ErrorEntry.{ErrorEntry}
use Rattle.frames.specs.Frame.{message_type}
use Rattle.frames.specs.declared.Frame.{Frame}
use Rattle.frames.specs.declared.Message.{Message}
use Rattle.frames.specs.declared.Message.TheVariants.{SoC, PReq, PRes, SoA, ASnd}
use Rattle.frames.specs.declared.Service.{Service}
use Rattle.frames.specs.declared.Service.TheVariants.{NmtCommand, Other}
use Rattle.powerlink_cn.specs.Answers.{reset_number}
use Rattle.powerlink_cn.specs.declared.readings.PlcnFrame.{PlcnFrame}
use Rattle.powerlink_cn.specs.declared.readings.PlcnIndexRange.{PlcnIndexRange}
use Rattle.powerlink_cn.specs.declared.readings.PlcnResetSteps.{PlcnResetSteps}

-- the number of an answer of the desk: 0, or that of the refusal
abbrev pub reply_number : {A : Type 0} → Reply A → ℕ
reply_number (Reply.turned_away n) = n
reply_number (Reply.gives a) = 0

-- of an entry that is written at a place of the bytes s, as it was read: with a mode that is none
-- it is refused, and no byte changes; else it is written as on the desk
abbrev pub WroteEntry : List ℕ → ℕ → Result ErrorEntry Refusal → ℕ → List ℕ → Type 0
WroteEntry s at (Err r) n s' = (n ≡ refusal_number r) × (s' ≡ s)
WroteEntry s at (Ok e) n s' = (n ≡ reply_number (write_reply s at e)) × (s' ≡ desk_after s at e)

-- the ID of a service
abbrev pub service_id : Service → ℕ
service_id (NmtCommand c) = 4
service_id (Other n) = n

-- the state command of a service, or 0
abbrev pub service_command : Service → ℕ
service_command (NmtCommand c) = command_number c
service_command (Other n) = 0

-- the service of a message, or 0
abbrev pub service_number : Message → ℕ
service_number SoC = 0
service_number PReq = 0
service_number PRes = 0
service_number SoA = 0
service_number (ASnd s) = service_id s

-- the state command of a message, or 0
abbrev pub message_command : Message → ℕ
message_command SoC = 0
message_command PReq = 0
message_command PRes = 0
message_command SoA = 0
message_command (ASnd s) = service_command s

-- what is read of a frame
abbrev pub c_frame_read : Frame → PlcnFrame
c_frame_read f =
    record {
      message = message_number (message_type f.message);
      destination = f.destination;
      source = f.source;
      service = service_number f.message;
      command = message_command f.message;
    }

-- the resets that there are
abbrev pub resets : List ResetSequence
resets = reset.Whole ∷ reset.Node ∷ reset.Communication ∷ reset.Configuration ∷ []

-- the reset that has a number; no reset where none has it
abbrev pub reset_named : ℕ → ResetSequence
reset_named n = read_by reset_number (λ r. r) reset.None resets n

-- the number of a state, or 0
abbrev pub state_or_zero : Option NmtState → ℕ
state_or_zero (Some s) = state_number s
state_or_zero None = 0

-- a range
abbrev pub index_range : ℕ → ℕ → PlcnIndexRange
index_range a b = record { first = a; last = b }

-- a range, or zeros
abbrev pub range_or_zero : Option IndexRange → PlcnIndexRange
range_or_zero (Some r) = index_range r.first r.last
range_or_zero None = index_range 0 0

-- states and ranges, with their counts and zeros behind them
abbrev pub steps : List NmtState → List IndexRange → PlcnResetSteps
steps ss rs =
    record {
      states = length ss;
      state =
          state_or_zero (slice_get ss 0) ∷
          state_or_zero (slice_get ss 1) ∷
          state_or_zero (slice_get ss 2) ∷
          state_or_zero (slice_get ss 3) ∷
          state_or_zero (slice_get ss 4) ∷
          [];
      ranges = length rs;
      range =
          range_or_zero (slice_get rs 0) ∷
          range_or_zero (slice_get rs 1) ∷
          range_or_zero (slice_get rs 2) ∷
          [];
    }

-- what a reset passes
abbrev pub c_steps : ResetSequence → PlcnResetSteps
c_steps r = steps (entered_states r) (restored_ranges r)
