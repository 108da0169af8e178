-- What bytes are read as a frame (RULES 13.1, 13.2), and what others are refused for, in the order
-- of the tests.
-- Assumes nothing.
use Rattle.std.specs.Prelude.{ℕ, List, [], ◌∷◌, eqb, drop}
use Rattle.types.specs.Pick.{pick, both}
use Rattle.types.specs.Frames.{read_message, frame_nmt_event}
use Rattle.types.specs.Events.{read_command, command_event}
use Rattle.types.specs.declared.types.MessageType.{MessageType}
use Rattle.types.specs.declared.types.MessageType.TheVariants as kind
use Rattle.types.specs.declared.types.UnknownMessageType.{UnknownMessageType}
use Rattle.types.specs.declared.refusals.Refusal.{Refusal}
use Rattle.types.specs.declared.refusals.Refusal.TheVariants.{FrameTooShort, OtherEtherType, OtherMessageType}
use Rattle.types.specs.declared.nmt.events.NmtEvent.{NmtEvent}
use Rattle.types.specs.declared.nmt.events.NmtStateCommand.{NmtStateCommand}
use Rattle.std.specs.declared.option.Option.{Option}
use Rattle.std.specs.declared.option.Option.TheVariants.{Some}
use Rattle.std.specs.declared.result.Result.{Result}
use Rattle.std.specs.declared.result.Result.TheVariants.{Ok, Err}
use Rattle.frames.specs.declared.Service.{Service}
use Rattle.frames.specs.declared.Service.TheVariants.{NmtCommand, Other}
use Rattle.frames.specs.declared.Message.{Message}
use Rattle.frames.specs.declared.Message.TheVariants.{SoC, PReq, PRes, SoA, ASnd}
use Rattle.frames.specs.declared.Frame.{Frame}

-- the message type of a message
abbrev pub message_type : Message → MessageType
message_type SoC = kind.SoC
message_type PReq = kind.PReq
message_type PRes = kind.PRes
message_type SoA = kind.SoA
message_type (ASnd s) = kind.ASnd

-- the NMT event of a message: that of its type, or of the command that it carries
abbrev pub nmt_event_of : Message → Option NmtEvent
nmt_event_of (ASnd (NmtCommand c)) = Some (command_event c)
nmt_event_of other = frame_nmt_event (message_type other)

-- a service 4, NMTCommand, by the reading of its state command
abbrev pub nmt_command : Result NmtStateCommand Refusal → Result Service Refusal
nmt_command (Ok c) = Ok (NmtCommand c)
nmt_command (Err r) = Err r

-- a service 4 from the byte behind its ID on
abbrev pub read_nmt_command : List ℕ → Result Service Refusal
read_nmt_command [] = Err FrameTooShort
read_nmt_command (command ∷ rest) = nmt_command (read_command command)

-- an ASnd from its byte 17 on: the service's ID, and what is read of it
unfoldable pub read_service : List ℕ → Result Service Refusal
read_service [] = Err FrameTooShort
read_service (service ∷ rest) = pick (eqb service 4) (read_nmt_command rest) (Ok (Other service))

-- an ASnd by the reading of its service
abbrev pub asnd : Result Service Refusal → Result Message Refusal
asnd (Ok s) = Ok (ASnd s)
asnd (Err r) = Err r

-- a message from its type and the bytes from 17 on
abbrev pub read_payload : MessageType → List ℕ → Result Message Refusal
read_payload kind.SoC payload = Ok SoC
read_payload kind.PReq payload = Ok PReq
read_payload kind.PRes payload = Ok PRes
read_payload kind.SoA payload = Ok SoA
read_payload kind.ASnd payload = asnd (read_service payload)

-- a message by the reading of its type
abbrev pub by_type : Result MessageType UnknownMessageType → List ℕ → Result Message Refusal
by_type (Ok m) payload = read_payload m payload
by_type (Err r) payload = Err OtherMessageType

-- a frame by the reading of its message
abbrev pub addressed : ℕ → ℕ → Result Message Refusal → Result Frame Refusal
addressed destination source (Ok m) =
    Ok (record { message = m; destination = destination; source = source })
addressed destination source (Err r) = Err r

-- from byte 12 on: the EtherType in two bytes, the message type, the destination, the source, and
-- what the message carries
abbrev pub from_ether_type : List ℕ → Result Frame Refusal
from_ether_type (high ∷ low ∷ type ∷ destination ∷ source ∷ payload) =
    pick (both (eqb high 0x88) (eqb low 0xAB))
    (addressed destination source (by_type (read_message type) payload)) (Err OtherEtherType)
from_ether_type short = Err FrameTooShort

-- the reading of a frame: bytes 0 to 11 are the two addresses
unfoldable pub read_frame : List ℕ → Result Frame Refusal
read_frame bytes = from_ether_type (drop 12 bytes)
