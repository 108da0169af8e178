-- Which bytes are a frame, and which are refused for what (RULES 13.1, 13.2): bytes b are those of
-- an Ethernet frame from byte 12 on, behind the two addresses.
-- Assumes nothing.
use Rattle.std.specs.Prelude.{ℕ, ◌≡◌, ◌≢◌, ◌<◌, List, [], ◌∷◌, ◌++◌, length, ⊤}
use Rattle.types.specs.Frames.{message_number}
use Rattle.types.specs.Events.{command_number}
use Rattle.types.specs.declared.types.MessageType.{MessageType}
use Rattle.types.specs.declared.refusals.Refusal.{Refusal}
use Rattle.types.specs.declared.refusals.Refusal.TheVariants.{FrameTooShort, OtherEtherType, OtherMessageType, UnknownNumber}
use Rattle.types.specs.declared.nmt.events.NmtStateCommand.{NmtStateCommand}
use Rattle.frames.specs.declared.Service.{Service}
use Rattle.frames.specs.declared.Service.TheVariants.{NmtCommand, Other}
use Rattle.frames.specs.declared.Message.{Message}
use Rattle.frames.specs.declared.Message.TheVariants.{ASnd}
use Rattle.frames.specs.declared.Frame.{Frame}
use Rattle.frames.specs.Frame.{message_type}

-- the bytes of a service: its ID, and behind ID 4 the command
abbrev pub service_bytes : Service → List ℕ
service_bytes (NmtCommand c) = 4 ∷ command_number c ∷ []
service_bytes (Other n) = n ∷ []

-- the bytes of a message behind the source: an ASnd's service
abbrev pub payload_bytes : Message → List ℕ
payload_bytes (ASnd s) = service_bytes s
payload_bytes other = []

-- the bytes of a frame: EtherType, message type, destination, source, and those of the message
abbrev pub frame_bytes : Frame → List ℕ
frame_bytes f =
    0x88 ∷ 0xAB ∷ message_number (message_type f.message) ∷ f.destination ∷ f.source ∷
    payload_bytes f.message

-- a service other than 4 has another ID than 4
abbrev pub HasItsId : Message → Type 0
HasItsId (ASnd (Other n)) = n ≢ 4
HasItsId other = ⊤

-- b begins with the bytes of the frame f; whatever stands behind them is not looked at
pub record IsFrame (b : List ℕ) (f : Frame) : Type 0 where
  pub rest : List ℕ
  pub begins : b ≡ frame_bytes f ++ rest
  pub service : HasItsId f.message

-- b is refused for this
pub data IsRefused : List ℕ → Refusal → Type 0 where
  -- fewer than 17 bytes with the addresses
  short : {b : List ℕ} → length b < 5 → IsRefused b FrameTooShort
  other_ether_type :
      {high low type destination source : ℕ} {payload : List ℕ} →
      high ∷ low ∷ [] ≢ 0x88 ∷ 0xAB ∷ [] →
      IsRefused (high ∷ low ∷ type ∷ destination ∷ source ∷ payload) OtherEtherType
  other_message_type :
      {type destination source : ℕ} {payload : List ℕ} →
      ((m : MessageType) → type ≢ message_number m) →
      IsRefused (0x88 ∷ 0xAB ∷ type ∷ destination ∷ source ∷ payload) OtherMessageType
  -- an ASnd without a service, and with service 4 and no command
  no_service :
      {destination source : ℕ} → IsRefused (0x88 ∷ 0xAB ∷ 6 ∷ destination ∷ source ∷ []) FrameTooShort
  no_command :
      {destination source : ℕ} →
      IsRefused (0x88 ∷ 0xAB ∷ 6 ∷ destination ∷ source ∷ 4 ∷ []) FrameTooShort
  -- with service 4 and another number than a state command's
  other_command :
      {destination source command : ℕ} {rest : List ℕ} →
      ((c : NmtStateCommand) → command ≢ command_number c) →
      IsRefused (0x88 ∷ 0xAB ∷ 6 ∷ destination ∷ source ∷ 4 ∷ command ∷ rest) UnknownNumber
