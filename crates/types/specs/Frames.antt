-- The kinds of frames: their message types' numbers (DS 301, Appendix 3.1), the reading of a
-- number, and the events that a received frame is.
-- Assumes nothing.
use Rattle.std.specs.Prelude.{ℕ, List, [], ◌∷◌}
use Rattle.types.specs.Pick.{read_by}
use Rattle.types.specs.declared.types.MessageType.{MessageType}
use Rattle.types.specs.declared.types.MessageType.TheVariants.{SoC, PReq, PRes, SoA, ASnd}
use Rattle.types.specs.declared.types.UnknownMessageType.{UnknownMessageType}
use Rattle.std.specs.declared.option.Option.{Option}
use Rattle.std.specs.declared.option.Option.TheVariants.{Some, None}
use Rattle.std.specs.declared.result.Result.{Result}
use Rattle.std.specs.declared.result.Result.TheVariants.{Ok, Err}
use Rattle.types.specs.declared.nmt.events.NmtEvent.{NmtEvent}
use Rattle.types.specs.declared.frame.cs_state_machine.DllCsEvent.{DllCsEvent}
use Rattle.types.specs.declared.frame.cs_state_machine.DllCsEvent.TheVariants.{Soc, Preq, Pres, Soa, Asnd}
use Rattle.types.specs.declared.nmt.events.NmtEvent.TheVariants.{SoAReceived, SocReceived}

-- a message type's number (DS 301, Appendix 3.1; RULES 5.3)
abbrev pub message_number : MessageType → ℕ
message_number SoC = 0x01
message_number PReq = 0x03
message_number PRes = 0x04
message_number SoA = 0x05
message_number ASnd = 0x06

-- all message types, in the order of the enum
abbrev pub messages : List MessageType
messages = SoC ∷ PReq ∷ PRes ∷ SoA ∷ ASnd ∷ []

-- the message type of a number, or UnknownMessageType where none has it
unfoldable pub read_message : ℕ → Result MessageType UnknownMessageType
read_message n = read_by message_number Ok (Err (record {})) messages n

-- the DLL event that a received frame is: the one of its name
abbrev pub frame_cs_event : MessageType → DllCsEvent
frame_cs_event SoC = Soc
frame_cs_event PReq = Preq
frame_cs_event PRes = Pres
frame_cs_event SoA = Soa
frame_cs_event ASnd = Asnd

-- the NMT event that a received frame is: SoC and SoA have one, the other frames none
abbrev pub frame_nmt_event : MessageType → Option NmtEvent
frame_nmt_event SoC = Some SocReceived
frame_nmt_event PReq = None
frame_nmt_event PRes = None
frame_nmt_event SoA = Some SoAReceived
frame_nmt_event ASnd = None
