-- The NMT commands and events, their numbers, the reading of a number, and the event that a command
-- is.
-- Assumes nothing.
use Rattle.std.specs.Prelude.{ℕ, Bool, List, [], ◌∷◌, eqb}
use Rattle.types.specs.Pick.{read_by}
use Rattle.types.specs.declared.refusals.Refusal.TheVariants.{UnknownNumber}
use Rattle.types.specs.declared.nmt.events.NmtEvent.{NmtEvent}
use Rattle.types.specs.declared.nmt.events.NmtEvent.TheVariants.{StartNode, StopNode, EnterPreOperational2, EnableReadyToOperate, Reset, SwReset, ResetNode, ResetCommunication, ResetConfiguration, EnterEplMode, Timeout, Error, SoAReceived, SocReceived, PowerlinkFrameReceived, CnConfigurationComplete, AllCnsIdentified, ConfigurationCompleteCnsReady, AllMandatoryCnsOperational}
use Rattle.std.specs.declared.result.Result.{Result}
use Rattle.std.specs.declared.result.Result.TheVariants.{Ok, Err}
use Rattle.types.specs.declared.refusals.Refusal.{Refusal}
use Rattle.types.specs.declared.nmt.events.NmtStateCommand.{NmtStateCommand}
use Rattle.types.specs.declared.nmt.events.NmtStateCommand.TheVariants as command
use Rattle.types.specs.declared.nmt.events.NmtManagingCommand.{NmtManagingCommand}
use Rattle.types.specs.declared.nmt.events.NmtManagingCommand.TheVariants.{NmtNetHostNameSet, NmtFlushArpEntry}

-- a state command's number, within 0x20 to 0x3F (DS 301, Appendix 3.7)
abbrev pub command_number : NmtStateCommand → ℕ
command_number command.StartNode = 0x21
command_number command.StopNode = 0x22
command_number command.EnterPreOperational2 = 0x23
command_number command.EnableReadyToOperate = 0x24
command_number command.ResetNode = 0x28
command_number command.ResetCommunication = 0x29
command_number command.ResetConfiguration = 0x2A
command_number command.SwReset = 0x2B

-- all state commands, in the order of the enum
abbrev pub commands : List NmtStateCommand
commands =
    command.StartNode ∷
    command.StopNode ∷
    command.EnterPreOperational2 ∷
    command.EnableReadyToOperate ∷
    command.ResetNode ∷
    command.ResetCommunication ∷
    command.ResetConfiguration ∷
    command.SwReset ∷
    []

-- the state command of a number, or the refusal UnknownNumber
unfoldable pub read_command : ℕ → Result NmtStateCommand Refusal
read_command n = read_by command_number Ok (Err UnknownNumber) commands n

-- a managing command's number, within 0x60 to 0x7F (DS 301, Appendix 3.7)
abbrev pub managing_number : NmtManagingCommand → ℕ
managing_number NmtNetHostNameSet = 0x62
managing_number NmtFlushArpEntry = 0x63

-- all managing commands, in the order of the enum
abbrev pub managings : List NmtManagingCommand
managings = NmtNetHostNameSet ∷ NmtFlushArpEntry ∷ []

-- the managing command of a number, or the refusal UnknownNumber
unfoldable pub read_managing : ℕ → Result NmtManagingCommand Refusal
read_managing n = read_by managing_number Ok (Err UnknownNumber) managings n

-- an NMT event's number: its place in the enum, from 0 (RULES 4.9)
abbrev pub event_number : NmtEvent → ℕ
event_number StartNode = 0
event_number StopNode = 1
event_number EnterPreOperational2 = 2
event_number EnableReadyToOperate = 3
event_number Reset = 4
event_number SwReset = 5
event_number ResetNode = 6
event_number ResetCommunication = 7
event_number ResetConfiguration = 8
event_number EnterEplMode = 9
event_number Timeout = 10
event_number Error = 11
event_number SoAReceived = 12
event_number SocReceived = 13
event_number PowerlinkFrameReceived = 14
event_number CnConfigurationComplete = 15
event_number AllCnsIdentified = 16
event_number ConfigurationCompleteCnsReady = 17
event_number AllMandatoryCnsOperational = 18

-- all NMT events, in the order of the enum
abbrev pub events : List NmtEvent
events =
    StartNode ∷
    StopNode ∷
    EnterPreOperational2 ∷
    EnableReadyToOperate ∷
    Reset ∷
    SwReset ∷
    ResetNode ∷
    ResetCommunication ∷
    ResetConfiguration ∷
    EnterEplMode ∷
    Timeout ∷
    Error ∷
    SoAReceived ∷
    SocReceived ∷
    PowerlinkFrameReceived ∷
    CnConfigurationComplete ∷
    AllCnsIdentified ∷
    ConfigurationCompleteCnsReady ∷
    AllMandatoryCnsOperational ∷
    []

-- two NMT events are the same
abbrev pub same_event : NmtEvent → NmtEvent → Bool
same_event d e = eqb (event_number d) (event_number e)

-- the NMT event of a number, or the refusal UnknownNumber
unfoldable pub read_event : ℕ → Result NmtEvent Refusal
read_event n = read_by event_number Ok (Err UnknownNumber) events n

-- the NMT event that a received state command is: the one of its name
abbrev pub command_event : NmtStateCommand → NmtEvent
command_event command.StartNode = StartNode
command_event command.StopNode = StopNode
command_event command.EnterPreOperational2 = EnterPreOperational2
command_event command.EnableReadyToOperate = EnableReadyToOperate
command_event command.ResetNode = ResetNode
command_event command.ResetCommunication = ResetCommunication
command_event command.ResetConfiguration = ResetConfiguration
command_event command.SwReset = SwReset
