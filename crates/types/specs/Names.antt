-- The names of states, events, commands and kinds of error, as the bytes of their texts.
-- Assumes nothing.
use Rattle.std.specs.Prelude.{ℕ, List, codes}
use Rattle.types.specs.declared.nmt.states.NmtState.{NmtState}
use Rattle.types.specs.declared.nmt.states.NmtState.TheVariants.{NmtGsOff, NmtGsInitialising, NmtGsResetApplication, NmtGsResetCommunication, NmtGsResetConfiguration, NmtNotActive, NmtPreOperational1, NmtPreOperational2, NmtReadyToOperate, NmtOperational, NmtCsStopped, NmtBasicEthernet}
use Rattle.types.specs.declared.nmt.events.NmtEvent.{NmtEvent}
use Rattle.types.specs.declared.nmt.events.NmtEvent.TheVariants as event
use Rattle.types.specs.declared.nmt.events.NmtStateCommand.{NmtStateCommand}
use Rattle.types.specs.declared.nmt.events.NmtStateCommand.TheVariants as command
use Rattle.types.specs.declared.nmt.events.NmtManagingCommand.{NmtManagingCommand}
use Rattle.types.specs.declared.nmt.events.NmtManagingCommand.TheVariants.{NmtNetHostNameSet, NmtFlushArpEntry}
use Rattle.types.specs.declared.frame.cs_state_machine.DllCsEvent.{DllCsEvent}
use Rattle.types.specs.declared.frame.cs_state_machine.DllCsEvent.TheVariants as cs_event
use Rattle.types.specs.declared.frame.error.kinds.DllErrorKind.{DllErrorKind}
use Rattle.types.specs.declared.frame.error.kinds.DllErrorKind.TheVariants as kind

-- a state's name without the standard's prefix
abbrev pub state_name : NmtState → List ℕ
state_name NmtGsOff = codes "GsOff"
state_name NmtGsInitialising = codes "GsInitialising"
state_name NmtGsResetApplication = codes "GsResetApplication"
state_name NmtGsResetCommunication = codes "GsResetCommunication"
state_name NmtGsResetConfiguration = codes "GsResetConfiguration"
state_name NmtNotActive = codes "NotActive"
state_name NmtPreOperational1 = codes "PreOperational1"
state_name NmtPreOperational2 = codes "PreOperational2"
state_name NmtReadyToOperate = codes "ReadyToOperate"
state_name NmtOperational = codes "Operational"
state_name NmtCsStopped = codes "CsStopped"
state_name NmtBasicEthernet = codes "BasicEthernet"

-- a state's name as the standard writes it, in capitals and with its prefix
abbrev pub standard_state_name : NmtState → List ℕ
standard_state_name NmtGsOff = codes "NMT_GS_OFF"
standard_state_name NmtGsInitialising = codes "NMT_GS_INITIALISING"
standard_state_name NmtGsResetApplication = codes "NMT_GS_RESET_APPLICATION"
standard_state_name NmtGsResetCommunication = codes "NMT_GS_RESET_COMMUNICATION"
standard_state_name NmtGsResetConfiguration = codes "NMT_GS_RESET_CONFIGURATION"
standard_state_name NmtNotActive = codes "NMT_CS_NOT_ACTIVE"
standard_state_name NmtPreOperational1 = codes "NMT_CS_PRE_OPERATIONAL_1"
standard_state_name NmtPreOperational2 = codes "NMT_CS_PRE_OPERATIONAL_2"
standard_state_name NmtReadyToOperate = codes "NMT_CS_READY_TO_OPERATE"
standard_state_name NmtOperational = codes "NMT_CS_OPERATIONAL"
standard_state_name NmtCsStopped = codes "NMT_CS_STOPPED"
standard_state_name NmtBasicEthernet = codes "NMT_CS_BASIC_ETHERNET"

-- an NMT event's name
abbrev pub event_name : NmtEvent → List ℕ
event_name event.StartNode = codes "StartNode"
event_name event.StopNode = codes "StopNode"
event_name event.EnterPreOperational2 = codes "EnterPreOperational2"
event_name event.EnableReadyToOperate = codes "EnableReadyToOperate"
event_name event.Reset = codes "Reset"
event_name event.SwReset = codes "SwReset"
event_name event.ResetNode = codes "ResetNode"
event_name event.ResetCommunication = codes "ResetCommunication"
event_name event.ResetConfiguration = codes "ResetConfiguration"
event_name event.EnterEplMode = codes "EnterEplMode"
event_name event.Timeout = codes "Timeout"
event_name event.Error = codes "Error"
event_name event.SoAReceived = codes "SoAReceived"
event_name event.SocReceived = codes "SocReceived"
event_name event.PowerlinkFrameReceived = codes "PowerlinkFrameReceived"
event_name event.CnConfigurationComplete = codes "CnConfigurationComplete"
event_name event.AllCnsIdentified = codes "AllCnsIdentified"
event_name event.ConfigurationCompleteCnsReady = codes "ConfigurationCompleteCnsReady"
event_name event.AllMandatoryCnsOperational = codes "AllMandatoryCnsOperational"

-- a state command's name
abbrev pub command_name : NmtStateCommand → List ℕ
command_name command.StartNode = codes "StartNode"
command_name command.StopNode = codes "StopNode"
command_name command.EnterPreOperational2 = codes "EnterPreOperational2"
command_name command.EnableReadyToOperate = codes "EnableReadyToOperate"
command_name command.ResetNode = codes "ResetNode"
command_name command.ResetCommunication = codes "ResetCommunication"
command_name command.ResetConfiguration = codes "ResetConfiguration"
command_name command.SwReset = codes "SwReset"

-- a managing command's name
abbrev pub managing_name : NmtManagingCommand → List ℕ
managing_name NmtNetHostNameSet = codes "NetHostNameSet"
managing_name NmtFlushArpEntry = codes "FlushArpEntry"

-- a DLL event's name
abbrev pub cs_event_name : DllCsEvent → List ℕ
cs_event_name cs_event.Soc = codes "Soc"
cs_event_name cs_event.Preq = codes "Preq"
cs_event_name cs_event.Pres = codes "Pres"
cs_event_name cs_event.Soa = codes "Soa"
cs_event_name cs_event.Asnd = codes "Asnd"
cs_event_name cs_event.SocTimeout = codes "SocTimeout"

-- the name of a kind of error
abbrev pub kind_name : DllErrorKind → List ℕ
kind_name kind.LossOfLink = codes "LossOfLink"
kind_name kind.BadPhysicalMode = codes "BadPhysicalMode"
kind_name kind.MacBuffer = codes "MacBuffer"
kind_name kind.Crc = codes "Crc"
kind_name kind.Collision = codes "Collision"
kind_name kind.InvalidFormat = codes "InvalidFormat"
kind_name kind.LossOfSoc = codes "LossOfSoc"
kind_name kind.LossOfSoa = codes "LossOfSoa"
kind_name kind.LossOfPreq = codes "LossOfPreq"
kind_name kind.LossOfPres = codes "LossOfPres"
kind_name kind.LossOfStatusRes = codes "LossOfStatusRes"
kind_name kind.CycleTimeExceeded = codes "CycleTimeExceeded"
kind_name kind.LatePres = codes "LatePres"
kind_name kind.SoCJitter = codes "SoCJitter"
kind_name kind.MsWaitSoc = codes "MsWaitSoc"
kind_name kind.MultipleMn = codes "MultipleMn"
kind_name kind.AddressConflict = codes "AddressConflict"
kind_name kind.MevAsndTimeout = codes "MevAsndTimeout"
kind_name kind.UnexpectedEventInState = codes "UnexpectedEventInState"
kind_name kind.PdoMapVersion = codes "PdoMapVersion"
kind_name kind.PdoPayloadShort = codes "PdoPayloadShort"
kind_name kind.HeartbeatTimeout = codes "HeartbeatTimeout"
