-- Each name reads as the number of what it names: no name is a number, and none is the name of two items.
-- Assumes nothing.
use Rattle.std.proofs.Common.{refl, Some}
use Rattle.types.specs.States.{states, state_number}
use Rattle.types.specs.Events.{events, event_number, commands, command_number}
use Rattle.types.specs.CsEvents.{cs_events, cs_event_number}
use Rattle.types.specs.Kinds.{error_kinds, kind_place}
use Rattle.types.specs.Names.{state_name, event_name, command_name, cs_event_name, kind_name}
use Rattle.types.specs.declared.nmt.events.NmtStateCommand.TheVariants as command
use Rattle.types.proofs.Cases.{everywhere, NmtStates, NmtEvents, DllCsEvents, DllErrorKinds}
use Rattle.script.specs.Reads.{number_of, value_from}
use Rattle.script.specs.Numerals.{NamesRead, numeral_of, number_named, event_named, cs_event_named, kind_named, state_named}

pub events_read : NamesRead event_name event_number events
unfolding numeral_of number_named number_of value_from
events_read = everywhere NmtEvents (λ e. numeral_of event_named (event_name e)) (λ e. Some (event_number e)) refl refl

pub cs_events_read : NamesRead cs_event_name cs_event_number cs_events
unfolding numeral_of number_named number_of value_from
cs_events_read = everywhere DllCsEvents (λ e. numeral_of cs_event_named (cs_event_name e)) (λ e. Some (cs_event_number e)) refl refl

pub kinds_read : NamesRead kind_name kind_place error_kinds
unfolding numeral_of number_named number_of value_from
kinds_read = everywhere DllErrorKinds (λ k. numeral_of kind_named (kind_name k)) (λ k. Some (kind_place k)) refl refl

pub states_read : NamesRead state_name state_number states
unfolding numeral_of number_named number_of value_from
states_read = everywhere NmtStates (λ s. numeral_of state_named (state_name s)) (λ s. Some (state_number s)) refl refl

pub commands_read : NamesRead command_name command_number commands
unfolding numeral_of number_named number_of value_from
commands_read command.StartNode = refl
commands_read command.StopNode = refl
commands_read command.EnterPreOperational2 = refl
commands_read command.EnableReadyToOperate = refl
commands_read command.ResetNode = refl
commands_read command.ResetCommunication = refl
commands_read command.ResetConfiguration = refl
commands_read command.SwReset = refl
