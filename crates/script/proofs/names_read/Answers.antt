-- The law of each enum.
use Rattle.script.proofs.Spellings.{events_read, cs_events_read, kinds_read, states_read, commands_read}
use Rattle.script.proofs.names_read.Goals as goal

pub returns : goal.returns
returns c = record { nmt = events_read; dll = cs_events_read; kind = kinds_read; state = states_read; command = commands_read }
