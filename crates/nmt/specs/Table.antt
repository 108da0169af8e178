-- The NMT machine's choice as a table (RULES 4.7). An entry says what an event makes of a state,
-- enabled and ready, and whether the pair is reported. Here: how an entry is packed, and which
-- entry the rules give.
-- Assumes nothing.
use Rattle.std.specs.Prelude.{ℕ, ◌+◌, ◌/◌, ◌%◌, List, [], ◌∷◌, Bool, true, false, eqb}
use Rattle.types.specs.Pick.{pick, read_by}
use Rattle.types.specs.States.{states, state_number, state_place}
use Rattle.types.specs.Events.{event_number, events}
use Rattle.types.specs.declared.nmt.events.NmtEvent.{NmtEvent}
use Rattle.types.specs.declared.nmt.events.NmtEvent.TheVariants.{StartNode}
use Rattle.types.specs.declared.nmt.states.NmtState.{NmtState}
use Rattle.types.specs.declared.nmt.states.NmtState.TheVariants.{NmtGsOff}
use Rattle.types.specs.declared.frame.error.types.DllError.{DllError}
use Rattle.types.specs.declared.frame.error.types.DllError.TheVariants.{UnexpectedEventInState}
use Rattle.nmt.specs.Nmt.{Outcome, processed}
use Rattle.nmt.specs.declared.cn_state_machine.CnNmtStateMachine.{CnNmtStateMachine}
use Rattle.nmt.specs.declared.table.Entry.{Entry}

-- the state at a place; GsOff where no state has the place
unfoldable pub state_at : ℕ → NmtState
state_at k = read_by state_place (λ s. s) NmtGsOff states k

-- the event at a place, which is its number; StartNode where no event has the place
unfoldable pub event_at : ℕ → NmtEvent
event_at k = read_by event_number (λ e. e) StartNode events k

-- an entry as a number: the place of the next state, plus 16 where ready, 32 where enabled, 64
-- where the pair is reported
abbrev pub packed : Entry → ℕ
packed x = state_place x.position.state + pick x.position.ready 16 0 + pick x.position.enabled 32 0 + pick x.unexpected 64 0

-- the entry that a number stands for
unfoldable pub unpacked : ℕ → Entry
unpacked k =
    record {
      position = record { state = state_at (k % 16); enabled = eqb (k / 32 % 2) 1; ready = eqb (k / 16 % 2) 1 };
      unexpected = eqb (k / 64 % 2) 1;
    }

-- the errors of an entry: the pair, where it has no row
abbrev pub reports : Bool → NmtState → NmtEvent → List DllError
reports unexpected s e = pick unexpected (UnexpectedEventInState (state_number s) (event_number e) ∷ []) []

-- whether there are any errors
abbrev pub some : List DllError → Bool
some [] = false
some (e ∷ es) = true

-- the entry of an outcome, whose only error can be that of the pair
abbrev pub entry_of : Outcome → Entry
entry_of o =
    record {
      position = record { state = o.machine.current_state; enabled = o.machine.ready_to_operate_enabled; ready = o.machine.app_ready };
      unexpected = some o.errors;
    }

-- a machine in a state, with enabled and ready; its node, flags and timeout choose nothing
abbrev pub standing : NmtState → Bool → Bool → CnNmtStateMachine
standing s enabled ready =
    record {
      current_state = s;
      node_id = record { 0 = 0 };
      feature_flags = record { 0 = 0 };
      basic_ethernet_timeout = 0;
      ready_to_operate_enabled = enabled;
      app_ready = ready;
    }

-- the entry that the rules give
unfoldable pub ruled : NmtState → NmtEvent → Bool → Bool → Entry
ruled s e enabled ready = entry_of (processed (standing s enabled ready) e)
