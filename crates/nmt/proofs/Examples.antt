-- Examples of NMT events (RULES 11.4), proved together over one table of them.
-- Assumes nothing.
use mathlib.Core.Path.{◌≡◌, refl}
use mathlib.Core.Bool.{Bool, true, false}
use mathlib.Core.List.{List, [], ◌∷◌, map}
use Rattle.types.specs.declared.frame.error.types.DllError.TheVariants.{UnexpectedEventInState}
use Rattle.types.specs.declared.nmt.events.NmtEvent.{NmtEvent}
use Rattle.types.specs.declared.nmt.events.NmtEvent.TheVariants.{SwReset, Timeout, EnableReadyToOperate, CnConfigurationComplete, EnterPreOperational2}
use Rattle.types.specs.declared.nmt.states.NmtState.{NmtState}
use Rattle.types.specs.declared.nmt.states.NmtState.TheVariants.{NmtGsInitialising, NmtGsResetApplication, NmtGsResetCommunication, NmtGsResetConfiguration, NmtNotActive, NmtBasicEthernet, NmtPreOperational2, NmtReadyToOperate}
use Rattle.nmt.specs.Resets.{is_reset, states_entered, reset_sequence, range}
use Rattle.nmt.specs.Nmt.{Outcome, row_of, enter, without_reset, applied, reset_by, processed}
use Rattle.nmt.specs.declared.cn_state_machine.CnNmtStateMachine.{CnNmtStateMachine}

pub record Example : Type 0 where
  pub before : CnNmtStateMachine
  pub event : NmtEvent
  pub after : Outcome

-- a machine of node 1
abbrev at : NmtState → Bool → Bool → CnNmtStateMachine
at s enabled ready =
    record {
      current_state = s;
      node_id = record { 0 = 1 };
      feature_flags = record { 0 = 0 };
      basic_ethernet_timeout = 5;
      ready_to_operate_enabled = enabled;
      app_ready = ready;
    }

abbrev whole_reset : Outcome
whole_reset =
    record {
      machine = at NmtNotActive false false;
      errors = [];
      reset =
          record {
            states = NmtGsInitialising ∷ NmtGsResetApplication ∷ NmtGsResetCommunication ∷ NmtGsResetConfiguration ∷ NmtNotActive ∷ [];
            ranges = range 0x2000 0x5FFF ∷ range 0x6000 0x9FFF ∷ range 0x1000 0x1FFF ∷ [];
          };
    }

abbrev examples : List Example
examples =
    -- fresh, SwReset: five states entered, NotActive
    record { before = at NmtGsInitialising false true; event = SwReset; after = whole_reset } ∷
    -- NotActive, Timeout: 0x1E
    record { before = at NmtNotActive false true; event = Timeout; after = without_reset (at NmtBasicEthernet false true) [] } ∷
    -- PreOperational2, withdrawn, EnableReadyToOperate: stays, enabled
    record { before = at NmtPreOperational2 false false; event = EnableReadyToOperate; after = without_reset (at NmtPreOperational2 true false) [] } ∷
    -- then the ready word: 0x6D
    record { before = at NmtPreOperational2 true false; event = CnConfigurationComplete; after = without_reset (at NmtReadyToOperate true true) [] } ∷
    -- ReadyToOperate, EnterPreOperational2: stays, error (0x6D, 2)
    record { before = at NmtReadyToOperate true true; event = EnterPreOperational2; after = without_reset (at NmtReadyToOperate true true) (UnexpectedEventInState 0x6D 2 ∷ []) } ∷
    []

pub examples_hold :
    map (λ (x : Example). processed x.before x.event) examples ≡ map (λ (x : Example). x.after) examples
unfolding is_reset states_entered reset_sequence row_of enter applied reset_by processed
examples_hold = refl
