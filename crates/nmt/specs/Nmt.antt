-- What an NMT event does to a controlled node's machine (RULES 4.1 to 4.4): the pairs of state and
-- event that have a row, and what each row's move means. NMT_CT2 to NMT_CT12 are DS 301's names of
-- the transitions, as the original's comments have them.
-- Assumes nothing.
use Rattle.std.specs.Prelude.{ℕ, List, [], ◌∷◌, ◌++◌, Bool, true, false}
use Rattle.types.specs.Pick.{pick, both, either}
use Rattle.types.specs.States.{state_number, same_state}
use Rattle.types.specs.Events.{event_number, same_event}
use Rattle.types.specs.Errors.{reported}
use Rattle.types.specs.declared.types.NodeId.{NodeId}
use Rattle.types.specs.declared.nmt.flags.FeatureFlags.{FeatureFlags}
use Rattle.types.specs.declared.frame.error.types.DllError.{DllError}
use Rattle.types.specs.declared.frame.error.types.DllError.TheVariants.{UnexpectedEventInState}
use Rattle.types.specs.declared.nmt.events.NmtEvent.{NmtEvent}
use Rattle.types.specs.declared.nmt.events.NmtEvent.TheVariants.{StartNode, StopNode, EnterPreOperational2, EnableReadyToOperate, Timeout, Error, SoAReceived, SocReceived, PowerlinkFrameReceived, CnConfigurationComplete}
use Rattle.types.specs.declared.nmt.states.NmtState.{NmtState}
use Rattle.types.specs.declared.nmt.states.NmtState.TheVariants.{NmtGsInitialising, NmtNotActive, NmtPreOperational1, NmtPreOperational2, NmtReadyToOperate, NmtOperational, NmtCsStopped, NmtBasicEthernet}
use Rattle.nmt.specs.Resets.{Passed, is_reset, states_entered, reset_sequence, passed}
use Rattle.nmt.specs.declared.cn_state_machine.CnNmtStateMachine.{CnNmtStateMachine}
use Rattle.nmt.specs.declared.cn_state_machine.NmtAnswer.{NmtAnswer}

-- what the row of a state and an event does
pub data Move : Type 0 where
  -- enter the state
  Goes : NmtState → Move
  -- keep the state, without an error
  Stays : Move
  -- set enabled; a ready machine enters the state
  Enables : NmtState → Move
  -- set ready; an enabled machine enters ReadyToOperate
  Readies : Move
  -- no row: keep the state and report the pair
  Unexpected : Move

-- a row of the machine's table (RULES 4.1)
pub record Row : Type 0 where
  pub state : NmtState
  pub event : NmtEvent
  pub does : Move

-- the row of the state s and the event e, which does m
abbrev pub row : NmtState → NmtEvent → Move → Row
row s e m = record { state = s; event = e; does = m }

-- the rows of the states before the cycle: NotActive, PreOperational1 and BasicEthernet
abbrev pub boot_up_rows : List Row
boot_up_rows =
    -- NMT_CT2
    row NmtNotActive SocReceived (Goes NmtPreOperational1) ∷
    row NmtNotActive SoAReceived (Goes NmtPreOperational1) ∷
    -- NMT_CT3
    row NmtNotActive Timeout (Goes NmtBasicEthernet) ∷
    -- NMT_CT4
    row NmtPreOperational1 SocReceived (Goes NmtPreOperational2) ∷
    -- NMT_CT12
    row NmtBasicEthernet PowerlinkFrameReceived (Goes NmtPreOperational1) ∷
    []

-- the rows of the states in the cycle: PreOperational2, ReadyToOperate, Operational and CsStopped
abbrev pub cyclic_rows : List Row
cyclic_rows =
    -- NMT_CT5
    row NmtPreOperational2 EnableReadyToOperate (Enables NmtReadyToOperate) ∷
    -- not in DS 301: a start in PreOperational2 is an enable and a start
    row NmtPreOperational2 StartNode (Enables NmtOperational) ∷
    -- NMT_CT6
    row NmtPreOperational2 CnConfigurationComplete Readies ∷
    -- given again, they change nothing and are no error
    row NmtReadyToOperate EnableReadyToOperate Stays ∷
    row NmtReadyToOperate CnConfigurationComplete Stays ∷
    -- NMT_CT7
    row NmtReadyToOperate StartNode (Goes NmtOperational) ∷
    -- NMT_CT8
    row NmtPreOperational2 StopNode (Goes NmtCsStopped) ∷
    row NmtReadyToOperate StopNode (Goes NmtCsStopped) ∷
    row NmtOperational StopNode (Goes NmtCsStopped) ∷
    -- NMT_CT9
    row NmtOperational EnterPreOperational2 (Goes NmtPreOperational2) ∷
    -- NMT_CT10
    row NmtCsStopped EnterPreOperational2 (Goes NmtPreOperational2) ∷
    -- NMT_CT11
    row NmtPreOperational2 Error (Goes NmtPreOperational1) ∷
    row NmtReadyToOperate Error (Goes NmtPreOperational1) ∷
    row NmtOperational Error (Goes NmtPreOperational1) ∷
    row NmtCsStopped Error (Goes NmtPreOperational1) ∷
    []

-- the move of a state and an event by their row among some; Unexpected where they have none
abbrev pub examine : List Row → NmtState → NmtEvent → Move
examine [] s e = Unexpected
examine (r ∷ rs) s e = pick (both (same_state s r.state) (same_event e r.event)) r.does (examine rs s e)

-- the move of a state and an event
unfoldable pub row_of : NmtState → NmtEvent → Move
row_of s e = examine (boot_up_rows ++ cyclic_rows) s e

-- a new machine is at GsInitialising, not enabled, ready
abbrev pub new_machine : NodeId → FeatureFlags → ℕ → CnNmtStateMachine
new_machine n f t =
    record {
      current_state = NmtGsInitialising;
      node_id = n;
      feature_flags = f;
      basic_ethernet_timeout = t;
      ready_to_operate_enabled = false;
      app_ready = true;
    }

-- the machine with another state, enabled and ready
abbrev pub with : CnNmtStateMachine → NmtState → Bool → Bool → CnNmtStateMachine
with m s enabled ready =
    record {
      current_state = s;
      node_id = m.node_id;
      feature_flags = m.feature_flags;
      basic_ethernet_timeout = m.basic_ethernet_timeout;
      ready_to_operate_enabled = enabled;
      app_ready = ready;
    }

-- entering any state but PreOperational2 and ReadyToOperate clears enabled
unfoldable pub enter : CnNmtStateMachine → NmtState → CnNmtStateMachine
enter m s =
    with m s
    (pick (either (same_state s NmtPreOperational2) (same_state s NmtReadyToOperate)) m.ready_to_operate_enabled false)
    m.app_ready

-- some states entered, one after the other
abbrev pub enter_all : CnNmtStateMachine → List NmtState → CnNmtStateMachine
enter_all m [] = m
enter_all m (s ∷ ss) = enter_all (enter m s) ss

-- the machine with enabled set: the managing node allowed ReadyToOperate
abbrev pub enabled : CnNmtStateMachine → CnNmtStateMachine
enabled m = with m m.current_state true m.app_ready

-- the machine with ready set: the application is ready
abbrev pub ready : CnNmtStateMachine → CnNmtStateMachine
ready m = with m m.current_state m.ready_to_operate_enabled true

-- what an event leaves and answers: the machine, its errors, and what a reset passes
pub record Outcome : Type 0 where
  pub machine : CnNmtStateMachine
  -- the errors reported, which are not counted
  pub errors : List DllError
  -- the states passed and the ranges to restore; both lists are empty where no reset was taken
  pub reset : Passed

-- what an answer of the machine stands for
abbrev pub outcome : NmtAnswer → Outcome
outcome a = record { machine = a.machine; errors = reported a.errors; reset = passed a.reset }

-- an event that is no reset enters no state on the way and restores nothing
abbrev pub without_reset : CnNmtStateMachine → List DllError → Outcome
without_reset m es = record { machine = m; errors = es; reset = record { states = []; ranges = [] } }

-- what a move makes of a machine and an event
unfoldable pub applied : CnNmtStateMachine → NmtEvent → Move → Outcome
applied m e (Goes s) = without_reset (enter m s) []
applied m e Stays = without_reset m []
applied m e (Enables s) = without_reset (pick m.app_ready (enter (enabled m) s) (enabled m)) []
applied m e Readies = without_reset (pick m.ready_to_operate_enabled (enter (ready m) NmtReadyToOperate) (ready m)) []
applied m e Unexpected = without_reset m (UnexpectedEventInState (state_number m.current_state) (event_number e) ∷ [])

-- the machine with ready cleared: the application is not ready any more
abbrev pub unready : CnNmtStateMachine → CnNmtStateMachine
unready m = with m m.current_state m.ready_to_operate_enabled false

-- a reset enters its states one after the other, without errors, and clears ready (RULES 4.4, 4.5)
unfoldable pub reset_by : CnNmtStateMachine → NmtEvent → Outcome
reset_by m e = record { machine = unready (enter_all m (states_entered e)); errors = []; reset = reset_sequence e }

-- what the machine makes of an NMT event: a reset, or the move of its row (RULES 4)
unfoldable pub processed : CnNmtStateMachine → NmtEvent → Outcome
processed m e = pick (is_reset e) (reset_by m e) (applied m e (row_of m.current_state e))
