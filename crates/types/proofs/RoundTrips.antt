-- Reading the number of an item gives the item, and an accepted number is the number of what was read: each reading is true to its numbers.
-- Assumes nothing.
use Prim.Native.Nat.{ℕ}
use mathlib.Core.Path.{◌≡◌, refl, ap}
use native.Mathlib.Omega.{arith}
use Rattle.types.specs.Types.{read_node}
use Rattle.types.specs.States.{state_number, states, read_state}
use Rattle.types.specs.Events.{command_number, commands, read_command, managing_number, managings, read_managing, event_number, events, read_event}
use Rattle.types.specs.CsEvents.{cs_event_number, cs_events, read_cs_event}
use Rattle.types.specs.Frames.{message_number, messages, read_message}
use Rattle.types.specs.Kinds.{kind_place, error_kinds, read_kind}
use Rattle.types.specs.Errors.{Kind, kinds, carried, error_kind_of, read_error}
use Rattle.types.specs.declared.refusals.Refusal.TheVariants.{UnknownNumber}
use Rattle.std.specs.declared.result.Result.{Result}
use Rattle.std.specs.declared.result.Result.TheVariants.{Ok, Err}
use Rattle.types.specs.declared.types.NodeId.{NodeId}
use Rattle.types.specs.declared.refusals.Refusal.{Refusal}
use Rattle.types.specs.declared.nmt.events.NmtStateCommand.{NmtStateCommand}
use Rattle.types.specs.declared.nmt.events.NmtStateCommand.TheVariants.{StartNode, StopNode, EnterPreOperational2, EnableReadyToOperate, ResetNode, ResetCommunication, ResetConfiguration, SwReset}
use Rattle.types.specs.declared.nmt.events.NmtManagingCommand.{NmtManagingCommand}
use Rattle.types.specs.declared.nmt.events.NmtManagingCommand.TheVariants.{NmtNetHostNameSet, NmtFlushArpEntry}
use Rattle.types.specs.declared.frame.error.types.DllError.{DllError}
use Rattle.types.specs.declared.frame.error.types.DllError.TheVariants.{LossOfLink, BadPhysicalMode, MacBuffer, Crc, Collision, InvalidFormat, LossOfSoc, LossOfSoa, LossOfPreq, LossOfPres, LossOfStatusRes, CycleTimeExceeded, LatePres, SoCJitter, MsWaitSoc, MultipleMn, AddressConflict, MevAsndTimeout, UnexpectedEventInState, PdoMapVersion, PdoPayloadShort, HeartbeatTimeout}
use Rattle.types.proofs.Cases.{everywhere, NmtStates, NmtEvents, DllCsEvents, MessageTypes, DllErrorKinds}
use Rattle.types.proofs.ErrorCases.{carried_a, carried_b}
use Rattle.types.proofs.Reading.{Faithful, faithful, reads_holds}

pub states_faithful : Faithful state_number Ok read_state
unfolding read_state
states_faithful =
    faithful state_number Ok (Err UnknownNumber) (λ x y e. cc) states
    (λ y e. let z : ◌≡◌ {A = ℕ} 0 1 = cc in omega arith)
    (everywhere NmtStates (λ s. read_state (state_number s)) Ok refl refl)

pub events_faithful : Faithful event_number Ok read_event
unfolding read_event
events_faithful =
    faithful event_number Ok (Err UnknownNumber) (λ x y e. cc) events
    (λ y e. let z : ◌≡◌ {A = ℕ} 0 1 = cc in omega arith)
    (everywhere NmtEvents (λ e. read_event (event_number e)) Ok refl refl)

command_back : (x : NmtStateCommand) → read_command (command_number x) ≡ Ok x
unfolding read_command
command_back StartNode = refl
command_back StopNode = refl
command_back EnterPreOperational2 = refl
command_back EnableReadyToOperate = refl
command_back ResetNode = refl
command_back ResetCommunication = refl
command_back ResetConfiguration = refl
command_back SwReset = refl

pub commands_faithful : Faithful command_number Ok read_command
unfolding read_command
commands_faithful =
    faithful command_number Ok (Err UnknownNumber) (λ x y e. cc) commands
    (λ y e. let z : ◌≡◌ {A = ℕ} 0 1 = cc in omega arith)
    command_back

managing_back : (x : NmtManagingCommand) → read_managing (managing_number x) ≡ Ok x
unfolding read_managing
managing_back NmtNetHostNameSet = refl
managing_back NmtFlushArpEntry = refl

pub managings_faithful : Faithful managing_number Ok read_managing
unfolding read_managing
managings_faithful =
    faithful managing_number Ok (Err UnknownNumber) (λ x y e. cc) managings
    (λ y e. let z : ◌≡◌ {A = ℕ} 0 1 = cc in omega arith)
    managing_back

pub cs_events_faithful : Faithful cs_event_number Ok read_cs_event
unfolding read_cs_event
cs_events_faithful =
    faithful cs_event_number Ok (Err UnknownNumber) (λ x y e. cc) cs_events
    (λ y e. let z : ◌≡◌ {A = ℕ} 0 1 = cc in omega arith)
    (everywhere DllCsEvents (λ e. read_cs_event (cs_event_number e)) Ok refl refl)

pub kinds_faithful : Faithful kind_place Ok read_kind
unfolding read_kind
kinds_faithful =
    faithful kind_place Ok (Err UnknownNumber) (λ x y e. cc) error_kinds
    (λ y e. let z : ◌≡◌ {A = ℕ} 0 1 = cc in omega arith)
    (everywhere DllErrorKinds (λ k. read_kind (kind_place k)) Ok refl refl)

pub messages_faithful : Faithful message_number Ok read_message
unfolding read_message
messages_faithful =
    faithful message_number Ok (Err (record {})) (λ x y e. cc) messages
    (λ y e. let z : ◌≡◌ {A = ℕ} 0 1 = cc in omega arith)
    (everywhere MessageTypes (λ x. read_message (message_number x)) Ok refl refl)

-- the error itself, or the refusal of its node
abbrev pub admitted : DllError → Result DllError Refusal
admitted LossOfLink = Ok LossOfLink
admitted BadPhysicalMode = Ok BadPhysicalMode
admitted MacBuffer = Ok MacBuffer
admitted Crc = Ok Crc
admitted Collision = Ok Collision
admitted InvalidFormat = Ok InvalidFormat
admitted LossOfSoc = Ok LossOfSoc
admitted LossOfSoa = Ok LossOfSoa
admitted LossOfPreq = Ok LossOfPreq
admitted (LossOfPres n) = carried (read_node n.0) (LossOfPres n)
admitted (LossOfStatusRes n) = carried (read_node n.0) (LossOfStatusRes n)
admitted CycleTimeExceeded = Ok CycleTimeExceeded
admitted (LatePres n) = carried (read_node n.0) (LatePres n)
admitted SoCJitter = Ok SoCJitter
admitted MsWaitSoc = Ok MsWaitSoc
admitted MultipleMn = Ok MultipleMn
admitted AddressConflict = Ok AddressConflict
admitted MevAsndTimeout = Ok MevAsndTimeout
admitted (UnexpectedEventInState s e) = Ok (UnexpectedEventInState s e)
admitted (PdoMapVersion n) = carried (read_node n.0) (PdoMapVersion n)
admitted (PdoPayloadShort n) = carried (read_node n.0) (PdoPayloadShort n)
admitted (HeartbeatTimeout n) = carried (read_node n.0) (HeartbeatTimeout n)

pub error_read : (x : DllError) → read_error (error_kind_of x) (carried_a x) (carried_b x) ≡ admitted x
unfolding read_error
error_read LossOfLink = refl
error_read BadPhysicalMode = refl
error_read MacBuffer = refl
error_read Crc = refl
error_read Collision = refl
error_read InvalidFormat = refl
error_read LossOfSoc = refl
error_read LossOfSoa = refl
error_read LossOfPreq = refl
error_read (LossOfPres n) = refl
error_read (LossOfStatusRes n) = refl
error_read CycleTimeExceeded = refl
error_read (LatePres n) = refl
error_read SoCJitter = refl
error_read MsWaitSoc = refl
error_read MultipleMn = refl
error_read AddressConflict = refl
error_read MevAsndTimeout = refl
error_read (UnexpectedEventInState s e) = refl
error_read (PdoMapVersion n) = refl
error_read (PdoPayloadShort n) = refl
error_read (HeartbeatTimeout n) = refl

taken_same : (x y : DllError) → ◌≡◌ {A = Result DllError Refusal} (Ok x) (Ok y) → error_kind_of x ≡ error_kind_of y
taken_same x y e = let s : x ≡ y = cc in ap error_kind_of s

carried_same : (r : Result NodeId Refusal) (x y : DllError) → carried r x ≡ Ok y → error_kind_of x ≡ error_kind_of y
carried_same (Ok n) x y e = taken_same x y e
carried_same (Err r) x y e = let z : ◌≡◌ {A = ℕ} 0 1 = cc in absurd (omega arith)

-- an accepted kind is the kind of the error read
pub error_only : (k a b : ℕ) (x : DllError) → read_error k a b ≡ Ok x → k ≡ error_kind_of x
unfolding read_error
error_only k a b =
    reads_holds (λ (r : Kind). r.number) (λ (r : Kind). r.answer) (Err UnknownNumber) (λ n r. (y : DllError) → r ≡ Ok y → n ≡ error_kind_of y) (kinds a b) k
    (λ y e. let z : ◌≡◌ {A = ℕ} 0 1 = cc in absurd (omega arith))
    (taken_same LossOfLink, (taken_same BadPhysicalMode, (taken_same MacBuffer, (taken_same Crc, (taken_same Collision, (taken_same InvalidFormat, (taken_same LossOfSoc, (taken_same LossOfSoa, (taken_same LossOfPreq, (carried_same (read_node a) (LossOfPres (record { 0 = a })), (carried_same (read_node a) (LossOfStatusRes (record { 0 = a })), (taken_same CycleTimeExceeded, (carried_same (read_node a) (LatePres (record { 0 = a })), (taken_same SoCJitter, (taken_same MsWaitSoc, (taken_same MultipleMn, (taken_same AddressConflict, (taken_same MevAsndTimeout, (taken_same (UnexpectedEventInState a b), (carried_same (read_node a) (PdoMapVersion (record { 0 = a })), (carried_same (read_node a) (PdoPayloadShort (record { 0 = a })), (carried_same (read_node a) (HeartbeatTimeout (record { 0 = a })), tt))))))))))))))))))))))
