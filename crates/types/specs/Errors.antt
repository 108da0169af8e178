-- The DLL errors: their kinds and codes, and the reading of a kind's number.
-- Assumes nothing.
use Rattle.std.specs.Prelude.{ℕ, List, [], ◌∷◌}
use Rattle.types.specs.Pick.{read_by}
use Rattle.types.specs.Types.{node, read_node}
use Rattle.types.specs.Kinds.{kind_place, kind_code}
use Rattle.types.specs.declared.refusals.Refusal.TheVariants.{UnknownNumber}
use Rattle.std.specs.declared.result.Result.{Result}
use Rattle.std.specs.declared.result.Result.TheVariants.{Ok, Err}
use Rattle.types.specs.declared.types.NodeId.{NodeId}
use Rattle.types.specs.declared.refusals.Refusal.{Refusal}
use Rattle.types.specs.declared.frame.error.kinds.DllErrorKind.{DllErrorKind}
use Rattle.types.specs.declared.frame.error.kinds.DllErrorKind.TheVariants as error_kind
use Rattle.types.specs.declared.frame.error.types.NmtAction.{NmtAction}
use Rattle.types.specs.declared.frame.error.types.NmtAction.TheVariants as action
use Rattle.types.specs.declared.frame.error.types.DllError.{DllError}
use Rattle.types.specs.declared.frame.error.types.DllError.TheVariants.{LossOfLink, BadPhysicalMode, MacBuffer, Crc, Collision, InvalidFormat, LossOfSoc, LossOfSoa, LossOfPreq, LossOfPres, LossOfStatusRes, CycleTimeExceeded, LatePres, SoCJitter, MsWaitSoc, MultipleMn, AddressConflict, MevAsndTimeout, UnexpectedEventInState, PdoMapVersion, PdoPayloadShort, HeartbeatTimeout}
use Rattle.types.specs.declared.frame.error.types.DllErrors.{DllErrors}
use Rattle.types.specs.declared.frame.error.types.DllErrors.TheVariants.{None, One, Two}

-- an error's kind: the error without what it carries
abbrev pub kind_of : DllError → DllErrorKind
kind_of LossOfLink = error_kind.LossOfLink
kind_of BadPhysicalMode = error_kind.BadPhysicalMode
kind_of MacBuffer = error_kind.MacBuffer
kind_of Crc = error_kind.Crc
kind_of Collision = error_kind.Collision
kind_of InvalidFormat = error_kind.InvalidFormat
kind_of LossOfSoc = error_kind.LossOfSoc
kind_of LossOfSoa = error_kind.LossOfSoa
kind_of LossOfPreq = error_kind.LossOfPreq
kind_of (LossOfPres n) = error_kind.LossOfPres
kind_of (LossOfStatusRes n) = error_kind.LossOfStatusRes
kind_of CycleTimeExceeded = error_kind.CycleTimeExceeded
kind_of (LatePres n) = error_kind.LatePres
kind_of SoCJitter = error_kind.SoCJitter
kind_of MsWaitSoc = error_kind.MsWaitSoc
kind_of MultipleMn = error_kind.MultipleMn
kind_of AddressConflict = error_kind.AddressConflict
kind_of MevAsndTimeout = error_kind.MevAsndTimeout
kind_of (UnexpectedEventInState s e) = error_kind.UnexpectedEventInState
kind_of (PdoMapVersion n) = error_kind.PdoMapVersion
kind_of (PdoPayloadShort n) = error_kind.PdoPayloadShort
kind_of (HeartbeatTimeout n) = error_kind.HeartbeatTimeout

-- the number of an error's kind, 0 to 21 (RULES 6.8)
abbrev pub error_kind_of : DllError → ℕ
error_kind_of e = kind_place (kind_of e)

-- an error's code, 16 bits, which is that of its kind (RULES 6.8)
abbrev pub error_code : DllError → ℕ
error_code e = kind_code (kind_of e)

-- what NMT is asked for after an error, as a number: 0 nothing, 1 to reset the communication, 2 to
-- reset a node
abbrev pub action_number : NmtAction → ℕ
action_number action.None = 0
action_number action.ResetCommunication = 1
action_number (action.ResetNode n) = 2

-- the errors that one event reports, in order
abbrev pub reported : DllErrors → List DllError
reported None = []
reported (One a) = a ∷ []
reported (Two a b) = a ∷ b ∷ []

-- an error that carries a node is taken where its node is, and refused as its node is
abbrev pub carried : Result NodeId Refusal → DllError → Result DllError Refusal
carried (Ok n) e = Ok e
carried (Err r) e = Err r

-- a kind of error with what its number is read as
pub record Kind : Type 0 where
  pub number : ℕ
  -- an error of the kind, or the refusal of the node that it is to carry
  pub answer : Result DllError Refusal

-- the kind with the number k, which is read as r
abbrev pub kind : ℕ → Result DllError Refusal → Kind
kind k r = record { number = k; answer = r }

-- all kinds, by their numbers: a is the node that an error carries, or a and b are its state and
-- event
abbrev pub kinds : ℕ → ℕ → List Kind
kinds a b =
    kind 0 (Ok LossOfLink) ∷
    kind 1 (Ok BadPhysicalMode) ∷
    kind 2 (Ok MacBuffer) ∷
    kind 3 (Ok Crc) ∷
    kind 4 (Ok Collision) ∷
    kind 5 (Ok InvalidFormat) ∷
    kind 6 (Ok LossOfSoc) ∷
    kind 7 (Ok LossOfSoa) ∷
    kind 8 (Ok LossOfPreq) ∷
    kind 9 (carried (read_node a) (LossOfPres (node a))) ∷
    kind 10 (carried (read_node a) (LossOfStatusRes (node a))) ∷
    kind 11 (Ok CycleTimeExceeded) ∷
    kind 12 (carried (read_node a) (LatePres (node a))) ∷
    kind 13 (Ok SoCJitter) ∷
    kind 14 (Ok MsWaitSoc) ∷
    kind 15 (Ok MultipleMn) ∷
    kind 16 (Ok AddressConflict) ∷
    kind 17 (Ok MevAsndTimeout) ∷
    kind 18 (Ok (UnexpectedEventInState a b)) ∷
    kind 19 (carried (read_node a) (PdoMapVersion (node a))) ∷
    kind 20 (carried (read_node a) (PdoPayloadShort (node a))) ∷
    kind 21 (carried (read_node a) (HeartbeatTimeout (node a))) ∷
    []

-- the error of the kind k with what it carries, a and b; UnknownNumber where no kind has the
-- number, else NodeNumber where it carries a node and a is no node's number
unfoldable pub read_error : ℕ → ℕ → ℕ → Result DllError Refusal
read_error k a b = read_by (λ (r : Kind). r.number) (λ (r : Kind). r.answer) (Err UnknownNumber) (kinds a b) k
