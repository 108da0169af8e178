-- The NMT states, their numbers (DS 301, Appendix 3.6), and the reading of a number.
-- Assumes nothing.
use Rattle.std.specs.Prelude.{ℕ, Bool, List, [], ◌∷◌, eqb}
use Rattle.types.specs.Pick.{read_by}
use Rattle.types.specs.declared.refusals.Refusal.TheVariants.{UnknownNumber}
use Rattle.types.specs.declared.nmt.states.NmtState.{NmtState}
use Rattle.types.specs.declared.nmt.states.NmtState.TheVariants.{NmtGsOff, NmtGsInitialising, NmtGsResetApplication, NmtGsResetCommunication, NmtGsResetConfiguration, NmtNotActive, NmtPreOperational1, NmtPreOperational2, NmtReadyToOperate, NmtOperational, NmtCsStopped, NmtBasicEthernet}
use Rattle.std.specs.declared.result.Result.{Result}
use Rattle.std.specs.declared.result.Result.TheVariants.{Ok, Err}
use Rattle.types.specs.declared.refusals.Refusal.{Refusal}

-- an NMT state's number (DS 301, Appendix 3.6; RULES 4.8)
abbrev pub state_number : NmtState → ℕ
state_number NmtGsOff = 0x00
state_number NmtGsInitialising = 0x19
state_number NmtGsResetApplication = 0x29
state_number NmtGsResetCommunication = 0x39
state_number NmtGsResetConfiguration = 0x79
state_number NmtNotActive = 0x1C
state_number NmtPreOperational1 = 0x1D
state_number NmtPreOperational2 = 0x5D
state_number NmtReadyToOperate = 0x6D
state_number NmtOperational = 0xFD
state_number NmtCsStopped = 0x4D
state_number NmtBasicEthernet = 0x1E

-- a state's place in the enum, from 0
abbrev pub state_place : NmtState → ℕ
state_place NmtGsOff = 0
state_place NmtGsInitialising = 1
state_place NmtGsResetApplication = 2
state_place NmtGsResetCommunication = 3
state_place NmtGsResetConfiguration = 4
state_place NmtNotActive = 5
state_place NmtPreOperational1 = 6
state_place NmtPreOperational2 = 7
state_place NmtReadyToOperate = 8
state_place NmtOperational = 9
state_place NmtCsStopped = 10
state_place NmtBasicEthernet = 11

-- all NMT states, in the order of the enum
abbrev pub states : List NmtState
states =
    NmtGsOff ∷
    NmtGsInitialising ∷
    NmtGsResetApplication ∷
    NmtGsResetCommunication ∷
    NmtGsResetConfiguration ∷
    NmtNotActive ∷
    NmtPreOperational1 ∷
    NmtPreOperational2 ∷
    NmtReadyToOperate ∷
    NmtOperational ∷
    NmtCsStopped ∷
    NmtBasicEthernet ∷
    []

-- two NMT states are the same
abbrev pub same_state : NmtState → NmtState → Bool
same_state s t = eqb (state_number s) (state_number t)

-- the NMT state of a number, or the refusal UnknownNumber
unfoldable pub read_state : ℕ → Result NmtState Refusal
read_state n = read_by state_number Ok (Err UnknownNumber) states n
