-- What a DLL event does in each state of the cycle (RULES 5.1): 24 pairs, and the NMT states in
-- which they hold. The names DLL_CT are DS 301's (Section 4.2.4.5).
-- Assumes nothing.
use Rattle.std.specs.Prelude.{ℕ, List, [], ◌∷◌, Bool}
use Rattle.types.specs.Pick.{pick, either, read_by}
use Rattle.types.specs.States.{same_state}
use Rattle.types.specs.CsEvents.{cs_event_number}
use Rattle.types.specs.Errors.{reported}
use Rattle.std.specs.declared.result.Result.{Result}
use Rattle.std.specs.declared.result.Result.TheVariants.{Ok, Err}
use Rattle.types.specs.declared.refusals.Refusal.{Refusal}
use Rattle.types.specs.declared.refusals.Refusal.TheVariants.{UnknownNumber}
use Rattle.types.specs.declared.nmt.states.NmtState.{NmtState}
use Rattle.types.specs.declared.nmt.states.NmtState.TheVariants.{NmtPreOperational2, NmtReadyToOperate, NmtOperational, NmtCsStopped}
use Rattle.types.specs.declared.frame.cs_state_machine.DllCsEvent.{DllCsEvent}
use Rattle.types.specs.declared.frame.cs_state_machine.DllCsEvent.TheVariants.{Soc, Preq, Pres, Soa, Asnd, SocTimeout}
use Rattle.types.specs.declared.frame.error.types.DllError.{DllError}
use Rattle.types.specs.declared.frame.error.types.DllError.TheVariants.{LossOfSoc, LossOfSoa, LossOfPreq, UnexpectedEventInState}
use Rattle.dll.specs.declared.cs_state_machine.DllCsState.{DllCsState}
use Rattle.dll.specs.declared.cs_state_machine.DllCsState.TheVariants.{NonCyclic, WaitSoc, WaitPreq, WaitSoa}
use Rattle.dll.specs.declared.cs_state_machine.DllCsStateMachine.{DllCsStateMachine}
use Rattle.dll.specs.declared.cs_state_machine.DllAnswer.{DllAnswer}

-- a DLL state's number: its place in the enum, from 0 (RULES 5.4)
abbrev pub cs_state_number : DllCsState → ℕ
cs_state_number NonCyclic = 0
cs_state_number WaitSoc = 1
cs_state_number WaitPreq = 2
cs_state_number WaitSoa = 3

-- all DLL states, in the order of the enum
abbrev pub cs_states : List DllCsState
cs_states = NonCyclic ∷ WaitSoc ∷ WaitPreq ∷ WaitSoa ∷ []

-- the DLL state of a number, or the refusal UnknownNumber
abbrev pub read_cs_state : ℕ → Result DllCsState Refusal
read_cs_state n = read_by cs_state_number Ok (Err UnknownNumber) cs_states n

-- what an event leaves and answers: the state and the errors
pub record CsOutcome : Type 0 where
  pub state : DllCsState
  pub errors : List DllError

-- an event leads to the state s and reports the errors es
abbrev pub goes : DllCsState → List DllError → CsOutcome
goes s es = record { state = s; errors = es }

-- the pair has no row: the state stays, and the pair is reported
abbrev pub unexpected : DllCsState → DllCsEvent → CsOutcome
unexpected s e = goes s (UnexpectedEventInState (cs_state_number s) (cs_event_number e) ∷ [])

-- an event in NonCyclic
abbrev pub non_cyclic : DllCsEvent → CsOutcome
non_cyclic Soc = goes WaitPreq []  -- DLL_CT01
non_cyclic Preq = unexpected NonCyclic Preq
non_cyclic Pres = unexpected NonCyclic Pres
non_cyclic Soa = unexpected NonCyclic Soa
non_cyclic Asnd = unexpected NonCyclic Asnd
non_cyclic SocTimeout = unexpected NonCyclic SocTimeout

-- an event in WaitSoc
abbrev pub wait_soc : DllCsEvent → CsOutcome
wait_soc Soc = goes WaitPreq []  -- DLL_CT01
wait_soc Preq = goes WaitSoc (LossOfSoc ∷ [])  -- DLL_CT04
wait_soc Pres = goes WaitSoc (LossOfSoc ∷ [])  -- DLL_CT04
wait_soc Soa = goes WaitSoc (LossOfSoc ∷ [])  -- DLL_CT04
wait_soc Asnd = goes WaitSoc []  -- DLL_CT04
wait_soc SocTimeout = goes WaitSoc (LossOfSoc ∷ [])  -- DLL_CT04

-- an event in WaitPreq; at Soa a LossOfPreq is reported only where a PReq was expected
abbrev pub wait_preq : DllCsEvent → Bool → CsOutcome
wait_preq Soc expected = goes WaitPreq (LossOfSoa ∷ [])  -- DLL_CT07
wait_preq Preq expected = goes WaitSoa []  -- DLL_CT02
wait_preq Pres expected = goes WaitPreq []  -- DLL_CT07
wait_preq Soa expected = goes WaitSoc (pick expected (LossOfPreq ∷ []) [])  -- DLL_CT08
wait_preq Asnd expected = goes WaitPreq (LossOfSoa ∷ [])  -- DLL_CT07
wait_preq SocTimeout expected = goes WaitSoc (LossOfSoc ∷ LossOfSoa ∷ [])  -- DLL_CT08

-- an event in WaitSoa
abbrev pub wait_soa : DllCsEvent → CsOutcome
wait_soa Soc = goes WaitPreq (LossOfSoa ∷ [])  -- DLL_CT09
wait_soa Preq = goes WaitSoc (LossOfSoc ∷ LossOfSoa ∷ [])  -- DLL_CT03
wait_soa Pres = goes WaitSoa []  -- DLL_CT10
wait_soa Soa = goes WaitSoc []  -- DLL_CT03
wait_soa Asnd = goes WaitSoa (LossOfSoa ∷ [])  -- DLL_CT10
wait_soa SocTimeout = goes WaitSoc (LossOfSoc ∷ LossOfSoa ∷ [])  -- DLL_CT03

-- an event in any of the four states
abbrev pub cyclic : DllCsState → DllCsEvent → Bool → CsOutcome
cyclic NonCyclic e expected = non_cyclic e
cyclic WaitSoc e expected = wait_soc e
cyclic WaitPreq e expected = wait_preq e expected
cyclic WaitSoa e expected = wait_soa e

-- the NMT states in which the pairs hold
abbrev pub is_cyclic : NmtState → Bool
is_cyclic s =
    either (same_state s NmtPreOperational2)
    (either (same_state s NmtReadyToOperate) (either (same_state s NmtOperational) (same_state s NmtCsStopped)))

-- a DLL event in an NMT state; where the pairs do not hold, the machine becomes NonCyclic
unfoldable pub cs_processed : DllCsState → DllCsEvent → NmtState → Bool → CsOutcome
cs_processed s e nmt expected = pick (is_cyclic nmt) (cyclic s e expected) (goes NonCyclic [])

-- a fresh DLL machine is at NonCyclic
abbrev pub fresh_machine : DllCsStateMachine
fresh_machine = record { state = NonCyclic }

-- what an answer of the machine stands for
abbrev pub cs_outcome : DllAnswer → CsOutcome
cs_outcome a = record { state = a.machine.state; errors = reported a.errors }
