-- The reset events (RULES 4.4): the states that each enters and the index ranges to restore, in
-- order.
-- Assumes nothing.
use Rattle.std.specs.Prelude.{ℕ, List, [], ◌∷◌, ◌++◌, Bool, true, false}
use Rattle.types.specs.Pick.{pick, read_by}
use Rattle.types.specs.States.{same_state}
use Rattle.types.specs.Events.{event_number}
use Rattle.types.specs.declared.nmt.events.NmtEvent.{NmtEvent}
use Rattle.types.specs.declared.nmt.events.NmtEvent.TheVariants.{Reset, SwReset, ResetNode, ResetCommunication, ResetConfiguration}
use Rattle.types.specs.declared.nmt.states.NmtState.{NmtState}
use Rattle.types.specs.declared.nmt.states.NmtState.TheVariants.{NmtGsInitialising, NmtGsResetApplication, NmtGsResetCommunication, NmtGsResetConfiguration, NmtNotActive}
use Rattle.nmt.specs.declared.state_machine.IndexRange.{IndexRange}
use Rattle.nmt.specs.declared.state_machine.ResetSequence.{ResetSequence}
use Rattle.nmt.specs.declared.state_machine.ResetSequence.TheVariants as sequence

-- the states of a whole reset: 0x19, 0x29, 0x39, 0x79, and NMT_CT1 to 0x1C
abbrev pub reset_states : List NmtState
reset_states =
    NmtGsInitialising ∷
    NmtGsResetApplication ∷
    NmtGsResetCommunication ∷
    NmtGsResetConfiguration ∷
    NmtNotActive ∷
    []

-- a reset event and the first state that it enters
pub record ResetRow : Type 0 where
  pub event : NmtEvent
  -- the others of `reset_states` behind it are entered too
  pub first : NmtState

-- the row of the reset event e, which enters s first
abbrev pub resets : NmtEvent → NmtState → ResetRow
resets e s = record { event = e; first = s }

-- the five reset events
abbrev pub reset_rows : List ResetRow
reset_rows =
    resets Reset NmtGsInitialising ∷
    resets SwReset NmtGsInitialising ∷
    resets ResetNode NmtGsResetApplication ∷
    resets ResetCommunication NmtGsResetCommunication ∷
    resets ResetConfiguration NmtGsResetConfiguration ∷
    []

-- the part of a list of states from s on
abbrev pub from : NmtState → List NmtState → List NmtState
from s [] = []
from s (t ∷ ts) = pick (same_state s t) (t ∷ ts) (from s ts)

-- f of the event's row, or `none` where the event is no reset
abbrev pub by_reset : {A : Type 0} → (ResetRow → A) → A → NmtEvent → A
by_reset f none e = read_by (λ (r : ResetRow). event_number r.event) f none reset_rows (event_number e)

-- the event is one of the five resets
unfoldable pub is_reset : NmtEvent → Bool
is_reset e = by_reset (λ r. true) false e

-- the states that an event enters on its way to NotActive, in order
unfoldable pub states_entered : NmtEvent → List NmtState
states_entered e = by_reset (λ r. from r.first reset_states) [] e

-- the range of indices from a to b, both included
abbrev pub range : ℕ → ℕ → IndexRange
range a b = record { first = a; last = b }

-- the ranges to restore after a state was entered: 0x2000 to 0x5FFF and 0x6000 to 0x9FFF after
-- 0x29, 0x1000 to 0x1FFF after 0x39
abbrev pub restored_after : NmtState → List IndexRange
restored_after s =
    pick (same_state s NmtGsResetApplication) (range 0x2000 0x5FFF ∷ range 0x6000 0x9FFF ∷ [])
    (pick (same_state s NmtGsResetCommunication) (range 0x1000 0x1FFF ∷ []) [])

-- the ranges to restore after some states were entered, in order
abbrev pub ranges_restored : List NmtState → List IndexRange
ranges_restored [] = []
ranges_restored (s ∷ ss) = restored_after s ++ ranges_restored ss

-- what a reset passes: the states entered and the ranges to restore
pub record Passed : Type 0 where
  pub states : List NmtState
  pub ranges : List IndexRange

-- what an event passes; of an event that is no reset both lists are empty
unfoldable pub reset_sequence : NmtEvent → Passed
reset_sequence e = record { states = states_entered e; ranges = ranges_restored (states_entered e) }

-- the states that a `ResetSequence` stands for, from its first one on
abbrev pub entered_states : ResetSequence → List NmtState
entered_states sequence.None = []
entered_states sequence.Whole = reset_states
entered_states sequence.Node = from NmtGsResetApplication reset_states
entered_states sequence.Communication = from NmtGsResetCommunication reset_states
entered_states sequence.Configuration = from NmtGsResetConfiguration reset_states

-- the ranges to restore after the states of a `ResetSequence`
abbrev pub restored_ranges : ResetSequence → List IndexRange
restored_ranges r = ranges_restored (entered_states r)

-- what a `ResetSequence` stands for: its states, and the ranges to restore after them
abbrev pub passed : ResetSequence → Passed
passed r = record { states = entered_states r; ranges = restored_ranges r }
