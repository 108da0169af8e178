-- What it changes in the table that a reset clears ready: beside a reset that leaves ready as it
-- was, 120 of the 912 entries differ, those of the 5 reset events in 12 states, enabled or not,
-- where the machine was ready.
-- Assumes nothing.
use Prim.Native.Nat.{ℕ, ◌+◌}
use mathlib.Core.Path.{◌≡◌, refl}
use mathlib.Core.Bool.{Bool, true, false, not}
use mathlib.Core.List.{List, [], ◌∷◌}
use lib.Dec.{eqb}
use Rattle.types.specs.Pick.{pick, both}
use Rattle.types.specs.States.{states}
use Rattle.types.specs.Events.{events}
use Rattle.types.specs.declared.nmt.events.NmtEvent.{NmtEvent}
use Rattle.types.specs.declared.nmt.states.NmtState.{NmtState}
use Rattle.nmt.specs.Resets.{is_reset, states_entered, reset_sequence}
use Rattle.nmt.specs.Nmt.{Outcome, row_of, enter, enter_all, applied, reset_by, processed}
use Rattle.nmt.specs.Table.{packed, entry_of, standing, ruled}
use Rattle.nmt.specs.declared.cn_state_machine.CnNmtStateMachine.{CnNmtStateMachine}

-- a reset that enters its states and leaves ready as it was
abbrev keeping : CnNmtStateMachine → NmtEvent → Outcome
keeping m e =
    pick (is_reset e) (record { machine = enter_all m (states_entered e); errors = []; reset = reset_sequence e })
    (applied m e (row_of m.current_state e))

-- an entry is another one where its number is (`packed_back`)
abbrev changes : NmtState → NmtEvent → Bool → Bool → Bool
changes s e on up = not (eqb (packed (ruled s e on up)) (packed (entry_of (keeping (standing s on up) e))))

abbrev sum_over : {A : Type 0} → List A → (A → ℕ) → ℕ
sum_over [] f = 0
sum_over (x ∷ xs) f = f x + sum_over xs f

-- of how many of the 912 a test holds
abbrev entries_with : (NmtState → NmtEvent → Bool → Bool → Bool) → ℕ
entries_with test =
    sum_over states (λ s. sum_over events (λ e. sum_over (false ∷ true ∷ []) (λ on. sum_over (false ∷ true ∷ []) (λ up. pick (test s e on up) 1 0))))

pub all_entries : entries_with (λ s e on up. true) ≡ 912
all_entries = refl

pub changed : entries_with changes ≡ 120
unfolding ruled processed reset_by applied enter row_of is_reset states_entered reset_sequence
changed = refl

-- all of them are such entries
pub changed_by_resets : entries_with (λ s e on up. both (both (is_reset e) up) (changes s e on up)) ≡ 120
unfolding ruled processed reset_by applied enter row_of is_reset states_entered reset_sequence
changed_by_resets = refl
