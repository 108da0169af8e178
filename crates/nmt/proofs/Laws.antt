-- Laws of the NMT definitions.
-- Assumes nothing.
use mathlib.Core.Path.{◌≡◌, refl}
use mathlib.Core.Bool.{true, false}
use mathlib.Core.List.{[], map, ◌++◌}
use Rattle.types.specs.Pick.{pick}
use Rattle.types.specs.declared.nmt.events.NmtEvent.{NmtEvent}
use Rattle.types.specs.declared.nmt.states.NmtState.TheVariants.{NmtNotActive}
use Rattle.types.proofs.Cases.{everywhere, NmtEvents}
use Rattle.nmt.specs.Resets.{is_reset, states_entered, reset_sequence}
use Rattle.nmt.specs.Nmt.{Row, boot_up_rows, cyclic_rows, row_of, enter, enter_all}
use Rattle.nmt.specs.declared.cn_state_machine.CnNmtStateMachine.{CnNmtStateMachine}

-- the states of a reset, entered one after the other, leave what entering NotActive alone leaves
pub reset_enters :
    (m : CnNmtStateMachine) (e : NmtEvent) → is_reset e ≡ true → enter_all m (states_entered e) ≡ enter m NmtNotActive
unfolding is_reset states_entered enter
reset_enters m e h =
    rw h at (everywhere NmtEvents (λ e. pick (is_reset e) (enter_all m (states_entered e)) (enter m NmtNotActive)) (λ e. enter m NmtNotActive) refl refl e)

-- an event that is no reset enters no states on the way and restores nothing
pub plain_passes : (e : NmtEvent) → is_reset e ≡ false → reset_sequence e ≡ record { states = []; ranges = [] }
unfolding is_reset states_entered reset_sequence
plain_passes e h =
    rw h at (everywhere NmtEvents (λ e. pick (is_reset e) (record { states = []; ranges = [] }) (reset_sequence e)) (λ e. record { states = []; ranges = [] }) refl refl e)

-- every row is found: none hides another
pub rows_found :
    map (λ (r : Row). row_of r.state r.event) (boot_up_rows ++ cyclic_rows) ≡
    map (λ (r : Row). r.does) (boot_up_rows ++ cyclic_rows)
unfolding row_of
rows_found = refl
