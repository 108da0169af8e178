-- An example of a DLL event (RULES 11.4, the fifth).
-- Assumes nothing.
use mathlib.Core.Path.{◌≡◌, refl}
use mathlib.Core.List.{[], ◌∷◌}
use mathlib.Core.Bool.{Bool}
use Rattle.types.specs.declared.nmt.states.NmtState.TheVariants.{NmtOperational}
use Rattle.types.specs.declared.frame.cs_state_machine.DllCsEvent.TheVariants.{SocTimeout}
use Rattle.types.specs.declared.frame.error.types.DllError.TheVariants.{UnexpectedEventInState}
use Rattle.dll.specs.Dll.{goes, cs_processed}
use Rattle.dll.specs.declared.cs_state_machine.DllCsState.TheVariants.{NonCyclic}

-- Operational, NonCyclic, SocTimeout: error (0, 5)
pub soc_timeout_lem :
    (expected : Bool) → cs_processed NonCyclic SocTimeout NmtOperational expected ≡ goes NonCyclic (UnexpectedEventInState 0 5 ∷ [])
unfolding cs_processed
soc_timeout_lem expected = refl
