-- The number of a mode is read as the mode, and only that number is.
-- Assumes nothing.
use Prim.Native.Nat.{ℕ}
use mathlib.Core.Path.{◌≡◌, refl}
use native.Mathlib.Omega.{arith}
use Rattle.types.specs.declared.refusals.Refusal.TheVariants.{UnknownNumber}
use Rattle.types.proofs.Reading.{Faithful, faithful}
use Rattle.entries.specs.Entry.{mode_number, modes, read_mode}
use Rattle.entries.specs.declared.status_response.ErrorEntryMode.{ErrorEntryMode}
use Rattle.entries.specs.declared.status_response.ErrorEntryMode.TheVariants.{Terminator, ErrorActive, ErrorCleared, EventOccurred}
use Rattle.std.specs.declared.result.Result.TheVariants.{Ok, Err}

mode_back : (x : ErrorEntryMode) → read_mode (mode_number x) ≡ Ok x
unfolding read_mode
mode_back Terminator = refl
mode_back ErrorActive = refl
mode_back ErrorCleared = refl
mode_back EventOccurred = refl

pub modes_faithful : Faithful mode_number Ok read_mode
unfolding read_mode
modes_faithful =
    faithful mode_number Ok (Err UnknownNumber) (λ x y e. cc) modes
    (λ y e. let z : ◌≡◌ {A = ℕ} 0 1 = cc in omega arith)
    mode_back
