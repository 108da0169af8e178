-- Two flags are compared as Rust's `==` does.
-- Assumes nothing.
use Rattle.std.proofs.Common.{◌≡◌, Bool, true, false, refl}
use Rattle.std.proofs.Math.Bool.{beq}
use Rattle.chart.specs.Transitions.{same_flag}

pub same_flag_lem : (a b : Bool) → beq a b ≡ same_flag a b
same_flag_lem true true = refl
same_flag_lem true false = refl
same_flag_lem false true = refl
same_flag_lem false false = refl
