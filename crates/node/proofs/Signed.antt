-- Signed numbers: a 64-bit number below the top half is itself, and the difference of two such is
-- one.
-- Assumes nothing.
use Prim.Native.Nat.{ℕ, zero, suc, ◌-◌, ◌≤◌, ◌<◌, ◌^◌}
use mathlib.Core.Path.{◌≡◌, sym, subst, ◌∙◌}
use mathlib.Core.Bool.{Bool, true, false, cond}
use native.Mathlib.Omega.{arith}
use lib.Dec.{ltb}
use lib.IntN.{pos, negsuc, ◌-ℤ◌}
use lib.Signed.{mag}
use mir.Syntax.{w64}
use mir.Val.{SFits, to_z, of_z}
use mir.ValLaws.{to_z_pos, to_z-of_z}

minus_fits : (a b : ℕ) → a ≤ 9223372036854775807 → b ≤ 9223372036854775807 → SFits w64 (pos a -ℤ pos b)
minus_fits a zero h k = record { sfits = omega arith }
minus_fits a (suc b) h k = record { sfits = by (ltb a (suc b)) }
  where
    by : (c : Bool) → mag (cond c (negsuc (suc b - suc a)) (pos (a - suc b))) < 2 ^ 63
    by true = omega arith
    by false = omega arith

module _ (a b : ℕ) (h : a ≤ 9223372036854775807) (k : b ≤ 9223372036854775807) where
  difference : to_z w64 a -ℤ to_z w64 b ≡ pos a -ℤ pos b
  difference i = to_z_pos w64 a (omega arith) i -ℤ to_z_pos w64 b (omega arith) i

  pub difference_fits : SFits w64 (to_z w64 a -ℤ to_z w64 b)
  difference_fits = subst (SFits w64) (sym difference) (minus_fits a b h k)

  -- as the machine reads it from its bits
  pub difference_is : to_z w64 (of_z w64 (to_z w64 a -ℤ to_z w64 b)) ≡ pos a -ℤ pos b
  difference_is = to_z-of_z w64 _ difference_fits ∙ difference
