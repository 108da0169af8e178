-- A time in nanoseconds: what is added to a time whose nanoseconds are below a second is added to its total, modulo the 2^32 seconds that a NetTime
-- holds.
-- Assumes nothing.
use Prim.Native.Nat.{ℕ, ◌+◌, ◌*◌, ◌%◌, ◌<◌}
use mathlib.Core.Path.{◌≡◌, refl}
use mathlib.Core.Bool.{Bool, true, false}
use native.Mathlib.Omega.{arith}
use lib.Dec.{ltb}
use borrow.Author.Tests.{ltb-true, ltb-false}
use Rattle.types.specs.Common.{as_nanos, add_nanos}
use Rattle.types.specs.declared.common.NetTime.{NetTime}

pub added :
    (t : NetTime) (d : ℕ) →
    t.nanoseconds < 1000000000 →
    as_nanos (add_nanos t d) ≡ (as_nanos t + d) % (4294967296 * 1000000000)
unfolding add_nanos
added t d h = by (ltb (t.nanoseconds + d % 1000000000) 1000000000) refl
  where
    by :
        (b : Bool) →
        ltb (t.nanoseconds + d % 1000000000) 1000000000 ≡ b →
        as_nanos (add_nanos t d) ≡ (as_nanos t + d) % (4294967296 * 1000000000)
    by true e =
        let below = ltb-true (t.nanoseconds + d % 1000000000) 1000000000 e in
        rw e (omega arith)
    by false e =
        let carried = ltb-false (t.nanoseconds + d % 1000000000) 1000000000 e in
        rw e (omega arith)
