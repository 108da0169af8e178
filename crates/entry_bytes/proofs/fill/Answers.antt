-- `entry_bytes::fill` meets its contract. The loop's invariant: what is left to fill gives the same as the whole.
-- Assumes nothing.
use Prim.Native.Nat.{ℕ, ◌%◌}
use mathlib.Core.Path.{refl, ap}
use Rattle.entry_bytes.proofs.Filling.{step, ends}
use Rattle.entry_bytes.proofs.fill.Goals as goal

pub loop-byte-init : goal.loop-byte-init
loop-byte-init c =
    record { number = refl; bytes = refl }

pub loop-byte-preserved : goal.loop-byte-preserved
loop-byte-preserved c =
    let l = c.loop-byte in
    step _ _ _ _ l.byte-index _ _ c.loop-byte-test.true c.next.ensures.next (ap (λ (x : ℕ). x % 256) c.next.ensures.number) l.invariant

pub returns : goal.returns
returns c =
    let l = c.loop-byte in
    ends _ _ _ _ l.byte-index c.loop-byte-test.false l.invariant
