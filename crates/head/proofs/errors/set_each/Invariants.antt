-- `head::errors::set_each` meets its contract. The loop's invariant: what is left to write gives
-- what all of it gives.
-- Assumes nothing.
use Rattle.std.proofs.Common.{◌≡◌, ◌+◌, ◌*◌, drop}
use Rattle.head.proofs.Each.{nth_written}
use Rattle.head.proofs.errors.set_each.Given as goal

abbrev pub invariant-loop-i : goal.invariant-loop-i
invariant-loop-i l = nth_written l.head (7 + 4 * l.i) l.nth (drop l.i l.word-items) ≡ nth_written l.initial.head 7 l.nth l.word-items
