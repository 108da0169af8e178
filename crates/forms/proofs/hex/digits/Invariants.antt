-- The digits that are left to write, before those written, are the whole.
-- Assumes nothing.
use Rattle.std.proofs.Common.{◌≡◌, ◌++◌, drop, length}
use Rattle.forms.specs.Hex.{hex_digits}
use Rattle.forms.proofs.hex.digits.Given as goal

abbrev pub invariant-loop-place : goal.invariant-loop-place
invariant-loop-place g l =
    (hex_digits l.place l.left ++ drop l.place l.digits ≡ hex_digits g.row.N l.n) × (length l.digits ≡ g.row.N)
