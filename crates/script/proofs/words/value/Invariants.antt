-- The number so far, with the digits that are left, is the whole.
use Rattle.std.proofs.Common.{◌≡◌, drop}
use Rattle.script.specs.Reads.{value_from}
use Rattle.script.proofs.words.value.Given as goal

abbrev pub invariant-loop-digit : goal.invariant-loop-digit
invariant-loop-digit l = value_from l.base l.number (drop l.digit-index l.digits) ≡ value_from l.base 0 l.digits
