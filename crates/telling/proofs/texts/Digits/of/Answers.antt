-- Digits are ascii.
use Rattle.std.proofs.Common.{subst, sym}
use Rattle.std.specs.Str.{IsAscii}
use Rattle.telling.proofs.Ascii.{digits_ascii}
use Rattle.telling.proofs.texts.Digits.of.Goals as goal

pub invariant_of-result : goal.invariant_of-result
invariant_of-result c = record { ascii = subst IsAscii (sym c.loop-byte.invariant.0) (digits_ascii _) }
