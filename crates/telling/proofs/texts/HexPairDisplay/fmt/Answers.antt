-- Digits are ascii.
use Rattle.std.proofs.Common.{subst, sym}
use Rattle.std.specs.Str.{IsAscii}
use Rattle.telling.proofs.Ascii.{hex_ascii}
use Rattle.telling.proofs.texts.HexPairDisplay.fmt.Goals as goal

pub text_of-requires : goal.text_of-requires
text_of-requires g c = subst IsAscii (sym c.digits-digits.ensures) (hex_ascii 2 _)
