-- Digits behind 0x are ascii.
use Rattle.std.proofs.Common.{subst, sym}
use Rattle.std.specs.Str.{IsAscii}
use Rattle.telling.proofs.Ascii.{form_ascii}
use Rattle.telling.proofs.answers.Hex16Display.fmt.Goals as goal

pub text_of-requires : goal.text_of-requires
text_of-requires g c = subst IsAscii (sym c.hex4-digits.ensures) (form_ascii 4 _)
