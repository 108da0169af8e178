-- The digits of the bytes so far.
use Rattle.std.proofs.Common.{◌≡◌, ◌*◌, length, take}
use Rattle.telling.specs.Texts.{digits_text}
use Rattle.telling.proofs.texts.Digits.of.Given as goal

abbrev pub invariant-loop-byte : goal.invariant-loop-byte
invariant-loop-byte l =
    (l.text.items ≡ digits_text (take l.byte-index l.bytes)) × (length l.text.items ≡ 2 * l.byte-index)
