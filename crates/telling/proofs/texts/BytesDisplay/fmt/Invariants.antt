-- The bytes so far are written, behind the space.
use Rattle.std.proofs.Common.{take}
use Rattle.std.specs.Fmt.{HasWritten, IsPlainFormatter}
use Rattle.telling.specs.Texts.{digits_text}
use Rattle.telling.proofs.texts.BytesDisplay.fmt.Given as goal

abbrev pub invariant-loop-byte : goal.invariant-loop-byte
invariant-loop-byte g l =
    IsPlainFormatter l.initial.f → HasWritten g.W.Write.write_str_gives l.initial.f (digits_text (take l.byte-index l.byte-items)) l.f
