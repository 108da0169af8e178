-- The ranges so far are written.
use Rattle.std.proofs.Common.{take}
use Rattle.std.specs.Fmt.{HasWritten, IsPlainFormatter}
use Rattle.telling.specs.Answers.{restored_text}
use Rattle.telling.proofs.answers.RestoredDisplay.fmt.Given as goal

abbrev pub invariant-loop-range : goal.invariant-loop-range
invariant-loop-range g l =
    IsPlainFormatter l.initial.f → HasWritten g.W.Write.write_str_gives l.initial.f (restored_text (take l.range-index l.range-items)) l.f
