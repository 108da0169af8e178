-- The states so far are written.
use Rattle.std.proofs.Common.{take}
use Rattle.std.specs.Fmt.{HasWritten, IsPlainFormatter}
use Rattle.telling.specs.Answers.{entered_text}
use Rattle.telling.proofs.answers.EnteredDisplay.fmt.Given as goal

abbrev pub invariant-loop-state : goal.invariant-loop-state
invariant-loop-state g l =
    IsPlainFormatter l.initial.f → HasWritten g.W.Write.write_str_gives l.initial.f (entered_text l.self.0 (take l.state-index l.state-items)) l.f
