-- The states behind the first are written so far.
use Rattle.std.proofs.Common.{take}
use Rattle.std.specs.Fmt.{HasWritten, IsPlainFormatter}
use Rattle.chart.specs.Transitions.{behind_text}
use Rattle.chart.proofs.transitions.EnteredDisplay.fmt.Given as goal

abbrev pub invariant-loop-state : goal.invariant-loop-state
invariant-loop-state g l =
    IsPlainFormatter l.initial.f → HasWritten g.W.Write.write_str_gives l.initial.f (behind_text (take l.state-index l.behind)) l.f
