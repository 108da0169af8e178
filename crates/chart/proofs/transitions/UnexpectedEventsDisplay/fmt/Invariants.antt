-- The events so far are written.
use Rattle.std.proofs.Common.{take}
use Rattle.std.specs.Fmt.{HasWritten, IsPlainFormatter}
use Rattle.chart.specs.Transitions.{unexpected_events}
use Rattle.chart.proofs.transitions.UnexpectedEventsDisplay.fmt.Given as goal

abbrev pub invariant-loop-event : goal.invariant-loop-event
invariant-loop-event g l =
    IsPlainFormatter l.initial.f → HasWritten g.W.Write.write_str_gives l.initial.f (unexpected_events l.self.0 (take l.event-index l.event-items)) l.f
