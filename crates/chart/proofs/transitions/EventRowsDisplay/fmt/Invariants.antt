-- The rows so far are written.
use Rattle.std.proofs.Common.{take}
use Rattle.std.specs.Fmt.{HasWritten, IsPlainFormatter}
use Rattle.chart.specs.Transitions.{event_rows}
use Rattle.chart.proofs.transitions.EventRowsDisplay.fmt.Given as goal

abbrev pub invariant-loop-event : goal.invariant-loop-event
invariant-loop-event g l =
    IsPlainFormatter l.initial.f → HasWritten g.W.Write.write_str_gives l.initial.f (event_rows l.self.0 (take l.event-index l.event-items)) l.f
