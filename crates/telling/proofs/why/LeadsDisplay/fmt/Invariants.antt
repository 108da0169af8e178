-- What the events so far move or set is written.
use Rattle.std.proofs.Common.{take}
use Rattle.std.specs.Fmt.{HasWritten, IsPlainFormatter}
use Rattle.telling.specs.Why.{leads_text}
use Rattle.telling.proofs.why.LeadsDisplay.fmt.Given as goal

abbrev pub invariant-loop-event : goal.invariant-loop-event
invariant-loop-event g l =
    IsPlainFormatter l.initial.f → HasWritten g.W.Write.write_str_gives l.initial.f (leads_text l.self.0 (take l.event-index l.event-items)) l.f
