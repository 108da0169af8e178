-- None of the events so far moves the state at the second position alone.
use Rattle.std.proofs.Common.{◌≡◌, drop}
use Rattle.telling.specs.Why.{gains}
use Rattle.telling.proofs.why.gains.Given as goal

abbrev pub invariant-loop-event : goal.invariant-loop-event
invariant-loop-event l = gains l.here l.there (drop l.event-index l.events) ≡ gains l.here l.there l.events
