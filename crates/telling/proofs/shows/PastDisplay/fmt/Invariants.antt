-- The entries so far are written.
use Rattle.std.proofs.Common.{take}
use Rattle.std.specs.Fmt.{HasWritten, IsPlainFormatter}
use Rattle.entries.specs.History.{history}
use Rattle.telling.specs.Texts.{entries_text}
use Rattle.telling.proofs.shows.PastDisplay.fmt.Given as goal

abbrev pub invariant-loop-place : goal.invariant-loop-place
invariant-loop-place g l =
    IsPlainFormatter l.initial.f → HasWritten g.W.Write.write_str_gives l.initial.f (entries_text (take l.place (history l.self.1.now l.self.0))) l.f
