-- What was printed so far is written, and what is printed of the rest follows it.
use Rattle.std.proofs.Common.{IfSome}
use Rattle.std.specs.Io.Buffered.{reader_remaining}
use Rattle.replay.proofs.Going.{Goes}
use Rattle.replay.proofs.play.play.Given as goal

abbrev pub invariant-loop-place : goal.invariant-loop-place
invariant-loop-place g l =
    IfSome (reader_remaining g.R.Read.remaining l.fn.script)
    (λ bs. Goes l.fn.options bs (reader_remaining g.R.Read.remaining l.script) l.station l.place l.all_played (g.W.Write.contents l.fn.out) (g.W.Write.contents l.out))
