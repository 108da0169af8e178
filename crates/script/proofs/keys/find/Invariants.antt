-- None of the words that were passed has the key.
use Rattle.script.proofs.Taking.{Passed}
use Rattle.script.proofs.keys.find.Given as goal

abbrev pub invariant-loop-place : goal.invariant-loop-place
invariant-loop-place l = Passed l.key l.words l.place
