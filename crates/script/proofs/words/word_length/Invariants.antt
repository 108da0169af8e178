-- The characters that were passed, and those before the first space of what is left.
use Rattle.std.proofs.Common.{◌≡◌, ◌+◌, drop}
use Rattle.script.specs.Reads.{word_length}
use Rattle.script.proofs.words.word_length.Given as goal

abbrev pub invariant-loop-place : goal.invariant-loop-place
invariant-loop-place l = word_length l.line ≡ l.place + word_length (drop l.place l.line)
