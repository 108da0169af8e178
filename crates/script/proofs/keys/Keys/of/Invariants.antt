-- The words so far, with those that are left, are those of the line.
use Rattle.std.proofs.Common.{◌-◌, length}
use Rattle.script.proofs.Taking.{Split}
use Rattle.script.proofs.keys.Keys.of.Given as goal

abbrev pub invariant-loop-ahead : goal.invariant-loop-ahead
invariant-loop-ahead l = Split l.keys.words.items l.ahead.rest.now l.words.rest.now

abbrev pub decreases-loop-ahead : goal.decreases-loop-ahead
decreases-loop-ahead l = 18 - length l.keys.words.items
