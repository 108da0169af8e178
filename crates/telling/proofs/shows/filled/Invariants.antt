-- What is left holds the same.
use Rattle.std.proofs.Common.{◌≡◌, length}
use Rattle.telling.specs.Shows.{filled}
use Rattle.telling.proofs.shows.filled.Given as goal

abbrev pub invariant-loop-last : goal.invariant-loop-last
invariant-loop-last l = filled l.filled ≡ filled l.places

abbrev pub decreases-loop-last : goal.decreases-loop-last
decreases-loop-last l = length l.filled
