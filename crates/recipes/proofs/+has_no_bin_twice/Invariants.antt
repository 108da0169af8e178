-- `recipes::has_no_bin_twice`: the list gets shorter.
-- Assumes nothing.
use Rattle.std.proofs.Common.{length}
use Rattle.recipes.proofs.+has_no_bin_twice.Given as goal

abbrev pub decreases-has_no_bin_twice : goal.decreases-has_no_bin_twice
decreases-has_no_bin_twice l = length l.components.now
