-- `examples::heads::write` meets its contract: the writers one after the other.
-- Assumes nothing.
use Rattle.examples.specs.Shown.{resting_words}
use Rattle.examples.proofs.heads.write.Goals as goal

pub returns : goal.returns
unfolding resting_words
returns c =
    rw (c.set_capacity.ensures, c.set_od.ensures, c.set_thresholds.ensures, c.set_identity.ensures, c.set_nmt.ensures, c.clear.ensures, c.new-errors.ensures, c.same_for_all.ensures, c.machine-nmt.ensures)
