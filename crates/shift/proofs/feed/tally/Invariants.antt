-- `shift::feed::tally` meets its contract. The loop's invariant: what is left to count gives the same as the whole.
-- Assumes nothing.
use Rattle.std.proofs.Common.{◌≡◌}
use Rattle.shift.specs.Report.{codes_in}
use Rattle.shift.specs.Feed.{counted_all}
use Rattle.shift.proofs.feed.tally.Given as goal

abbrev pub invariant-loop-entry : goal.invariant-loop-entry
invariant-loop-entry l =
    (counted_all l.counts (codes_in l.entry-iterator.rest.now) ≡ counted_all l.initial.counts (codes_in l.run)) × (l.entry-iterator.size ≡ 20)
