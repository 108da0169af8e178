-- `shift::feed::tally` meets its contract. The loop's invariant: what is left to count gives the same as the whole.
-- Assumes nothing.
use Rattle.std.proofs.Common.{◌≡◌, ◌∙◌, ℕ, ◌+◌, ◌*◌, ◌<◌, List, ◌++◌, length, get_or, arith}
use Rattle.shift.specs.Report.{codes_in}
use Rattle.shift.specs.Feed.{counted, counted_all}
use Rattle.shift.proofs.Codes.{codes_behind, codes_none}
use Rattle.shift.proofs.feed.tally.Goals as goal

-- a turn
step :
    (cs cs' t e s s' : List ℕ) →
    s ≡ e ++ s' →
    length e ≡ 20 →
    cs' ≡ counted cs (get_or e 2 0 + 256 * get_or e 3 0) →
    counted_all cs (codes_in s) ≡ t →
    counted_all cs' (codes_in s') ≡ t
unfolding counted_all
step cs cs' t e s s' parts long is h = rw is (rw (parts, codes_behind e s' long) at h)

ends : (cs t s : List ℕ) → length s < 20 → counted_all cs (codes_in s) ≡ t → cs ≡ t
unfolding counted_all
ends cs t s few h = rw (codes_none s few) at h

pub loop-entry-preserved : goal.loop-entry-preserved
loop-entry-preserved c =
    let l = c.loop-entry in
    let n = c.in-Some.ensures.steps in (
      step l.counts c.count.new.counts _ c.in-Some.entry.now l.entry-iterator.rest.now c.next.new.self.rest.now n.1.0 (n.1.1 ∙ l.invariant.1) c.count.ensures l.invariant.0,
      n.0 ∙ l.invariant.1,
    )

pub returns : goal.returns
returns c =
    let l = c.loop-entry in
    let few : length l.entry-iterator.rest.now < l.entry-iterator.size = c.in-None.ensures.steps.1.0 in
    ends l.counts _ l.entry-iterator.rest.now (omega (arith, l.invariant.1)) l.invariant.0
