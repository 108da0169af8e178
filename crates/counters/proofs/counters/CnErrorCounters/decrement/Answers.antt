-- `counters::counters::CnErrorCounters::decrement` meets its contract, kind by kind.
-- Assumes nothing.
use Rattle.std.proofs.Common.{rules}
use Rattle.counters.specs.Counters.{decremented, counter, lowered}
use Rattle.counters.proofs.ByKind.{from_each}
use Rattle.counters.proofs.counters.CnErrorCounters.decrement.Goals as goal

pub returns : goal.returns
unfolding lowered
returns c =
    let e = from_each c.new-self.result (λ k. decremented (counter k c.args.self.now)) (λ k. let h = c.new-self.ensures k in search rules) in
    λ i. record { counters = e i; loss_of_link_cumulative = c.args.self.now.loss_of_link_cumulative }
