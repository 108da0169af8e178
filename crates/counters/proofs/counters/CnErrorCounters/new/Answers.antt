-- `counters::counters::CnErrorCounters::new` meets its contract, kind by kind.
-- Assumes nothing.
use Rattle.std.proofs.Common.{rules}
use Rattle.counters.specs.Counters.{new_counter, threshold_for}
use Rattle.counters.proofs.ByKind.{from_each}
use Rattle.counters.proofs.counters.CnErrorCounters.new.Goals as goal

pub returns : goal.returns
returns c =
    let e = from_each c.new.result (λ k. new_counter (threshold_for k c.args.thresholds)) (λ k. let h = c.new.ensures k in search rules) in
    λ i. record { counters = e i; loss_of_link_cumulative = 0 }
