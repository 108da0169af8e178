-- `counters::counters::CnErrorCounters::replace` meets its contract, kind by kind.
-- Assumes nothing.
use Rattle.std.proofs.Common.{rules, tests}
use Rattle.types.specs.Pick.{pick}
use Rattle.counters.specs.Counters.{same_kind, counter, replaced}
use Rattle.counters.proofs.ByKind.{from_each}
use Rattle.counters.proofs.counters.CnErrorCounters.replace.Goals as goal

pub returns : goal.returns
unfolding replaced
returns c =
    let e = from_each c.new-self.result (λ k. pick (same_kind c.args.kind k) c.args.by (counter k c.args.self.now)) (λ k. let h = c.new-self.ensures k in search (rules, tests)) in
    λ i. record { counters = e i; loss_of_link_cumulative = c.args.self.now.loss_of_link_cumulative }
