-- `counters::counters::ByKind<u32>::same_for_all` meets its contract, kind by kind.
-- Assumes nothing.
use Rattle.std.proofs.Common.{rules}
use Rattle.counters.proofs.ByKind.{from_each}
use Rattle.counters.proofs.counters.ByKind+u32.same_for_all.Goals as goal

pub returns : goal.returns
returns c = from_each c.new.result (λ k. c.args.threshold) (λ k. let h = c.new.ensures k in search rules)
