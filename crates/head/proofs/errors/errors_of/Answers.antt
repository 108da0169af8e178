-- `head::errors::errors_of` meets its contract, kind by kind.
-- Assumes nothing.
use Rattle.std.proofs.Common.{rules}
use Rattle.counters.proofs.ByKind.{from_each}
use Rattle.head.specs.Places as at
use Rattle.head.specs.Words.{counter_at, word}
use Rattle.head.proofs.errors.errors_of.Goals as goal

pub returns : goal.returns
returns c =
    let e = from_each c.new.result (λ k. counter_at c.args.head.now (at.counter k)) (λ k. let h = c.new.ensures k in search rules) in
    λ i. record { counters = e i; loss_of_link_cumulative = word c.args.head.now at.links }
