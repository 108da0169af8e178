-- `head::errors::set_thresholds` meets its contract: the word of each kind is its counter's own.
-- Assumes nothing.
use mathlib.Core.Path.{◌∙◌}
use Rattle.std.proofs.Common.{rules}
use Rattle.counters.specs.Counters.{counter, of_kind}
use Rattle.head.proofs.Each.{same_each}
use Rattle.head.proofs.errors.set_thresholds.Goals as goal

pub returns : goal.returns
returns c =
    c.set_each.ensures ∙
    same_each c.args.head.now 2 (λ k. of_kind k c.new-thresholds.result) (λ k. (counter k c.args.errors).threshold) (λ k. let e = c.new-thresholds.ensures k in search rules)
