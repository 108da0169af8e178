-- `head::errors::set_levels` meets its contract: the word of each kind is its counter's own.
-- Assumes nothing.
use mathlib.Core.Path.{◌∙◌}
use Rattle.std.proofs.Common.{rules}
use Rattle.counters.specs.Counters.{counter, of_kind}
use Rattle.head.proofs.Each.{same_each}
use Rattle.head.proofs.errors.set_levels.Goals as goal

pub returns : goal.returns
returns c =
    c.set_each.ensures ∙
    same_each c.args.head.now 1 (λ k. of_kind k c.new-levels.result) (λ k. (counter k c.args.errors).threshold_cnt) (λ k. let e = c.new-levels.ensures k in search rules)
