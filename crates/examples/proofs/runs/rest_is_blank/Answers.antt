-- `examples::runs::rest_is_blank` meets its contract: each place behind the first is blank.
-- Assumes nothing.
use Rattle.std.proofs.Common.{rules, tests, refl, ◌∙◌, ℕ}
use Rattle.std.proofs.lemmas.Iterator.{YieldsList-from_range}
use Rattle.std.proofs.lemmas.Iterator.Search.{all_from_yields_List}
use Rattle.watched.specs.Nodes.{node_at}
use Rattle.examples.specs.Same.{blank}
use Rattle.examples.proofs.Blank.{blank_from}
use Rattle.examples.proofs.runs.rest_is_blank.Goals as goal

pub returns : goal.returns
returns c =
    let ns = c.args.nodes.now in
    all_from_yields_List (λ (i : ℕ). blank (node_at ns i)) _ _ _ c.all.ensures.ran (YieldsList-from_range 1 32 31 refl refl) (λ x b q k. search (rules, tests))
    ∙ blank_from ns 31 1 refl
