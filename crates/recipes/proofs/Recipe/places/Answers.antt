-- `recipes::Recipe::places` meets its contract: the components, and behind them what stood there.
-- Assumes nothing.
use Rattle.std.proofs.Common.{ap, ap₂, ◌∙◌, List, ◌++◌, length}
use Rattle.std.proofs.lemmas.List.{drop-replicate}
use Rattle.recipes.specs.Recipe.{no_component, places_of}
use Rattle.recipes.specs.declared.Component.{Component}
use Rattle.recipes.proofs.Recipe.places.Goals as goal

pub returns-clause-filled : goal.returns-clause-filled
returns-clause-filled c =
    ap₂ (λ (xs ys : List Component). xs ++ ys) c.copy_from_slice.ensures.after
    (drop-replicate (length c.self.inside.components.now) 16 no_component)
    ∙ ap places_of c.self.view_is
