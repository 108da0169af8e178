-- What a clause sees of a weigh head.
-- Assumes nothing.
use Rattle.std.specs.Prelude.{ℕ, List}
use Rattle.recipes.specs.declared.Component.{Component}

-- the words of its node, and its places
pub record Parts : Type 0 where
  pub node : List ℕ
  pub places : List Component
