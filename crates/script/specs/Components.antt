-- The components of a recipe in a line.
-- Assumes nothing.
use Rattle.std.specs.Prelude.{ℕ, zero, suc, Option, Some, None, option_map, option_and_then, List, [], ◌∷◌, ◌++◌}
use Rattle.recipes.specs.declared.Component.{Component}
use Rattle.script.specs.Reads.{Reads, ◌>>=◌, just, bits8, bits16}

-- a component: a bin and grams
unfoldable pub component : Reads Component
component = bits8 >>= λ bin. bits16 >>= λ grams. just (record { bin = bin; grams = grams })

-- the components cs, with those that a text is behind them, of which so many may be
unfoldable pub components_from : ℕ → List Component → List ℕ → Option (List Component)
components_from most cs [] = Some cs
components_from zero cs (c ∷ text) = None
components_from (suc most) cs (c ∷ text) =
    option_and_then (λ x. components_from most (cs ++ x.0 ∷ []) x.1) (component (c ∷ text))

-- components to the end of the line: at most 20
abbrev pub components : Reads (List Component)
components text = option_map (λ cs. (cs, [])) (components_from 20 [] text)
