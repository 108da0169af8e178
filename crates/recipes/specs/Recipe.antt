-- Which components are a recipe (RULES 12.1), and the places that it fills (RULES 12.3).
-- Assumes nothing.
use Rattle.std.specs.Prelude.{ℕ, ◌-◌, Bool, true, not, ◌&&◌, List, [], ◌∷◌, ◌++◌, eqb, leb, length, replicate}
use Rattle.std.specs.List.{list_all, list_any}
use Rattle.std.specs.declared.result.Result.{Result}
use Rattle.std.specs.declared.result.Result.TheVariants.{Ok, Err}
use Rattle.types.specs.Pick.{pick}
use Rattle.types.specs.declared.refusals.Refusal.{Refusal}
use Rattle.types.specs.declared.refusals.Refusal.TheVariants.{RecipeLimits}
use Rattle.recipes.specs.declared.Component.{Component}

-- the places of a weigh head
abbrev pub place_count : ℕ
place_count = 16

-- a bin from 1 to 64, and 1 to 30,000 grams
abbrev pub is_component : Component → Bool
is_component c = leb 1 c.bin && leb c.bin 64 && (leb 1 c.grams && leb c.grams 30000)

-- it is taken from the bin n
abbrev pub is_from : ℕ → Component → Bool
is_from n c = eqb c.bin n

-- no bin stands twice
abbrev pub no_bin_twice : List Component → Bool
no_bin_twice [] = true
no_bin_twice (c ∷ cs) = not (list_any (is_from c.bin) cs) && no_bin_twice cs

-- 1 to 16 components, each within its limits, and no bin twice
abbrev pub is_recipe : List Component → Bool
is_recipe cs =
    leb 1 (length cs) && leb (length cs) place_count && list_all is_component cs && no_bin_twice cs

-- the recipe of these components, or RecipeLimits
abbrev pub read_recipe : List Component → Result (List Component) Refusal
read_recipe cs = pick (is_recipe cs) (Ok cs) (Err RecipeLimits)

-- what stands in a place without a component
abbrev pub no_component : Component
no_component = record { bin = 0; grams = 0 }

-- all places: the components in their order, and none behind them
abbrev pub places_of : List Component → List Component
places_of cs = cs ++ replicate (place_count - length cs) no_component

-- the places of a weigh head that has no recipe
abbrev pub no_places : List Component
no_places = replicate place_count no_component
