-- What stands in the places of a recipe, and of none.
-- Assumes nothing.
use Rattle.std.proofs.Common.{◌≡◌, refl, ap, ◌∙◌, ℕ, zero, suc, ◌-◌, Bool, true, false, ◌&&◌, eqb, leb, List, [], ◌∷◌, ◌++◌, length, replicate, arith}
use borrow.Author.Tests.{eqb-true, leb-true}
use Rattle.std.specs.List.{slice_get, list_all}
use Rattle.std.specs.declared.option.Option.TheVariants.{Some, None}
use Rattle.types.specs.Pick.{pick}
use Rattle.types.specs.declared.refusals.Refusal.TheVariants.{NoWeight}
use Rattle.recipes.specs.declared.Component.{Component}
use Rattle.recipes.specs.Recipe.{is_component, is_recipe, no_bin_twice, no_component, no_places, places_of}
use Rattle.weigh.specs.PlainWeigh.{weight_answer, refused, weight_in}

pub and_first : (a b : Bool) → (a && b) ≡ true → a ≡ true
and_first true b h = refl
and_first false b h = h

pub and_second : (a b : Bool) → (a && b) ≡ true → b ≡ true
and_second true b h = h
and_second false b h = absurd (let z : false ≡ true = h in cc)

-- no component is no weight
none_there : (n i : ℕ) → weight_in (slice_get (replicate n no_component) i) ≡ refused NoWeight
none_there zero i = refl
none_there (suc n) zero = refl
none_there (suc n) (suc i) = none_there n i

pub no_weight : (i : ℕ) → weight_in (slice_get no_places i) ≡ refused NoWeight
no_weight i = none_there 16 i

-- behind the components of a list, there is none
behind : (cs : List Component) (n i : ℕ) → slice_get cs i ≡ None → weight_in (slice_get (cs ++ replicate n no_component) i) ≡ refused NoWeight
behind [] n i h = none_there n i
behind (c ∷ cs) n zero h = cc
behind (c ∷ cs) n (suc i) h = behind cs n i h

pub weight_behind : (cs : List Component) (i : ℕ) → slice_get cs i ≡ None → weight_in (slice_get (places_of cs) i) ≡ refused NoWeight
weight_behind cs i h = behind cs (16 - length cs) i h

-- a component with a bin has its grams
bin_there : (n g : ℕ) → leb 1 n ≡ true → pick (eqb n 0) (refused NoWeight) (weight_answer g) ≡ weight_answer g
bin_there n g h = by (eqb n 0) refl
  where
    by : (b : Bool) → eqb n 0 ≡ b → pick b (refused NoWeight) (weight_answer g) ≡ weight_answer g
    by true e = absurd (let z = eqb-true n 0 e in let l = leb-true 1 n h in let f : ⊥ = omega arith in f)
    by false e = refl

component_there :
    (cs ds : List Component) (i : ℕ) (c : Component) → list_all is_component cs ≡ true → slice_get cs i ≡ Some c →
    weight_in (slice_get (cs ++ ds) i) ≡ weight_answer c.grams
component_there [] ds i c a h = cc
component_there (d ∷ cs) ds zero c a h =
    let e : d ≡ c = cc in
    bin_there d.bin d.grams (and_first (leb 1 d.bin) (leb d.bin 64) (and_first _ _ (and_first (is_component d) (list_all is_component cs) a)))
    ∙ ap (λ (c : Component). weight_answer c.grams) e
component_there (d ∷ cs) ds (suc i) c a h = component_there cs ds i c (and_second (is_component d) (list_all is_component cs) a) h

pub weight_there :
    (cs : List Component) (i : ℕ) (c : Component) → is_recipe cs ≡ true → slice_get cs i ≡ Some c →
    weight_in (slice_get (places_of cs) i) ≡ weight_answer c.grams
weight_there cs i c r h =
    component_there cs _ i c (and_second _ (list_all is_component cs) (and_first _ (no_bin_twice cs) r)) h
