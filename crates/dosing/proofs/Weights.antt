-- THE WEIGHTS: behind any calls from a weigh head without a recipe, the answer of a weight.
-- Assumes nothing.
use Rattle.std.proofs.Common.{◌≡◌, refl, sym, ap, subst, ◌∙◌, ℕ, Bool, true, false, List, [], ◌∷◌, ◌++◌, true≢false}
use Rattle.std.specs.List.{slice_get}
use Rattle.std.specs.declared.option.Option.{Option}
use Rattle.std.specs.declared.option.Option.TheVariants.{Some, None}
use Rattle.types.specs.Pick.{pick}
use Rattle.types.specs.States.{same_state}
use Rattle.types.specs.declared.nmt.states.NmtState.{NmtState}
use Rattle.types.specs.declared.nmt.states.NmtState.TheVariants.{NmtOperational}
use Rattle.types.specs.declared.refusals.Refusal.TheVariants.{NoWeight}
use Rattle.head.proofs.Laws.{state_is}
use Rattle.trace.specs.Visits.{nmt_state}
use Rattle.recipes.specs.declared.Component.{Component}
use Rattle.recipes.specs.Recipe.{is_recipe, places_of, no_places}
use Rattle.weigh.specs.PlainWeigh.{Weigh, Call, load_recipe, weight, Answer, weight_answer, refused, weight_in, weight_told, step}
use Rattle.dosing.specs.LastRecipe.{step_all, loads, is_reset, NoneLoaded, NoReset, Loaded, last, Weighed, told, withheld, Forgotten, since}
use Rattle.dosing.proofs.RecipePlaces.{no_weight, weight_behind, weight_there}
use Rattle.dosing.proofs.WeighLists.{again, at_end, run_behind, run_then, none_loaded_then, no_reset_then}
use Rattle.dosing.proofs.PlaceChanges.{Changes, empties, fills, leaves, changes, all_leave, all_empty}

module _ (w : Weigh) where
  -- the places after the calls cs
  abbrev places : List Call → List Component
  places cs = (step_all w cs).places

  -- the recipe last loaded since the last reset stands in them
  pub record Filled (r : List Component) (cs : List Call) : Type 0 where
    pub fits : is_recipe r ≡ true
    pub stands : places cs ≡ places_of r

  pub filled : {r : List Component} {cs : List Call} → Loaded w r cs → Filled r cs
  filled {r} (last before after l n m) = by (changes (step_all w before) (load_recipe r))
    where
      by :
          Changes (step_all w before) (load_recipe r) (step (step_all w before) (load_recipe r)).head.places →
          Filled r (before ++ (load_recipe r ∷ after))
      by (empties e f p) = absurd (true≢false (sym l ∙ f))
      by (fills s f k e i p) =
          let same : s ≡ r = cc in
          record {
            fits = ap is_recipe (sym same) ∙ i;
            stands =
                ap (λ (w : Weigh). w.places) (run_behind w before (load_recipe r) after)
                ∙ all_leave (step (step_all w before) (load_recipe r)).head after n m
                ∙ p
                ∙ ap places_of same;
          }
      by (leaves e f p) = absurd (true≢false (sym l ∙ f))

  -- and where none was, they are empty
  data Has (cs : List Call) : Type 0 where
    nothing : places cs ≡ no_places → Has cs
    recipe : (r : List Component) → Loaded w r cs → Has cs

  loaded_then :
      {r : List Component} {cs : List Call} → Loaded w r cs → (c : Call) → loads (step_all w cs) c ≡ false →
      is_reset (step_all w cs) c ≡ false → Loaded w r (cs ++ (c ∷ []))
  loaded_then {r} (last before after l n m) c e f =
      let from = (step (step_all w before) (load_recipe r)).head in
      let at = run_behind w before (load_recipe r) after in
      subst (Loaded w r) (sym (again before (load_recipe r ∷ after) (c ∷ [])))
      (last before (after ++ (c ∷ [])) l
      (none_loaded_then from after c n (ap (λ (v : Weigh). loads v c) (sym at) ∙ e))
      (no_reset_then from after c m (ap (λ (v : Weigh). is_reset v c) (sym at) ∙ f)))

  has_then : (cs : List Call) (c : Call) → Has cs → Has (cs ++ (c ∷ []))
  unfolding NoneLoaded NoReset
  has_then cs c h = by (changes (step_all w cs) c) h
    where
      then : places (cs ++ (c ∷ [])) ≡ (step (step_all w cs) c).head.places
      then = ap (λ (w : Weigh). w.places) (run_then w cs c)

      by : Changes (step_all w cs) c (step (step_all w cs) c).head.places → Has cs → Has (cs ++ (c ∷ []))
      by (empties e f p) h = nothing (then ∙ p)
      by (fills r f l e i p) h =
          recipe r (subst (λ (d : Call). Loaded w r (cs ++ (d ∷ []))) (sym f)
          (last cs [] (ap (loads (step_all w cs)) (sym f) ∙ l) tt tt))
      by (leaves e f p) (nothing g) = nothing (then ∙ p ∙ g)
      by (leaves e f p) (recipe r l) = recipe r (loaded_then l c f e)

  has_all : (done cs : List Call) → Has done → Has (done ++ cs)
  has_all done [] h = subst Has (sym (at_end done)) h
  has_all done (c ∷ cs) h = subst Has (again done (c ∷ []) cs) (has_all (done ++ (c ∷ [])) cs (has_then done c h))

  module _ (empty : w.places ≡ no_places) where
    has : (cs : List Call) → Has cs
    unfolding step_all
    has cs = has_all [] cs (nothing empty)

    -- the answer behind some calls
    abbrev answer : List Call → ℕ → Answer
    answer before i = (step (step_all w before) (weight i)).answer

    abbrev state : List Call → NmtState
    state before = nmt_state (step_all w before).node

    -- where it withholds, no recipe has a component there in Operational
    withholds : (before : List Call) (i : ℕ) → answer before i ≡ refused NoWeight → Weighed w before i (answer before i)
    withholds before i e = subst (Weighed w before i) (sym e) (withheld (λ r c op l g. by (op) (filled l) g))
      where
        by :
            {r : List Component} {c : Component} → state before ≡ NmtOperational → Filled r before → slice_get r i ≡ Some c → ⊥
        by {r} {c} op f g =
            let one = ap (λ (s : NmtState). weight_told s (places before) i) op in
            let two = ap (λ (ps : List Component). weight_in (slice_get ps i)) f.stands in
            let three = weight_there r i c f.fits g in
            let z : refused NoWeight ≡ weight_answer c.grams = sym e ∙ one ∙ two ∙ three in
            cc

    pub weighed : (before : List Call) (i : ℕ) → Weighed w before i (answer before i)
    weighed before i = by (same_state (state before) NmtOperational) refl
      where
        in_state : (b : Bool) → same_state (state before) NmtOperational ≡ b → answer before i ≡ pick b (weight_in (slice_get (places before) i)) (refused NoWeight)
        in_state b e = ap (λ (b : Bool). pick b (weight_in (slice_get (places before) i)) (refused NoWeight)) e

        component : (r : List Component) → Loaded w r before → state before ≡ NmtOperational → answer before i ≡ weight_in (slice_get (places before) i) → (o : Option Component) → slice_get r i ≡ o → Weighed w before i (answer before i)
        component r l op e (Some c) g =
            let f = filled l in
            subst (Weighed w before i) (sym (e ∙ ap (λ (ps : List Component). weight_in (slice_get ps i)) f.stands ∙ weight_there r i c f.fits g))
            (told r c op l g)
        component r l op e None g =
            let f = filled l in
            withholds before i (e ∙ ap (λ (ps : List Component). weight_in (slice_get ps i)) f.stands ∙ weight_behind r i g)

        recipes : Has before → state before ≡ NmtOperational → answer before i ≡ weight_in (slice_get (places before) i) → Weighed w before i (answer before i)
        recipes (nothing f) op e = withholds before i (e ∙ ap (λ (ps : List Component). weight_in (slice_get ps i)) f ∙ no_weight i)
        recipes (recipe r l) op e = component r l op e (slice_get r i) refl

        by : (b : Bool) → same_state (state before) NmtOperational ≡ b → Weighed w before i (answer before i)
        by true e = recipes (has before) (state_is (state before) NmtOperational e) (in_state true e)
        by false e = withholds before i (in_state false e)

  -- behind a reset, and no load: NoWeight
  forgotten_answer : (s : NmtState) (ps : List Component) (i : ℕ) → ps ≡ no_places → weight_told s ps i ≡ refused NoWeight
  forgotten_answer s ps i e = by (same_state s NmtOperational)
    where
      by : (b : Bool) → pick b (weight_in (slice_get ps i)) (refused NoWeight) ≡ refused NoWeight
      by true = ap (λ (ps : List Component). weight_in (slice_get ps i)) e ∙ no_weight i
      by false = refl

  pub forgotten : (cs : List Call) (i : ℕ) → Forgotten w cs → (step (step_all w cs) (weight i)).answer ≡ refused NoWeight
  forgotten cs i (since before c after r n) = forgotten_answer _ _ i (by (changes (step_all w before) c))
    where
      by : Changes (step_all w before) c (step (step_all w before) c).head.places → places (before ++ (c ∷ after)) ≡ no_places
      by (empties e f p) =
          ap (λ (w : Weigh). w.places) (run_behind w before c after) ∙ all_empty (step (step_all w before) c).head after n p
      by (fills s f l e i p) = absurd (true≢false (sym r ∙ e))
      by (leaves e f p) = absurd (true≢false (sym r ∙ e))
