-- What a call makes of the places: a reset empties them, a load that is taken fills them, and every
-- other call leaves them.
-- Assumes nothing.
use Rattle.std.proofs.Common.{◌≡◌, refl, sym, ap, ◌∙◌, Bool, true, false, ◌||◌, List, [], ◌∷◌, true≢false}
use Rattle.std.specs.List.{list_any}
use Rattle.types.specs.Pick.{pick}
use Rattle.types.specs.States.{same_state}
use Rattle.types.specs.Events.{read_event}
use Rattle.types.specs.declared.nmt.states.NmtState.TheVariants.{NmtPreOperational2}
use Rattle.types.specs.declared.refusals.Refusal.TheVariants.{RecipeLimits, NotPreOperational2}
use Rattle.nmt.specs.Resets as nmt
use Rattle.node.specs.Plain as plain
use Rattle.node.specs.Run as node
use Rattle.calling.specs.Values.{tells_reset}
use Rattle.trace.specs.Visits.{resets}
use Rattle.recipes.specs.declared.Component.{Component}
use Rattle.recipes.specs.Recipe.{is_recipe, places_of, no_places}
use Rattle.weigh.specs.PlainWeigh.{Weigh, Call, node_call, load_recipe, weight, refused, Step, answers, ready_word, load_taken, step}
use Rattle.dosing.specs.LastRecipe.{step_all, is_taken, loads, is_reset, NoneLoaded, NoReset}
use Rattle.dosing.proofs.AnswerTells.{answer_tells}

-- of a call c on w, the places ps after it
pub data Changes (w : Weigh) (c : Call) (ps : List Component) : Type 0 where
  empties : is_reset w c ≡ true → loads w c ≡ false → ps ≡ no_places → Changes w c ps
  fills :
      (r : List Component) → c ≡ load_recipe r → loads w c ≡ true → is_reset w c ≡ false → is_recipe r ≡ true →
      ps ≡ places_of r → Changes w c ps
  leaves : is_reset w c ≡ false → loads w c ≡ false → ps ≡ w.places → Changes w c ps

or_false : (b : Bool) → (b || false) ≡ b
or_false true = refl
or_false false = refl

node_changes : (w : Weigh) (c : plain.Call) → Changes w (node_call c) (step w (node_call c)).head.places
node_changes w c = by (resets (node.step w.node c).event) refl
  where
    told : tells_reset (node.step w.node c).answer ≡ resets (node.step w.node c).event
    told = answer_tells w.node c

    by : (b : Bool) → resets (node.step w.node c).event ≡ b → Changes w (node_call c) (step w (node_call c)).head.places
    by true e =
        empties (or_false _ ∙ e) refl (ap (λ (b : Bool). pick b no_places w.places) (told ∙ e))
    by false e =
        leaves (or_false _ ∙ e) refl (ap (λ (b : Bool). pick b no_places w.places) (told ∙ e))

-- the ready word is no reset
ready_rests : (p : plain.Plain) → resets (node.step p ready_word).event ≡ false
unfolding nmt.is_reset read_event
ready_rests p = refl

load_changes : (w : Weigh) (r : List Component) → Changes w (load_recipe r) (step w (load_recipe r)).head.places
load_changes w r = by (is_recipe r) (same_state w.node.nmt.current_state NmtPreOperational2) refl refl
  where
    refuse : (s : Step) → step w (load_recipe r) ≡ s → list_any (λ (p : plain.Call). resets (node.step w.node p).event) s.asked ≡ false → is_taken s.answer ≡ false → s.head.places ≡ w.places → Changes w (load_recipe r) (step w (load_recipe r)).head.places
    refuse s e a t p =
        leaves (ap (λ (s : Step). list_any (λ (p : plain.Call). resets (node.step w.node p).event) s.asked) e ∙ a)
        (ap (λ (s : Step). is_taken s.answer) e ∙ t) (ap (λ (s : Step). s.head.places) e ∙ p)

    by :
        (a b : Bool) → is_recipe r ≡ a → same_state w.node.nmt.current_state NmtPreOperational2 ≡ b →
        Changes w (load_recipe r) (step w (load_recipe r)).head.places
    by true true f g =
        let e : step w (load_recipe r) ≡ load_taken w r = (λ i. pick (f i) (pick (g i) (load_taken w r) (answers w (refused NotPreOperational2))) (answers w (refused RecipeLimits))) in
        fills r refl (ap (λ (s : Step). is_taken s.answer) e)
        (ap (λ (s : Step). list_any (λ (p : plain.Call). resets (node.step w.node p).event) s.asked) e ∙ or_false _ ∙ ready_rests w.node)
        f (ap (λ (s : Step). s.head.places) e)
    by true false f g = refuse (answers w (refused NotPreOperational2)) (λ i. pick (f i) (pick (g i) (load_taken w r) (answers w (refused NotPreOperational2))) (answers w (refused RecipeLimits))) refl refl refl
    by false b f g = refuse (answers w (refused RecipeLimits)) (λ i. pick (f i) (pick (same_state w.node.nmt.current_state NmtPreOperational2) (load_taken w r) (answers w (refused NotPreOperational2))) (answers w (refused RecipeLimits))) refl refl refl

pub changes : (w : Weigh) (c : Call) → Changes w c (step w c).head.places
changes w (node_call c) = node_changes w c
changes w (load_recipe r) = load_changes w r
changes w (weight i) = leaves refl refl refl

-- calls among which is no load and no reset leave the places
pub all_leave : (w : Weigh) (cs : List Call) → NoneLoaded w cs → NoReset w cs → (step_all w cs).places ≡ w.places
unfolding step_all NoneLoaded NoReset
all_leave w [] n m = refl
all_leave w (c ∷ cs) n m = all_leave (step w c).head cs n.1 m.1 ∙ by (changes w c)
  where
    by : Changes w c (step w c).head.places → (step w c).head.places ≡ w.places
    by (empties r l p) = absurd (true≢false (sym r ∙ m.0))
    by (fills s f l r i p) = absurd (true≢false (sym l ∙ n.0))
    by (leaves r l p) = p

-- and calls without a load leave them empty
pub all_empty : (w : Weigh) (cs : List Call) → NoneLoaded w cs → w.places ≡ no_places → (step_all w cs).places ≡ no_places
unfolding step_all NoneLoaded
all_empty w [] n e = e
all_empty w (c ∷ cs) n e = all_empty (step w c).head cs n.1 (by (changes w c))
  where
    by : Changes w c (step w c).head.places → (step w c).head.places ≡ no_places
    by (empties r l p) = p
    by (fills s f l r i p) = absurd (true≢false (sym l ∙ n.0))
    by (leaves r l p) = p ∙ e
