-- A refused call on a weigh head changes nothing (RULES 2).
-- Assumes nothing.
use Rattle.std.proofs.Common.{◌≡◌, refl, sym, ap, ap₂, ◌∙◌, ℕ, Bool, true, false, List, [], ◌∷◌}
use Rattle.std.specs.declared.result.Result.TheVariants.{Ok, Err}
use Rattle.types.specs.Pick.{pick}
use Rattle.types.specs.States.{same_state}
use Rattle.types.specs.declared.refusals.Refusal.{Refusal}
use Rattle.types.specs.declared.refusals.Refusal.TheVariants.{RecipeLimits, NotPreOperational2}
use Rattle.types.specs.declared.nmt.states.NmtState.TheVariants.{NmtPreOperational2}
use Rattle.types.proofs.Cases.{first_same}
use Rattle.node.specs.Plain as plain
use Rattle.node.specs.Run as node_run
use Rattle.node.proofs.Fixed.{parts, apart}
use Rattle.calling.specs.declared.Answer.{Answer}
use Rattle.calling.specs.declared.Answer.TheVariants as answer
use Rattle.calling.specs.Held as node
use Rattle.calling.specs.Values as calling
use Rattle.calling.specs.Values.{tells_reset}
use Rattle.calling.specs.Made as node_made
use Rattle.calling.proofs.Declines as node_declines
use Rattle.recipes.specs.declared.Component.{Component}
use Rattle.recipes.specs.Recipe.{is_recipe, no_places}
use Rattle.weigh.specs.declared.WeighCall.{WeighCall}
use Rattle.weigh.specs.declared.WeighCall.TheVariants as call
use Rattle.reception.specs.declared.FrameAnswer.{FrameAnswer}
use Rattle.reception.specs.declared.FrameAnswer.TheVariants.{NotOurs, Ours}
use Rattle.reception.specs.FrameIn.{frame_says}
use Rattle.weigh.specs.PlainWeigh as weigh
use Rattle.weigh.specs.PlainWeigh.{Weigh, node_answer, weight_answer, refused, Step, answers, load_taken, load_recipe, step}
use Rattle.weigh.specs.WeighHeld.{Held, held_with, plain_at}
use Rattle.weigh.specs.WeighMade.{Asked, none, one, Made, step_of}

-- what the node answers that did not refuse
frame_not_refused : (a : FrameAnswer) → (parts (frame_says a)).declines ≡ false
frame_not_refused NotOurs = refl
frame_not_refused (Ours d) = refl

not_refused : (a : Answer) → (parts (calling.says a)).declines ≡ false
not_refused answer.Taken = refl
not_refused (answer.Nmt t) = refl
not_refused (answer.Dll es) = refl
not_refused (answer.Error t) = refl
not_refused (answer.Cycle b) = refl
not_refused (answer.HandedOut e) = refl
not_refused (answer.Tick es) = refl
not_refused (answer.Range v) = refl
not_refused (answer.Margin z) = refl
not_refused (answer.Due d) = refl
not_refused (answer.Frame a) = frame_not_refused a

asked_none : {x x' : node.Held} {cs : List plain.Call} → Asked x cs x' → cs ≡ [] → x' ≡ x
asked_none none e = refl
asked_none (one t) e = cc

asked_one :
    {x x' : node.Held} {cs : List plain.Call} (c : plain.Call) (n : ℕ) → Asked x cs x' → cs ≡ c ∷ [] →
    (node_run.step (node.plain_at x) c).answer ≡ plain.refused n → x' ≡ x
asked_one c n none e h = cc
asked_one c n (one {x} {x'} {c = d} {o = o} t) e h = by o t
  where
    by : (o : calling.Reply) → node_made.Made x d o x' → x' ≡ x
    by (Ok a) t =
        let f = ap (λ (c : plain.Call). (node_run.step (node.plain_at x) c).answer) (first_same e) in
        apart (sym (t.refines.answer ∙ f ∙ h)) refl (not_refused a)
    by (Err r) t = (node_declines.refused_changes_nothing r d t).same

-- a load, by its two tests
abbrev load_by : Weigh → List Component → Bool → Bool → Step
load_by w cs a b =
    pick a (pick b (load_taken w cs) (answers w (refused NotPreOperational2))) (answers w (refused RecipeLimits))

-- the answer of the node, from one of the weigh head
node_part : weigh.Answer → plain.Answer
node_part (node_answer a) = a
node_part (weight_answer g) = plain.taken

module _ {y y' : Held} (r : Refusal) where
  -- a step that changes nothing and asks nothing
  idle : (c : WeighCall) (a : weigh.Answer) → step_of y c ≡ answers (plain_at y) a → Made y c (Err r) y' → y' ≡ y
  idle c a e m =
      ap₂ held_with (asked_none m.node (ap (λ (s : Step). s.asked) e))
      (ap (λ (w : Weigh). w.places) (m.head ∙ ap (λ (s : Step). s.head) e))

  pub refused_changes_nothing : (c : WeighCall) → Made y c (Err r) y' → y' ≡ y
  unfolding node_part
  refused_changes_nothing (call.Node c) m =
      let h = sym (ap node_part m.answer) in
      ap₂ held_with (asked_one _ _ m.node refl h)
      (ap (λ (w : Weigh). w.places) m.head ∙ ap (λ (a : plain.Answer). pick (tells_reset a) no_places y.places) h)
  refused_changes_nothing (call.LoadRecipe cs) m = by (is_recipe cs.now) (same_state (plain_at y).node.nmt.current_state NmtPreOperational2) refl refl
    where
      by :
          (a b : Bool) → is_recipe cs.now ≡ a → same_state (plain_at y).node.nmt.current_state NmtPreOperational2 ≡ b → y' ≡ y
      by true true f g =
          let e : step_of y (call.LoadRecipe cs) ≡ load_by (plain_at y) cs.now true true = (λ i. load_by (plain_at y) cs.now (f i) (g i)) in
          apart (ap node_part (m.answer ∙ ap (λ (s : Step). s.answer) e)) refl refl
      by true false f g = idle (call.LoadRecipe cs) _ (λ i. load_by (plain_at y) cs.now (f i) (g i)) m
      by false b f g = idle (call.LoadRecipe cs) _ (λ i. load_by (plain_at y) cs.now (f i) (same_state (plain_at y).node.nmt.current_state NmtPreOperational2)) m
  refused_changes_nothing (call.Weight i) m = idle (call.Weight i) _ refl m
