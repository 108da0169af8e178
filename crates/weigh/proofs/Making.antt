-- A call on a weigh head, as it was made, from the calls that it made on its node.
-- Assumes nothing.
use Rattle.std.proofs.Common.{◌≡◌, refl, sym, ap, subst, ◌∙◌, ℕ, Bool, true, false, List}
use Rattle.std.specs.declared.result.Result.{Result}
use Rattle.std.specs.declared.result.Result.TheVariants.{Ok, Err}
use Rattle.types.specs.Pick.{pick}
use Rattle.types.specs.Events.{event_number, read_event}
use Rattle.types.specs.States.{same_state}
use Rattle.types.specs.declared.nmt.states.NmtState.TheVariants.{NmtPreOperational2}
use Rattle.types.specs.declared.nmt.events.NmtEvent.TheVariants.{CnConfigurationComplete}
use Rattle.types.specs.declared.refusals.Refusal.{Refusal}
use Rattle.types.specs.declared.refusals.Refusal.TheVariants.{RecipeLimits, NotPreOperational2}
use Rattle.head.specs.Words.{head_of}
use Rattle.watched.specs.Watched.{Run}
use Rattle.node.specs.Plain as plain
use Rattle.node.specs.Steps.{tried}
use Rattle.calling.specs.declared.Call.{Call}
use Rattle.calling.specs.declared.Call.TheVariants.{NmtEvent}
use Rattle.calling.specs.declared.Answer.{Answer}
use Rattle.calling.specs.Held as node
use Rattle.calling.specs.Values as calling
use Rattle.calling.specs.Values.{tells_reset}
use Rattle.calling.specs.Made as node_made
use Rattle.recipes.specs.declared.Component.{Component}
use Rattle.recipes.specs.Recipe.{is_recipe, places_of, no_places}
use Rattle.weigh.specs.declared.WeighCall.{WeighCall}
use Rattle.weigh.specs.declared.WeighCall.TheVariants as call
use Rattle.weigh.specs.declared.WeighAnswer.TheVariants as answer
use Rattle.weigh.specs.WeighParts.{Parts}
use Rattle.weigh.specs.PlainWeigh.{Weigh, weigh, node_answer, refused, Step, answers, load_tests, load_taken, weight_told, load_recipe, step}
use Rattle.weigh.specs.WeighHeld.{held, held_with, plain_at}
use Rattle.weigh.specs.WeighValues.{call_of, Reply, said}
use Rattle.weigh.specs.WeighMade.{Asked, none, one, Made}

-- a call on the node
module _ {v w : Parts} {q m : List ℕ} {r : Run} (e : w ≡ v) where
  pub node_done :
      {x' : node.Held} {ps' : List Component} {d : WeighCall} {o' : Reply} (c : Call) (o : calling.Reply) →
      d ≡ call.Node c → said o' ≡ node_answer (calling.said o) →
      ps' ≡ pick (tells_reset (calling.said o)) no_places w.places →
      node_made.Made (node.held w.node q m r) c o x' → Made (held v q m r) d o' (held_with x' ps')
  node_done {x'} {ps'} {d} {o'} c o f s p t =
      subst (λ (v : Parts). Made (held v q m r) d o' (held_with x' ps')) e
      (subst (λ (d : WeighCall). Made (held w q m r) d o' (held_with x' ps')) (sym f)
      (record {
        head = ap (weigh (node.plain_at x')) p ∙ (λ i. weigh (t.refines.head i) (pick (tells_reset (t.refines.answer i)) no_places w.places));
        answer = s ∙ ap node_answer t.refines.answer;
        node = one t;
      }))

-- what a load is, by what its tests gave
abbrev StepBy : Weigh → List Component → Result (List Component) Refusal → Step → Type 0
StepBy w cs (Ok rs) s = (rs ≡ cs) × (s ≡ load_taken w cs)
StepBy w cs (Err r) s = s ≡ answers w (refused r)

load_step :
    (w : Weigh) (cs : List Component) (o : Result (List Component) Refusal) →
    o ≡ tried (load_tests w.node.nmt.current_state cs) Err (Ok cs) →
    StepBy w cs o (step w (load_recipe cs))
load_step w cs o e =
    subst (λ (o : Result (List Component) Refusal). StepBy w cs o (step w (load_recipe cs))) (sym e)
    (by (is_recipe cs) (same_state w.node.nmt.current_state NmtPreOperational2))
  where
    by :
        (a b : Bool) →
        StepBy w cs (pick a (pick b (Ok cs) (Err NotPreOperational2)) (Err RecipeLimits))
        (pick a (pick b (load_taken w cs) (answers w (refused NotPreOperational2))) (answers w (refused RecipeLimits)))
    by true true = (refl, refl)
    by true false = refl
    by false b = refl

module _ {v : Parts} {q m : List ℕ} {r : Run} (cs : List Component) {d : WeighCall} (f : call_of d r ≡ load_recipe cs) where
  pub load_refused :
      (e : Refusal) → Err e ≡ tried (load_tests (head_of v.node).nmt.current_state cs) Err (Ok cs) →
      Made (held v q m r) d (Err e) (held v q m r)
  load_refused e g =
      let s = ap (step (plain_at (held v q m r))) f ∙ load_step (plain_at (held v q m r)) cs (Err e) g in
      record {
        head = ap (λ (z : Step). z.head) (sym s);
        answer = ap (λ (z : Step). z.answer) (sym s);
        node = subst (λ (z : Step). Asked (held v q m r).node z.asked (held v q m r).node) (sym s) none;
      }

  pub load_done :
      {w : Parts} {x' : node.Held} {ps' : List Component} {a : Answer} (rs : List Component) → w ≡ v →
      Ok rs ≡ tried (load_tests (head_of v.node).nmt.current_state cs) Err (Ok cs) → ps' ≡ places_of rs →
      node_made.Made (node.held w.node q m r) (NmtEvent (event_number CnConfigurationComplete)) (Ok a) x' →
      Made (held v q m r) d (Ok answer.Loaded) (held_with x' ps')
  load_done {w} {x'} {ps'} {a} rs e g p t =
      let s = load_step (plain_at (held v q m r)) cs (Ok rs) g in
      let z = ap (step (plain_at (held v q m r))) f ∙ s.1 in
      let t' = subst (λ (v : Parts). node_made.Made (node.held v.node q m r) (NmtEvent (event_number CnConfigurationComplete)) (Ok a) x') e t in
      record {
        head =
            ap (weigh (node.plain_at x')) (p ∙ ap places_of s.0)
            ∙ ap (λ (h : plain.Plain). weigh h (places_of cs)) t'.refines.head
            ∙ ap (λ (z : Step). z.head) (sym z);
        answer = ap (λ (z : Step). z.answer) (sym z);
        node = subst (λ (z : Step). Asked (held v q m r).node z.asked x') (sym z) (one t');
      }

-- the ready word is never refused
pub ready_taken :
    {x x' : node.Held} {e : Refusal} →
    node_made.Made x (NmtEvent (event_number CnConfigurationComplete)) (Err e) x' → ⊥
unfolding read_event
ready_taken t = let z = t.refines.answer in cc

-- a weight
pub weight_done :
    {v : Parts} {q m : List ℕ} {r : Run} {d : WeighCall} {o : Reply} (i : ℕ) → d ≡ call.Weight i →
    said o ≡ weight_told (head_of v.node).nmt.current_state v.places i →
    Made (held v q m r) d o (held v q m r)
weight_done {v} {q} {m} {r} {o = o} i f g =
    subst (λ (d : WeighCall). Made (held v q m r) d o (held v q m r)) (sym f)
    (record { head = refl; answer = g; node = none })
