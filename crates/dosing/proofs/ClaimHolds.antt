-- THE CLAIM HOLDS of any list of calls behind a start, from the contracts of the two, and from the
-- claim over the calls on the node.
-- Assumes nothing.
use Rattle.std.proofs.Common.{◌≡◌, refl, sym, ap, ap₂, subst, ◌∙◌, ℕ, List, ◌∷◌, ◌++◌, length}
use Rattle.std.specs.List.{slice_get}
use Rattle.std.specs.declared.result.Result.TheVariants.{Ok}
use Rattle.std.specs.declared.option.Option.TheVariants.{Some}
use Rattle.head.specs.Words.{head_of}
use Rattle.watched.specs.Watched.{Run}
use Rattle.node.specs.Plain as plain
use Rattle.node.specs.Plain.{Start}
use Rattle.start.specs.declared.start.Setup.{Setup}
use Rattle.start.specs.Started.{start_of}
use Rattle.calling.specs.Held as node
use Rattle.calling.specs.Chain as played
use Rattle.trace.specs.Driven as trace
use Rattle.trace.specs.Claim as node_claim
use Rattle.trace.proofs.Driven as node_driven_proofs
use Rattle.trace.proofs.Follows.{begins_fresh}
use Rattle.types.specs.declared.refusals.Refusal.TheVariants.{NoWeight}
use Rattle.recipes.specs.declared.Component.{Component}
use Rattle.weigh.specs.WeighParts.{Parts}
use Rattle.weigh.specs.declared.WeighCall.TheVariants as calls
use Rattle.weigh.specs.declared.WeighAnswer.TheVariants as answer
use Rattle.weigh.specs.PlainWeigh.{Weigh, weigh, Call, weight, Answer, weight_answer, refused, step}
use Rattle.weigh.specs.WeighHeld.{Held, held, plain_at, relent}
use Rattle.weigh.specs.WeighValues.{Reply}
use Rattle.weigh.specs.WeighMade.{Asked, none, one, Made, step_of, Started}
use Rattle.weigh.specs.WeighPlayed.{Played, PlayedInto}
use Rattle.weigh.specs.declared.play.WeighAction.{WeighAction}
use Rattle.weigh.specs.declared.play.WeighAction.TheVariants as action
use Rattle.dosing.specs.WeighDriven.{Driven, stop, call, lend, calls_of, answers_of, asked_then, node_driven}
use Rattle.dosing.specs.LastRecipe.{step_all, said_all, asked_all, Loaded, Weighed, told, withheld}
use Rattle.dosing.specs.DosingClaim.{fresh, Stands, Claim}
use Rattle.dosing.proofs.WeighLists.{said_there}
use Rattle.dosing.proofs.Weights.{weighed, forgotten}

-- what the plain weigh head does at these calls
runs : {y y' : Held} (d : Driven y y') → plain_at y' ≡ step_all (plain_at y) (calls_of d)
unfolding step_all
runs stop = refl
runs (call t d) = runs d ∙ ap (λ (w : Weigh). step_all w (calls_of d)) t.head
runs (lend e d) = runs d ∙ ap (λ (z : Held). step_all (plain_at z) (calls_of d)) e

says_all : {y y' : Held} (d : Driven y y') → answers_of d ≡ said_all (plain_at y) (calls_of d)
unfolding said_all
says_all stop = refl
says_all (call t d) =
    ap₂ (λ (a : Answer) (l : List Answer). a ∷ l) t.answer
    (says_all d ∙ ap (λ (w : Weigh). said_all w (calls_of d)) t.head)
says_all (lend e d) = says_all d ∙ ap (λ (z : Held). said_all (plain_at z) (calls_of d)) e

-- the calls that they made on the node
asked_behind :
    {x x₁ x' : node.Held} {cs : List plain.Call} (a : Asked x cs x₁) (d : trace.Driven x₁ x') →
    trace.calls_of (asked_then a d) ≡ cs ++ trace.calls_of d
asked_behind none d = refl
asked_behind (one t) d = refl

asks_all : {y y' : Held} (d : Driven y y') → trace.calls_of (node_driven d) ≡ asked_all (plain_at y) (calls_of d)
unfolding asked_all
asks_all stop = refl
asks_all (call {y} {c = c} t d) =
    asked_behind t.node (node_driven d)
    ∙ ap (λ (l : List plain.Call). (step_of y c).asked ++ l) (asks_all d ∙ ap (λ (w : Weigh). asked_all w (calls_of d)) t.head)
asks_all (lend e d) = asks_all d ∙ ap (λ (z : Held). asked_all (plain_at z) (calls_of d)) e

-- from what a start left: of the calls that were made, what they answered, what those on the node
-- said, and what they left
module _ {s : Setup} {v : Parts} {r r' : Run} (b : Started r s (Ok v) r') where
  begins : (q m : List ℕ) → plain_at (held v q m r') ≡ fresh (start_of s r)
  begins q m =
      ap₂ weigh (begins_fresh (start_of s r) (node.plain_at (node.held v.node q m r')) (b.0.begins.begun q m)) b.1

  module _ {y' : Held} {q m : List ℕ} (d : Driven (held v q m r') y') where
    answered : answers_of d ≡ said_all (fresh (start_of s r)) (calls_of d)
    answered = says_all d ∙ ap (λ (w : Weigh). said_all w (calls_of d)) (begins q m)

    -- the answer that stands in a call's place is the plain weigh head's
    there :
        (before : List Call) (c : Call) (o : Answer) → Stands (calls_of d) (answers_of d) before c o →
        (step (step_all (fresh (start_of s r)) before) c).answer ≡ o
    there before c o h =
        let w = fresh (start_of s r) in
        let z : Some (step (step_all w before) c).answer ≡ Some o =
        sym (said_there w before c h.after)
        ∙ ap (λ (cs : List Call). slice_get (said_all w cs) (length before)) (sym h.call)
        ∙ ap (λ (os : List Answer). slice_get os (length before)) (sym answered)
        ∙ h.answer
        in
        cc

    pub claim_holds : Claim (start_of s r) (calls_of d) (answers_of d) (trace.said_by (node_driven d)) y'
    claim_holds =
        record {
          node =
              subst
              (λ (cs : List plain.Call). node_claim.Claim (start_of s r) cs (trace.said_by (node_driven d)) (head_of y'.node.head) y'.node.queue y'.node.history)
              (asks_all d ∙ ap (λ (w : Weigh). asked_all w (calls_of d)) (begins q m))
              (node_driven_proofs.claim_holds b.0 (node_driven d));
          alike = runs d ∙ ap (λ (w : Weigh). step_all w (calls_of d)) (begins q m);
          answered = answered;
          weights = λ before i o h. subst (Weighed (fresh (start_of s r)) before i) (there before (weight i) o h) (weighed (fresh (start_of s r)) refl before i);
          forgotten = λ before i o h f. sym (there before (weight i) o h) ∙ forgotten (fresh (start_of s r)) before i f;
        }

-- what `play` plays is such a list
pub driven_of : {y y' : Held} {acts : List WeighAction} {os : List Reply} → Played y acts os y' → Driven y y'
driven_of played.stop = stop
driven_of (played.next {a = action.Call c} t p) = call t (driven_of p)
driven_of {y = y} (played.next {x₁ = y₁} {a = action.Lend i v k} t p) =
    lend (t.1 ∙ ap (λ (z : Held). relent y z.node.lent) (sym t.1)) (driven_of p)

-- OF A WEIGHT THAT WAS TOLD, behind any list of calls: the recipe last loaded since the last reset has
-- a component at the place, of these grams.
pub record Last (s : Start) (cs : List Call) (i g : ℕ) : Type 0 where
  pub recipe : List Component
  pub component : Component
  pub loaded : Loaded (fresh s) recipe cs
  pub stands : slice_get recipe i ≡ Some component
  pub grams : component.grams ≡ g

weighs : {s : Start} {cs : List Call} {i : ℕ} (g : ℕ) (o : Answer) → Weighed (fresh s) cs i o → o ≡ weight_answer g → Last s cs i g
weighs g o (told r c op l e) h = record { recipe = r; component = c; loaded = l; stands = e; grams = cc }
weighs g o (withheld f) h = absurd (let z : refused NoWeight ≡ weight_answer g = h in cc)

pub told_is_last :
    {s : Setup} {v : Parts} {r r' : Run} {q m : List ℕ} {y y' : Held} {i g : ℕ} → Started r s (Ok v) r' →
    (d : Driven (held v q m r') y) → Made y (calls.Weight i) (Ok (answer.Weight g)) y' →
    Last (start_of s r) (calls_of d) i g
told_is_last {s} {r = r} {i = i} {g = g} b d m =
    let k = claim_holds b d in
    weighs g _ (weighed (fresh (start_of s r)) refl (calls_of d) i)
    (ap (λ (w : Weigh). (step w (weight i)).answer) (sym k.alike) ∙ sym m.answer)

-- and so of all that `play` plays
pub claim_holds_played :
    {s : Setup} {v : Parts} {r r' : Run} {q m : List ℕ} {y' : Held} {acts : List WeighAction} {out out' : List Reply} →
    Started r s (Ok v) r' → (p : PlayedInto (held v q m r') acts out y' out') →
    let d = driven_of p.played in
    Claim (start_of s r) (calls_of d) (answers_of d) (trace.said_by (node_driven d)) y'
claim_holds_played b p = claim_holds b (driven_of p.played)
