-- The question for the moment of the next tick, made on any head: it leaves all as it is, and who ticks at that moment and not before misses nothing.
-- Assumes nothing.
use Prim.Native.Nat.{ℕ}
use mathlib.Core.Path.{◌≡◌, refl, sym, ap, ◌∙◌}
use mathlib.Core.List.{List}
use Rattle.std.specs.declared.option.Option.{Option}
use Rattle.std.specs.declared.result.Result.{Result}
use Rattle.std.specs.declared.result.Result.TheVariants.{Ok, Err}
use Rattle.types.specs.declared.refusals.Refusal.{Refusal}
use Rattle.types.specs.declared.frame.error.types.DllErrors.{DllErrors}
use Rattle.watched.specs.Watched.{Run}
use Rattle.node.specs.Plain.{due_answer, Step}
use Rattle.node.specs.InPlace.{answered}
use Rattle.node.specs.Due.{IsBefore}
use Rattle.node.proofs.Fixed.{apart}
use Rattle.due.specs.Moment.{next_due}
use Rattle.due.specs.Waits.{Waits}
use Rattle.due.proofs.Steps.{next_due_steps}
use Rattle.due.proofs.Waits.{waits}
use Rattle.calling.specs.declared.Call.{Call}
use Rattle.calling.specs.declared.Call.TheVariants.{Tick, NextDue}
use Rattle.calling.specs.declared.Answer.TheVariants as answer
use Rattle.calling.specs.Held.{Held, held}
use Rattle.calling.specs.Values.{Reply, said}
use Rattle.calling.specs.Made.{Made}
use Rattle.calling.proofs.Declines.{same_held}

pub due_made :
    (ws q m : List ℕ) (r : Run) (c : Call) (a : Result (Option ℕ) Refusal) (o : Reply) →
    c ≡ NextDue → a ≡ next_due ws r → said o ≡ answered due_answer a → Made (held ws q m r) c o (held ws q m r)
due_made ws q m r c a o n e f = rw n made
  where
    made : Made (held ws q m r) NextDue o (held ws q m r)
    made =
        let s = next_due_steps ws r a e q m in
        record {
          refines =
              record {
                head = sym (ap (λ (t : Step). t.head) s);
                answer = f ∙ sym (ap (λ (t : Step). t.answer) s);
                lent = sym (ap (λ (t : Step). t.lent) s);
              };
          lent = sym (ap (λ (t : Step). t.lent) s);
          words = refl;
          rings = refl;
        }

-- so any that was made told the moment, and left all as it was
pub due_told :
    {x x₁ : Held} {o : Reply} →
    Made x NextDue o x₁ → (said o ≡ answered due_answer (next_due x.head x.lent)) × (x₁ ≡ x)
due_told {x} t =
    let s = next_due_steps x.head x.lent (next_due x.head x.lent) refl x.queue x.history in (
      t.refines.answer ∙ ap (λ (t : Step). t.answer) s,
      same_held t.words (t.lent ∙ ap (λ (t : Step). t.lent) s) t.rings,
    )

moment_told :
    (d : Option ℕ) (a : Result (Option ℕ) Refusal) → due_answer d ≡ answered due_answer a → a ≡ Ok d
moment_told d (Ok e) h = cc
moment_told d (Err r) h = apart (sym h) refl refl

-- WHO TICKS AT THE MOMENT THAT WAS TOLD, AND NOT BEFORE, MISSES NOTHING: a tick that is taken before it
-- finds nothing to do, and the moment stays; one from it on, at a time above 0, finds something
module _
    {x x₁ x' : Held}
    {d : Option ℕ}
    {t : ℕ}
    {es : DllErrors}
    (a : Made x NextDue (Ok (answer.Due d)) x₁)
    (f : Made x₁ (Tick t) (Ok (answer.Tick es)) x') where
  pub misses_nothing :
      Waits d x₁.head x₁.queue x₁.history x₁.lent t es x'.head x'.queue x'.history x'.lent
  misses_nothing =
      let told = due_told a in
      waits x₁.head x₁.queue x₁.history x₁.lent t es x'.head x'.queue x'.history x'.lent
      (record { refines = f.refines; rings = f.rings; words = f.words }) d
      (ap (λ (z : Held). next_due z.head z.lent) told.1 ∙ moment_told d (next_due x.head x.lent) told.0)

  -- asked again after such a tick, the answer is the same
  pub told_again : {o : Reply} {x₂ : Held} → IsBefore t d → Made x' NextDue o x₂ → said o ≡ due_answer d
  told_again b g = (due_told g).0 ∙ ap (answered due_answer) (misses_nothing.stays b)
