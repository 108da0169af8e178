-- The calls that are lent a run: one law for a declined call and one for a call that is taken, in
-- whatever form the run is lent.
-- Assumes nothing.
use Prim.Native.Nat.{ℕ}
use mathlib.Core.Path.{◌≡◌, refl, ap, ◌∙◌}
use mathlib.Core.List.{List}
use lib.ListN.{length}
use Rattle.types.specs.Refusals.{refusal_number}
use Rattle.types.specs.declared.refusals.Refusal.{Refusal}
use Rattle.std.specs.declared.option.Option.{Option}
use Rattle.std.specs.declared.result.Result.TheVariants.{Ok, Err}
use Rattle.head.specs.Head.{Head, head_with_earliest}
use Rattle.head.specs.Words.{head_of}
use Rattle.head.specs.Written.{earliest_written}
use Rattle.head.proofs.Laws.{earliest_written_lem}
use Rattle.watched.specs.Watched.{Run, watching}
use Rattle.node.specs.Plain.{Plain, Call}
use Rattle.node.specs.Steps.{with_earliest, earliest, declines, leaves}
use Rattle.node.specs.Run.{step}
use Rattle.node.specs.Refines.{plain}
use Rattle.node.specs.InPlace.{OnRun}
use Rattle.node.proofs.Laws.{refined, same_places}

module _ (ws : List ℕ) (c : Call) (r : Run) where
  pub run_declined : (x : Refusal) → ((p : Plain) → step p c ≡ declines p r (refusal_number x)) → OnRun ws c (Err x) ws r
  run_declined x e =
      record {
        refines = λ q m. refined (head_of ws) q m c _ q m r (declines (plain (head_of ws) q m) r (refusal_number x)) (e (plain (head_of ws) q m)) refl refl refl;
        places = same_places (head_of ws);
        words = refl;
      }

  pub run_taken :
      length ws ≡ 60 → ((p : Plain) → step p c ≡ leaves p r) → (d : Option ℕ) → d ≡ earliest (watching r) →
      (ws' : List ℕ) → ws' ≡ earliest_written ws d → OnRun ws c (Ok tt) ws' r
  run_taken long e d g ws' w =
      let h : head_of ws' ≡ head_with_earliest (head_of ws) d = ap head_of w ∙ earliest_written_lem ws long d in
      record {
        refines =
            λ q m.
            refined (head_of ws) q m c _ q m r (leaves (plain (head_of ws) q m) r) (e (plain (head_of ws) q m))
            (ap (λ (h : Head). plain h q m) h ∙ ap (with_earliest (plain (head_of ws) q m)) g) refl refl;
        places = record { queue = ap (λ (h : Head). h.queue) h; history = ap (λ (h : Head). h.history) h };
        words = w ∙ ap (earliest_written ws) g;
      }
