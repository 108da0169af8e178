-- Removal, by what its tests say, on a run in whatever form, over plain variables.
-- Assumes nothing.
use Prim.Native.Nat.{ℕ}
use mathlib.Core.Path.{◌≡◌, refl, sym, ap, subst, ◌∙◌}
use mathlib.Core.Bool.{Bool, true, false}
use mathlib.Core.List.{List}
use native.Mathlib.Omega.{arith}
use lib.ListN.{length}
use Rattle.types.specs.Refusals.{refusal_number}
use Rattle.types.specs.declared.refusals.Refusal.{Refusal}
use Rattle.types.specs.declared.refusals.Refusal.TheVariants.{WatchedNodes, NotWatched}
use Rattle.std.specs.declared.result.Result.{Result}
use Rattle.std.specs.declared.option.Option.{Option}
use Rattle.std.specs.declared.result.Result.TheVariants.{Ok, Err}
use Rattle.head.specs.Written.{earliest_written}
use Rattle.watched.specs.Watched.{is_watched, Run, watching, well_lent}
use Rattle.node.specs.Plain.{Plain, remove}
use Rattle.node.specs.Steps.{declines, leaves, earliest, removed}
use Rattle.node.specs.Run.{step}
use Rattle.node.proofs.OnRuns.{run_declined, run_taken}
use Rattle.partners.specs.Partners.{remove_answer, RemovedOn}

-- what an accepted removal passed
pub remove_passed : (f w : Bool) → (Ok tt) ≡ remove_answer f w → (f ≡ true) × (w ≡ true)
remove_passed true true e = (refl, refl)
remove_passed true false e = absurd (let z : ◌≡◌ {A = ℕ} 0 1 = cc in let x : ⊥ = omega arith in x)
remove_passed false w e = absurd (let z : ◌≡◌ {A = ℕ} 0 1 = cc in let x : ⊥ = omega arith in x)

module _ (ws : List ℕ) (r : Run) (n : ℕ) where
  abbrev Declined : Result (Unit {0}) Refusal → Type 0
  Declined c = RemovedOn ws r n c ws r

  declines_by : (y : Refusal) → ((p : Plain) → step p (remove n r) ≡ declines p r (refusal_number y)) → (c : Result (Unit {0}) Refusal) → c ≡ Err y → Declined c
  declines_by y s c g = subst Declined (sym g) (run_declined ws (remove n r) r y s)

  -- of a run that is not well formed, nothing else is asked
  pub remove_unformed : well_lent r ≡ false → (w : Bool) (c : Result (Unit {0}) Refusal) → c ≡ remove_answer false w → Declined c
  remove_unformed f w c g = declines_by WatchedNodes (λ p. rw f) c g

  module _ (f w : Bool) (e : f ≡ well_lent r) (d : w ≡ is_watched n (watching r)) where
    pub remove_declined : (x : Refusal) → Err x ≡ remove_answer f w → Declined (Err x)
    remove_declined x = by f w (sym e) (sym d)
      where
        by : (f w : Bool) → well_lent r ≡ f → is_watched n (watching r) ≡ w → Err x ≡ remove_answer f w → Declined (Err x)
        by true true e d g = absurd (let z : ◌≡◌ {A = ℕ} 0 1 = cc in let x : ⊥ = omega arith in x)
        by true false e d g = declines_by NotWatched (λ p. rw (e, d)) _ g
        by false w e d g = declines_by WatchedNodes (λ p. rw e) _ g

    pub remove_taken :
        (Ok tt) ≡ remove_answer f w → length ws ≡ 60 → (r' : Run) → r' ≡ removed n r → (m : Option ℕ) → m ≡ earliest (watching r') →
        (ws' : List ℕ) → ws' ≡ earliest_written ws m → RemovedOn ws r n (Ok tt) ws' r'
    remove_taken g long r' s m z ws' u =
        let x = remove_passed f w g in
        let j : well_lent r ≡ true = sym e ∙ x.0 in
        let q : is_watched n (watching r) ≡ true = sym d ∙ x.1 in
        run_taken ws (remove n r) r' long (λ p. rw (j, q) (ap (leaves p) (sym s))) m z ws' u
