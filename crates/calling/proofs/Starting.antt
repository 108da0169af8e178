-- A start that is refused leaves what it was lent.
-- Assumes nothing.
use Prim.Native.Nat.{ℕ}
use mathlib.Core.Path.{◌≡◌, refl, ap₂, ◌∙◌}
use mathlib.Core.List.{List, []}
use native.Mathlib.Omega.{arith}
use Rattle.std.specs.declared.result.Result.TheVariants.{Err}
use Rattle.types.specs.Refusals.{refusal_number}
use Rattle.types.specs.declared.refusals.Refusal.{Refusal}
use Rattle.watched.specs.Watched.{Run, unheard, changing}
use Rattle.node.specs.Plain.{Start, begins, declined, FirstStep}
use Rattle.node.specs.Steps.{fresh, start_tests, started}
use Rattle.node.proofs.Refining.{tried_by_lem}
use Rattle.start.specs.declared.start.Setup.{Setup}
use Rattle.start.specs.Started.{start_of, StartedOn}
use Rattle.calling.specs.Held.{held}

-- the plain start does
pub declined_lent :
    (s : Start) (x : ℕ) → declined x ≡ (started s).begun → (started s).lent ≡ s.watched
unfolding started
declined_lent s x =
    tried_by_lem (λ (f : FirstStep). declined x ≡ f.begun → f.lent ≡ s.watched) (start_tests s)
    (λ r. record { begun = declined r; lent = s.watched })
    (record { begun = begins (fresh s); lent = changing unheard s.watched })
    (λ r e. refl) (λ e. absurd (let z : ◌≡◌ {A = ℕ} 0 1 = cc in let f : ⊥ = omega arith in f))

pub refused_lent :
    {s : Setup} {r : Refusal} {l l' : Run} {ws ws' : List ℕ} →
    StartedOn ws l s (Err r) ws' l' → l' ≡ l
refused_lent {s} {r} {l} b =
    b.begins.lent ∙ declined_lent (start_of s l) (refusal_number r) (b.begins.begun [] [])

pub refused_held :
    {s : Setup} {r : Refusal} {l l' : Run} {ws ws' : List ℕ} (q m : List ℕ) →
    StartedOn ws l s (Err r) ws' l' → held ws' q m l' ≡ held ws q m l
refused_held q m b = ap₂ (λ (ws : List ℕ) (l : Run). held ws q m l) b.words (refused_lent b)
