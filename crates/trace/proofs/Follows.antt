-- What a start brings, and the claim from there.
-- Assumes nothing.
use Prim.Native.Nat.{ℕ}
use mathlib.Core.Path.{◌≡◌, refl, ap, ◌∙◌}
use mathlib.Core.Bool.{Bool, true, false}
use mathlib.Core.List.{List, [], ◌∷◌}
use native.Mathlib.Omega.{arith}
use Rattle.types.specs.Pick.{pick}
use Rattle.counters.specs.Counters.{thresholds_fit}
use Rattle.std.specs.declared.option.Option.TheVariants.{None}
use Rattle.head.specs.Head.{Head}
use Rattle.watched.specs.Watched.{unheard, Run, watching, changing}
use Rattle.node.specs.Plain.{Plain, Call, Start, begins, declined, FirstStep}
use Rattle.node.specs.Steps.{Test, tried, earliest, fresh, start_tests, started}
use Rattle.node.specs.Run.{step_all, Said, said_all}
use Rattle.node.specs.Refines.{plain}
use Rattle.trace.specs.Claim.{Claim}
use Rattle.node.proofs.Refining.{tried_by_lem}
use Rattle.trace.proofs.Earliest.{start_moment}
use Rattle.trace.proofs.Keeps.{claimed}

-- a plain start that begins, begins with a fresh plain head
pub begins_fresh : (s : Start) (p : Plain) → begins p ≡ (started s).begun → p ≡ fresh s
unfolding started
begins_fresh s p =
    tried_by_lem (λ (f : FirstStep). begins p ≡ f.begun → p ≡ fresh s) (start_tests s)
    (λ r. record { begun = declined r; lent = s.watched }) (record { begun = begins (fresh s); lent = changing unheard s.watched })
    (λ r e. absurd (let z : ◌≡◌ {A = ℕ} 0 1 = cc in let f : ⊥ = omega arith in f)) (λ e. cc)

-- where what was tried comes to something that no refusal gives, every test held
abbrev pub AllHold : {R : Type 0} → List (Test R) → Type 0
AllHold [] = Unit {0}
AllHold (t ∷ ts) = (t.holds ≡ true) × AllHold ts

pub all_hold :
    {R A : Type 0} (P : A → Type 0) (ts : List (Test R)) (refuse : R → A) (accept : A) →
    ((r : R) → P (refuse r) → ⊥) → P (tried ts refuse accept) → AllHold ts
all_hold P [] refuse accept never h = tt
all_hold P (t ∷ ts) refuse accept never h = by t.holds refl (all_hold P ts refuse accept never) h
  where
    by :
        (b : Bool) → t.holds ≡ b → (P (tried ts refuse accept) → AllHold ts) →
        P (pick b (tried ts refuse accept) (refuse t.otherwise)) → AllHold (t ∷ ts)
    by true e rest h = (e, rest h)
    by false e rest h = absurd (never t.otherwise h)

begins_tested : (s : Start) (p : Plain) → begins p ≡ (started s).begun → AllHold (start_tests s)
unfolding started
begins_tested s p e =
    all_hold (λ (f : FirstStep). begins p ≡ f.begun) (start_tests s)
    (λ r. record { begun = declined r; lent = s.watched }) (record { begun = begins (fresh s); lent = changing unheard s.watched })
    (λ r e. let z : ◌≡◌ {A = ℕ} 0 1 = cc in omega arith) e

pub begins_limited : (s : Start) (p : Plain) → begins p ≡ (started s).begun → thresholds_fit s.thresholds ≡ true
begins_limited s p e = (begins_tested s p e).1.1.1.0

-- and leaves a run of which no node would be late
pub begins_lent : (s : Start) (p : Plain) → begins p ≡ (started s).begun → (started s).lent ≡ changing unheard s.watched
unfolding started
begins_lent s p =
    tried_by_lem (λ (f : FirstStep). begins p ≡ f.begun → f.lent ≡ changing unheard s.watched) (start_tests s)
    (λ r. record { begun = declined r; lent = s.watched }) (record { begun = begins (fresh s); lent = changing unheard s.watched })
    (λ r e. absurd (let z : ◌≡◌ {A = ℕ} 0 1 = cc in let f : ⊥ = omega arith in f)) (λ e. refl)

pub begins_unheard : (s : Start) (p : Plain) → begins p ≡ (started s).begun → earliest (watching (started s).lent) ≡ None
begins_unheard s p e = ap (λ (r : Run). earliest (watching r)) (begins_lent s p e) ∙ start_moment s.watched (begins_tested s p e).1.1.0

-- from a head that stands for the one that the plain start gives
pub followed :
    {h : Head} {q m : List ℕ} {cs : List Call} {ss : List Said} (s : Start) (p : Plain) →
    begins p ≡ (started s).begun → plain h q m ≡ step_all p cs → ss ≡ said_all p cs → Claim s cs ss h q m
followed {h} {q} {m} {cs} {ss} s p b run said =
    let e : p ≡ fresh s = begins_fresh s p b in
    claimed s cs ss h q m (begins_limited s p b) (begins_unheard s p b) (run ∙ ap (λ (p : Plain). step_all p cs) e)
    (said ∙ ap (λ (p : Plain). said_all p cs) e)
