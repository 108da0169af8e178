-- The outcome that the contract speaks of fixes the whole answer: no two answers have the same
-- outcome.
-- Assumes nothing.
use mathlib.Core.Path.{◌≡◌, refl, sym, ap, ◌∙◌}
use mathlib.Core.List.{List, [], ◌∷◌}
use Rattle.types.specs.declared.nmt.states.NmtState.{NmtState}
use Rattle.types.proofs.Reported.{reported_fixes}
use Rattle.nmt.specs.Resets.{Passed, entered_states, passed}
use Rattle.nmt.specs.Nmt.{Outcome, outcome}
use Rattle.nmt.specs.declared.state_machine.ResetSequence.{ResetSequence}
use Rattle.nmt.specs.declared.state_machine.ResetSequence.TheVariants as sequence
use Rattle.nmt.specs.declared.cn_state_machine.NmtAnswer.{NmtAnswer}

-- the sequence with so many states
abbrev with_states : List NmtState → ResetSequence
with_states [] = sequence.None
with_states (a ∷ []) = sequence.None
with_states (a ∷ b ∷ []) = sequence.Configuration
with_states (a ∷ b ∷ c ∷ []) = sequence.Communication
with_states (a ∷ b ∷ c ∷ d ∷ []) = sequence.Node
with_states (a ∷ b ∷ c ∷ d ∷ e ∷ rest) = sequence.Whole

back : (r : ResetSequence) → with_states (entered_states r) ≡ r
back sequence.None = refl
back sequence.Whole = refl
back sequence.Node = refl
back sequence.Communication = refl
back sequence.Configuration = refl

pub passed_fixes : (a b : ResetSequence) → passed a ≡ passed b → a ≡ b
passed_fixes a b e = sym (back a) ∙ ap (λ (p : Passed). with_states p.states) e ∙ back b

pub outcome_fixes : (a b : NmtAnswer) → outcome a ≡ outcome b → a ≡ b
outcome_fixes a b e =
    let m : a.machine ≡ b.machine = ap (λ (o : Outcome). o.machine) e in
    let r : a.errors ≡ b.errors = reported_fixes a.errors b.errors (ap (λ (o : Outcome). o.errors) e) in
    let p : a.reset ≡ b.reset = passed_fixes a.reset b.reset (ap (λ (o : Outcome). o.reset) e) in
    λ i. record { machine = m i; errors = r i; reset = p i }
