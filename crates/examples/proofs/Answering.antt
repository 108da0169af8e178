-- The tests of an answer are true exactly where it is the one stated: each arm of a match, over plain variables.
-- Assumes nothing.
use Prim.Native.Nat.{ℕ}
use mathlib.Core.Path.{◌≡◌, refl, ap}
use mathlib.Core.Bool.{Bool, true, false}
use mathlib.Core.List.{[], ◌∷◌}
use native.Mathlib.Omega.{arith}
use Rattle.std.proofs.Common.{rules}
use Rattle.types.specs.Errors.{reported}
use Rattle.types.specs.contracts.frame.error.types.DllErrorPartialEq.TheImpl as a-error
use Rattle.types.specs.contracts.frame.error.types.DllErrorsPartialEq.TheImpl as some-errors
use denote.Enum.Bare.{same_true, true_same}
use Rattle.nmt.specs.contracts.state_machine.ResetSequence.{the_type}
use Rattle.nmt.specs.contracts.state_machine.ResetSequencePartialEq.TheImpl as a-sequence
use Rattle.nmt.specs.declared.state_machine.ResetSequence.{ResetSequence}
use Rattle.nmt.proofs.Fixed.{passed_fixes}
use Rattle.node.specs.contracts.calls.NmtTakenPartialEq.TheImpl as a-taken
use Rattle.node.specs.declared.calls.NmtTaken.{NmtTaken}
use Rattle.types.specs.declared.frame.error.types.DllError.{DllError}
use Rattle.types.specs.declared.frame.error.types.DllErrors.{DllErrors}
use Rattle.types.specs.declared.frame.error.types.DllErrors.TheVariants as errors
use Rattle.std.specs.Result.{result_eq}
use Rattle.std.specs.declared.result.Result.{Result}
use Rattle.std.specs.declared.result.Result.TheVariants.{Ok, Err}
use Rattle.types.specs.declared.refusals.Refusal.{Refusal}
use Rattle.nmt.specs.Resets.{passed}
use Rattle.node.specs.Plain.{nmt_answer, dll_answer, tick_answer}
use Rattle.node.specs.InPlace.{nmt_said, dll_said, dll_says}
use Rattle.tick.specs.TickIn.{tick_said, tick_says}
use Rattle.examples.specs.Same.{Exactly}
use Rattle.examples.specs.Said.{nmt_stated}
use Rattle.examples.proofs.Exact.{exact_by, exact_and, exact_is, no}

pub clash : ◌≡◌ {A = ℕ} 0 1 → ⊥
clash z = omega arith

pub never : {P : Type 0} → (P → ⊥) → Exactly false P
never f = record { says = λ e. no e; holds = λ p. absurd (f p) }

pub always : {P : Type 0} → P → Exactly true P
always p = record { says = λ e. p; holds = λ p. refl }

-- errors that were compared by `==`
exact_error : (x y : DllError) (r : Bool) → r ≡ (a-error.ghosts).eq x y → Exactly r (x ≡ y)
exact_error x y r e = search rules

pub exact_reported : (x y : DllErrors) (r : Bool) → r ≡ (some-errors.ghosts).eq x y → Exactly r (reported x ≡ reported y)
exact_reported errors.None errors.None r e = exact_is e (always refl)
exact_reported errors.None (errors.One b) r e = exact_is e (never (λ h. clash (cc)))
exact_reported errors.None (errors.Two b c) r e = exact_is e (never (λ h. clash (cc)))
exact_reported (errors.One a) errors.None r e = exact_is e (never (λ h. clash (cc)))
exact_reported (errors.One a) (errors.One b) r e = exact_is e (exact_by (exact_error a b _ refl) (λ h. ap (λ (z : DllError). z ∷ []) h) (λ h. cc))
exact_reported (errors.One a) (errors.Two b c) r e = exact_is e (never (λ h. clash (cc)))
exact_reported (errors.Two a d) errors.None r e = exact_is e (never (λ h. clash (cc)))
exact_reported (errors.Two a d) (errors.One b) r e = exact_is e (never (λ h. clash (cc)))
exact_reported (errors.Two a d) (errors.Two b c) r e =
    exact_is e (exact_by (exact_and (exact_error a b _ refl) (exact_error d c _ refl)) (λ h. λ i. h.0 i ∷ h.1 i ∷ []) (λ h. (cc, cc)))

-- what a reset passes, compared by `==`
exact_passed : (x y : ResetSequence) → Exactly ((a-sequence.ghosts).eq x y) (passed x ≡ passed y)
exact_passed x y = exact_by (record { says = same_true the_type tt x y; holds = true_same the_type x y }) (ap passed) (passed_fixes x y)

-- the answers, compared by `==`
pub nmt_same :
    (a : Result NmtTaken Refusal) (es : DllErrors) (s : ResetSequence) (ne : Refusal → Refusal → Bool) (r : Bool) →
    r ≡ result_eq ((a-taken.ghosts).eq) ne a (Ok (record { errors = es; reset = s })) →
    Exactly r (nmt_said a ≡ nmt_stated es s)
nmt_same (Ok t) es s ne r e =
    exact_is e
    (exact_by (exact_and (exact_reported t.errors es _ refl) (exact_passed t.reset s)) (λ h. λ i. nmt_answer (h.0 i) (h.1 i)) (λ h. (cc, cc)))
nmt_same (Err n) es s ne r e = exact_is e (never (λ h. clash (cc)))

-- of a DLL event and of a tick, compared by `==`
pub dll_same :
    (a : Result DllErrors Refusal) (t : DllErrors) (ne : Refusal → Refusal → Bool) (r : Bool) → r ≡ result_eq ((some-errors.ghosts).eq) ne a (Ok t) → Exactly r (dll_said a ≡ dll_says t)
dll_same (Ok es) t ne r e = exact_by (exact_reported es t r e) (ap dll_answer) (λ h. cc)
dll_same (Err n) t ne r e = exact_is e (never (λ h. clash (cc)))

pub tick_same :
    (a : Result DllErrors Refusal) (t : DllErrors) (ne : Refusal → Refusal → Bool) (r : Bool) → r ≡ result_eq ((some-errors.ghosts).eq) ne a (Ok t) → Exactly r (tick_said a ≡ tick_says t)
tick_same (Ok es) t ne r e = exact_by (exact_reported es t r e) (ap tick_answer) (λ h. cc)
tick_same (Err n) t ne r e = exact_is e (never (λ h. clash (cc)))
