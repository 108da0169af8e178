-- The outcome that the contract speaks of fixes the whole answer: no two answers have the same
-- outcome.
-- Assumes nothing.
use mathlib.Core.Path.{◌≡◌, ap}
use Rattle.types.proofs.Reported.{reported_fixes}
use Rattle.dll.specs.Dll.{CsOutcome, cs_outcome}
use Rattle.dll.specs.declared.cs_state_machine.DllAnswer.{DllAnswer}

pub outcome_fixes : (a b : DllAnswer) → cs_outcome a ≡ cs_outcome b → a ≡ b
outcome_fixes a b e =
    let s : a.machine.state ≡ b.machine.state = ap (λ (o : CsOutcome). o.state) e in
    let r : a.errors ≡ b.errors = reported_fixes a.errors b.errors (ap (λ (o : CsOutcome). o.errors) e) in
    λ i. record { machine = record { state = s i }; errors = r i }
