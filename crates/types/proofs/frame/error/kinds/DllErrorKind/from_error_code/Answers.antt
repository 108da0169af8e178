-- `types::frame::error::kinds::DllErrorKind::from_error_code` meets its contract: the search says how many kinds have the code.
-- Assumes nothing.
use Rattle.std.proofs.Common.{arith, refl}
use mathlib.Core.Path.{sym, ◌∙◌}
use Rattle.types.proofs.Searching.{passes, finds, several, ends}
use Rattle.types.proofs.frame.error.kinds.DllErrorKind.from_error_code.Goals as goal
use Rattle.types.proofs.frame.error.kinds.DllErrorKind.from_error_code.Goals.{then-from-code+else-is_some, else-from-code}

pub loop-kind-init : goal.loop-kind-init
loop-kind-init c = record { split = refl }

pub returns-then-is_some : goal.returns-then-is_some
returns-then-is_some c =
    let l = c.loop-kind in
    several _ l.kind-index c.loop-kind-test.true l.found (sym c.if-is_some.ensures) l.invariant (sym c.to_error_code.ensures ∙ sym c.from.ensures ∙ c.if-from-code.true)

pub loop-kind-preserved : goal.loop-kind-preserved
loop-kind-preserved c =
    let l = c.loop-kind in
    elim c.if-from-code.branch [
      | then-from-code+else-is_some w ↦ rw w.found-is (finds _ l.kind-index c.loop-kind-test.true l.found (sym w.if-is_some.ensures) l.invariant (sym c.to_error_code.ensures ∙ sym c.from.ensures ∙ w.if-from-code.true))
      | else-from-code w ↦ rw w.found-is (passes _ l.kind-index c.loop-kind-test.true l.invariant (λ h. w.if-from-code.false (c.from.ensures ∙ c.to_error_code.ensures ∙ h)))
    ]

pub returns : goal.returns
returns c =
    let l = c.loop-kind in
    rw c.ok_or.ensures.value (ends _ l.kind-index l.found l.invariant (omega arith))
