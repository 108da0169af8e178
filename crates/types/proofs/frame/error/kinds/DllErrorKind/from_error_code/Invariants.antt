-- `types::frame::error::kinds::DllErrorKind::from_error_code` meets its contract. The loop's invariant: of the kinds passed, the one found alone has the code.
-- Assumes nothing.
use Rattle.types.proofs.Searching.{Passed}
use Rattle.types.proofs.frame.error.kinds.DllErrorKind.from_error_code.Given as goal

abbrev pub invariant-loop-kind : goal.invariant-loop-kind
invariant-loop-kind l = Passed l.code l.kind-index l.found
