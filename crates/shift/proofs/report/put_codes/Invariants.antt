-- `shift::report::put_codes` meets its contract. The loop's invariant: the lines written, with those left, are all.
-- Assumes nothing.
use Rattle.std.proofs.Common.{ℕ, get_or}
use Rattle.shift.proofs.Lines.{Going}
use Rattle.shift.proofs.report.put_codes.Given as goal

abbrev pub invariant-loop-kind : goal.invariant-loop-kind
invariant-loop-kind l = Going (λ (c : ℕ). get_or l.counts c 0) l.initial.page.items l.page.items l.kind-index
