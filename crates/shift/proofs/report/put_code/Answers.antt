-- `shift::report::put_code` meets its contract: one run behind another, where the code occurred.
-- Assumes nothing.
use Rattle.std.proofs.Common.{append_assoc, ne_eqb}
use Rattle.shift.specs.Report.{code_line}
use Rattle.shift.proofs.report.put_code.Goals as goal

pub returns-clause-text : goal.returns-clause-text
unfolding code_line
returns-clause-text c =
    rw (ne_eqb c.args.n 0 c.if-n-eq0.false, c.put_count.ensures.text, c.put-2.ensures, c.put.ensures, c.hex4.ensures) (simp append_assoc)
