-- `shift::report::put_codes` meets its contract. The loop's invariant: the lines written, with those left, are all.
-- Assumes nothing.
use Rattle.std.proofs.Common.{get_or, arith}
use Rattle.shift.proofs.Lines.{step, ends}
use Rattle.shift.proofs.report.put_codes.Goals as goal

pub loop-kind-preserved : goal.loop-kind-preserved
loop-kind-preserved c =
    let l = c.loop-kind in
    let p = c.put_code in
    step (λ x. get_or c.args.counts.now x 0) c.args.page.now.items l.page.items p.new.page.items l.kind-index _ (omega arith) c.to_error_code-code.ensures
    l.invariant
    p.ensures.text
    p.ensures.short

pub returns-clause-text : goal.returns-clause-text
returns-clause-text c =
    let l = c.loop-kind in
    ends (λ x. get_or c.args.counts.now x 0) c.args.page.now.items l.page.items l.kind-index (omega arith) l.invariant
