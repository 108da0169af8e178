-- `head::errors::set_each` meets its contract: a word is written, and after the last every kind has
-- its own.
-- Assumes nothing.
use Rattle.std.proofs.Common.{◌+◌, ◌*◌, ap, sym, ◌∙◌, arith}
use Rattle.head.proofs.Each.{nth_written, one_written, all_written, kinds_written}
use Rattle.head.proofs.errors.set_each.Goals as goal

pub loop-i-preserved : goal.loop-i-preserved
loop-i-preserved c =
    one_written c.loop-i.head (7 + 4 * c.loop-i.i) (7 + 4 * (c.loop-i.i + 1)) c.args.nth c.loop-i.i (c.loop-i.i + 1) c.each.result (omega arith) (omega arith) (omega arith) ∙
    c.loop-i.invariant

pub returns : goal.returns
returns c =
    sym (all_written c.loop-i.head (7 + 4 * c.loop-i.i) c.args.nth c.loop-i.i c.each.result (omega arith)) ∙ c.loop-i.invariant ∙
    ap (nth_written c.args.head.now 7 c.args.nth) c.each.ensures ∙ kinds_written c.args.head.now c.args.nth c.args.words
