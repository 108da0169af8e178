-- `reception::process_frame` meets its contract: the refusals of the reading and of the time, whose
-- the frame is, and the frame.
-- Assumes nothing.
use mathlib.Core.Path.{◌≡◌, sym, ◌∙◌}
use Rattle.std.proofs.Common.{rules}
use Rattle.std.specs.declared.result.Result.TheVariants.{Err}
use Rattle.reception.proofs.Receiving.{unread, too_late, another, this_one}
use Rattle.reception.proofs.process_frame.Goals as goal

pub returns-in_err-frame : goal.returns-in_err-frame
returns-in_err-frame c =
    let a = c.args in
    let r : c.from_residual.result ≡ Err c.in_err-frame.field-0.0 = search rules in
    rw r (unread a.head.now a.queue.now a.history.now a.time a.bytes.now c.in_err-frame.field-0.0 (sym c.read.ensures ∙ c.in_err-frame.was))

pub returns-in_err-time : goal.returns-in_err-time
returns-in_err-time c =
    let a = c.args in
    let r : c.from_residual-in_err-time.result ≡ Err c.in_err-time.field-0.0 = search rules in
    rw (r, c.in_err-time.ensures.0)
    (too_late a.head.now a.queue.now a.history.now a.time a.bytes.now c.in_ok-frame.frame (sym c.read.ensures ∙ c.in_ok-frame.was) c.in_err-time.ensures.1)

pub returns-then-not-is_ours : goal.returns-then-not-is_ours
returns-then-not-is_ours c =
    let a = c.args in
    another a.head.now a.queue.now a.history.now a.time a.bytes.now c.in_ok-frame.frame (sym c.read.ensures ∙ c.in_ok-frame.was)
    c.in_ok-time.ensures.1 (sym c.is_ours.ensures ∙ c.if-not-is_ours.true)

pub returns : goal.returns
returns c =
    let a = c.args in
    this_one a.head.now a.queue.now a.history.now a.time a.bytes.now c.in_ok-frame.frame (sym c.read.ensures ∙ c.in_ok-frame.was)
    c.in_ok-time.ensures.1 (sym c.is_ours.ensures ∙ c.if-not-is_ours.false)
    c.receive-taken.result _ _ _ (rw c.in_ok-time.ensures.0 at c.receive-taken.ensures)
