-- `tick::dll_errors::on_dll_errors` meets its contract: an error that ends the tick ends the walk, or the next
-- one follows.
-- Assumes nothing.
use Rattle.types.specs.Errors.{reported}
use Rattle.tick.proofs.DllErrorWalk.{walk_begins, walk_left, walk_on}
use Rattle.tick.proofs.dll_errors.on_dll_errors.Goals as goal

pub walk-init : goal.walk-init
walk-init c =
    let a = c.args in
    rw c.into_iter-error-iterator.ensures (walk_begins a.time a.head.now a.queue.now a.history.now (reported a.errors) c.requires)

pub walk-preserved : goal.walk-preserved
walk-preserved c =
    let a = c.args in
    let l = c.walk in
    let k = rw c.in-Some.ensures.steps at l.invariant in
    walk_on a.time a.head.now a.queue.now a.history.now (reported a.errors) l.head l.queue l.history l.outcome c.in-Some.error _ k
    c.on_dll_error-outcome.result _ _ _ c.on_dll_error-outcome.ensures c.if-outcome.false

pub returns-then-outcome : goal.returns-then-outcome
returns-then-outcome c =
    let a = c.args in
    let l = c.walk in
    let k = rw c.in-Some.ensures.steps at l.invariant in
    walk_left a.time a.head.now a.queue.now a.history.now (reported a.errors) l.head l.queue l.history l.outcome c.in-Some.error _ k
    c.on_dll_error-outcome.result _ _ _ c.on_dll_error-outcome.ensures c.if-outcome.true
