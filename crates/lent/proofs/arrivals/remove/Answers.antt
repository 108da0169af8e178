-- `lent::arrivals::remove` meets its contract: what was found of the run, its tests, and the place
-- closed.
-- Assumes nothing.
use mathlib.Core.Path.{ap, ◌∙◌}
use Rattle.std.proofs.Common.{rules, ◌≡◌, true, Err, Some, None, refl, arith}
use Rattle.types.specs.declared.refusals.Refusal.TheVariants.{WatchedNodes}
use Rattle.watched.specs.Watched.{run}
use Rattle.watched.specs.Nodes.{moment_of}
use Rattle.lent.proofs.Found.{unlent, found, long, below, remove_unformed, remove_inside, remove_declined, remove_taken}
use Rattle.lent.proofs.arrivals.remove.Goals as goal

pub returns-in_err-place : goal.returns-in_err-place
returns-in_err-place c =
    let a = c.args in
    let r : c.from_residual.result ≡ Err WatchedNodes = search rules in
    let n : c.find.result ≡ None = search rules in
    rw r (remove_unformed a.head.now (run a.nodes.now a.number.now) a.node (unlent a.node 0 a.number.now a.nodes.now c.find.result c.find.ensures n))

pub returns-in_err-try_remove : goal.returns-in_err-try_remove
returns-in_err-try_remove c =
    let a = c.args in
    let r : c.from_residual-in_err-try_remove.result ≡ Err c.in_err-try_remove.field-0.0 = search rules in
    let s : c.find.result ≡ Some (c.in_ok-place.place, c.in_ok-place.soonest) = search rules in
    let x = found a.node 0 a.number.now a.nodes.now c.find.result c.find.ensures _ _ s in
    rw r (remove_declined a.nodes.now a.number.now x.0 a.head.now a.node _ x.1 _ refl c.try_remove.result (c.try_remove.ensures true _ refl) _ c.in_err-try_remove.was)

pub close-requires : goal.close-requires
close-requires c =
    let a = c.args in
    let s : c.find.result ≡ Some (c.in_ok-place.place, c.in_ok-place.soonest) = search rules in
    let x = found a.node 0 a.number.now a.nodes.now c.find.result c.find.ensures _ _ s in (
      long a.nodes.now a.number.now x.0,
      remove_inside a.nodes.now a.number.now x.0 a.head.now a.node _ x.1 _ refl c.try_remove.result (c.try_remove.ensures true _ refl) c.in_ok-try_remove.was,
      below a.nodes.now a.number.now x.0,
    )

pub overflow_sub-number : goal.overflow_sub-number
overflow_sub-number c =
    let a = c.args in
    let s : c.find.result ≡ Some (c.in_ok-place.place, c.in_ok-place.soonest) = search rules in
    let x = found a.node 0 a.number.now a.nodes.now c.find.result c.find.ensures _ _ s in
    omega (arith, remove_inside a.nodes.now a.number.now x.0 a.head.now a.node _ x.1 _ refl c.try_remove.result (c.try_remove.ensures true _ refl) c.in_ok-try_remove.was)

pub returns : goal.returns
returns c =
    let a = c.args in
    let s : c.find.result ≡ Some (c.in_ok-place.place, c.in_ok-place.soonest) = search rules in
    let x = found a.node 0 a.number.now a.nodes.now c.find.result c.find.ensures _ _ s in
    remove_taken a.nodes.now a.number.now x.0 a.head.now a.node _ x.1 _ refl c.try_remove.result (c.try_remove.ensures true _ refl) c.in_ok-try_remove.was
    c.told-head _ c.close.ensures _ (c.moment.ensures ∙ ap moment_of x.2) _ c.set_earliest.ensures
