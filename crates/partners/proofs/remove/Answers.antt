-- `partners::remove` meets its contract: its tests, then the walk, and the earliest moment.
-- Assumes nothing.
use mathlib.Core.Path.{◌≡◌, refl, ap, ◌∙◌}
use mathlib.Core.Bool.{true}
use Rattle.std.proofs.Common.{rules, Err, Some, None}
use native.Mathlib.Omega.{arith}
use Rattle.watched.specs.Nodes.{moment_of}
use Rattle.types.specs.declared.refusals.Refusal.TheVariants.{WatchedNodes}
use Rattle.watched.proofs.Watching.{found_unformed, found_formed}
use Rattle.partners.proofs.Told.{remove_unformed, remove_inside, remove_declined, remove_taken}
use Rattle.partners.proofs.remove.Goals as goal

pub returns-in_err-place : goal.returns-in_err-place
returns-in_err-place c =
    let a = c.args in
    let r : c.from_residual.result ≡ Err WatchedNodes = search rules in
    let n : c.find.result ≡ None = search rules in
    rw r (remove_unformed a.head.now a.nodes.now a.count.now a.node
    (found_unformed a.nodes.now a.count.now a.node 0 c.find.result c.find.ensures n) (Err WatchedNodes) refl)

pub close-requires : goal.close-requires
close-requires c =
    let a = c.args in
    let s : c.find.result ≡ Some (c.in_ok-place.place, c.in_ok-place.soonest) = search rules in
    let x = found_formed a.nodes.now a.count.now a.node 0 c.find.result c.find.ensures _ _ s in
    remove_inside a.head.now a.nodes.now a.count.now a.node x.0 _ x.1 _ refl c.try_remove.result (c.try_remove.ensures true _ refl) c.in_ok-try_remove.was

pub overflow_sub-count : goal.overflow_sub-count
overflow_sub-count c =
    let a = c.args in
    let s : c.find.result ≡ Some (c.in_ok-place.place, c.in_ok-place.soonest) = search rules in
    let x = found_formed a.nodes.now a.count.now a.node 0 c.find.result c.find.ensures _ _ s in
    let r = remove_inside a.head.now a.nodes.now a.count.now a.node x.0 _ x.1 _ refl c.try_remove.result (c.try_remove.ensures true _ refl) c.in_ok-try_remove.was in
    omega (arith, r.0)

pub returns : goal.returns
returns c =
    let a = c.args in
    let s : c.find.result ≡ Some (c.in_ok-place.place, c.in_ok-place.soonest) = search rules in
    let x = found_formed a.nodes.now a.count.now a.node 0 c.find.result c.find.ensures _ _ s in
    remove_taken a.head.now a.nodes.now a.count.now a.node x.0 _ x.1 _ refl c.try_remove.result (c.try_remove.ensures true _ refl) c.in_ok-try_remove.was
    (omega arith) _ c.close.ensures (omega arith) _ (c.moment.ensures ∙ ap moment_of x.2) _ c.set_earliest.ensures

pub returns-in_err-try_remove : goal.returns-in_err-try_remove
returns-in_err-try_remove c =
    let a = c.args in
    let s : c.find.result ≡ Some (c.in_ok-place.place, c.in_ok-place.soonest) = search rules in
    let x = found_formed a.nodes.now a.count.now a.node 0 c.find.result c.find.ensures _ _ s in
    let r : c.from_residual-in_err-try_remove.result ≡ Err c.in_err-try_remove.field-0.0 = search rules in
    rw r (remove_declined a.head.now a.nodes.now a.count.now a.node x.0 _ x.1 _ refl c.try_remove.result (c.try_remove.ensures true _ refl) _ c.in_err-try_remove.was)
