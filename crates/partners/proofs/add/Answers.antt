-- `partners::add` meets its contract: the node's number, its tests, then the walk, and the earliest
-- moment.
-- Assumes nothing.
use mathlib.Core.Path.{◌≡◌, refl, sym, ap, ◌∙◌}
use mathlib.Core.Bool.{true}
use Rattle.std.proofs.Common.{rules, Err, Some, None}
use native.Mathlib.Omega.{arith}
use Rattle.watched.specs.Nodes.{moment_of}
use Rattle.types.specs.declared.refusals.Refusal.TheVariants.{WatchedNodes}
use Rattle.watched.proofs.Watching.{found_unformed, found_formed}
use Rattle.partners.proofs.Adding.{read_known}
use Rattle.partners.proofs.Told.{add_unknown, add_unformed, add_room, add_declined, add_taken}
use Rattle.partners.proofs.add.Goals as goal

pub returns-in_err-try_from : goal.returns-in_err-try_from
returns-in_err-try_from c =
    let a = c.args in
    let r : c.from_residual.result ≡ Err c.in_err-try_from.field-0.0 = search rules in
    rw r (add_unknown a.head.now a.nodes.now a.count.now a.node a.timeout _ (sym c.try_from.ensures ∙ c.in_err-try_from.was))

pub returns-in_err-place : goal.returns-in_err-place
returns-in_err-place c =
    let a = c.args in
    let r : c.from_residual-in_err-place.result ≡ Err WatchedNodes = search rules in
    let n : c.find.result ≡ None = search rules in
    rw r (add_unformed a.head.now a.nodes.now a.count.now a.node
    (found_unformed a.nodes.now a.count.now a.node 0 c.find.result c.find.ensures n) a.timeout true (sym (read_known a.node _ (sym c.try_from.ensures ∙ c.in_ok-try_from.was))) (Err WatchedNodes) refl)

pub insert-requires : goal.insert-requires
insert-requires c =
    let a = c.args in
    let s : c.find.result ≡ Some (c.in_ok-place.place, c.in_ok-place.soonest) = search rules in
    let x = found_formed a.nodes.now a.count.now a.node 0 c.find.result c.find.ensures _ _ s in
    add_room a.head.now a.nodes.now a.count.now a.node x.0 _ x.1 _ refl a.timeout true (sym (read_known a.node _ (sym c.try_from.ensures ∙ c.in_ok-try_from.was))) c.try_place.result (c.try_place.ensures true _ refl) c.in_ok-try_place.was

pub overflow_add-count : goal.overflow_add-count
overflow_add-count c =
    let a = c.args in
    let s : c.find.result ≡ Some (c.in_ok-place.place, c.in_ok-place.soonest) = search rules in
    let x = found_formed a.nodes.now a.count.now a.node 0 c.find.result c.find.ensures _ _ s in
    omega (arith, add_room a.head.now a.nodes.now a.count.now a.node x.0 _ x.1 _ refl a.timeout true (sym (read_known a.node _ (sym c.try_from.ensures ∙ c.in_ok-try_from.was))) c.try_place.result (c.try_place.ensures true _ refl) c.in_ok-try_place.was)

pub returns : goal.returns
returns c =
    let a = c.args in
    let s : c.find.result ≡ Some (c.in_ok-place.place, c.in_ok-place.soonest) = search rules in
    let x = found_formed a.nodes.now a.count.now a.node 0 c.find.result c.find.ensures _ _ s in
    add_taken a.head.now a.nodes.now a.count.now a.node x.0 _ x.1 _ refl a.timeout true (sym (read_known a.node _ (sym c.try_from.ensures ∙ c.in_ok-try_from.was))) c.try_place.result (c.try_place.ensures true _ refl) c.in_ok-try_place.was
    (omega arith) _ c.insert.ensures (omega arith) _ (c.moment.ensures ∙ ap moment_of x.2) _ c.set_earliest.ensures

pub returns-in_err-try_place : goal.returns-in_err-try_place
returns-in_err-try_place c =
    let a = c.args in
    let s : c.find.result ≡ Some (c.in_ok-place.place, c.in_ok-place.soonest) = search rules in
    let x = found_formed a.nodes.now a.count.now a.node 0 c.find.result c.find.ensures _ _ s in
    let r : c.from_residual-in_err-try_place.result ≡ Err c.in_err-try_place.field-0.0 = search rules in
    rw r (add_declined a.head.now a.nodes.now a.count.now a.node x.0 _ x.1 _ refl a.timeout true (sym (read_known a.node _ (sym c.try_from.ensures ∙ c.in_ok-try_from.was))) c.try_place.result (c.try_place.ensures true _ refl) _ c.in_err-try_place.was)
