-- `lent::arrivals::add` meets its contract: the node's number, what was found of the run, its
-- tests, and the node put in its place.
-- Assumes nothing.
use mathlib.Core.Path.{sym, ap, ◌∙◌}
use Rattle.std.proofs.Common.{rules, ◌≡◌, Err, Some, None, refl, arith}
use Rattle.std.specs.Prelude.{true}
use Rattle.types.specs.declared.refusals.Refusal.TheVariants.{WatchedNodes}
use Rattle.watched.specs.Watched.{run}
use Rattle.watched.specs.Nodes.{moment_of}
use Rattle.partners.proofs.Adding.{read_known, add_unknown}
use Rattle.lent.proofs.Found.{unlent, found, long, add_unformed, add_room, add_declined, add_taken}
use Rattle.lent.proofs.arrivals.add.Goals as goal

pub returns-in_err-try_from : goal.returns-in_err-try_from
returns-in_err-try_from c =
    let a = c.args in
    let r : c.from_residual.result ≡ Err c.in_err-try_from.field-0.0 = search rules in
    rw r (add_unknown a.head.now (run a.nodes.now a.number.now) a.node a.timeout _ (sym c.try_from.ensures ∙ c.in_err-try_from.was))

pub returns-in_err-place : goal.returns-in_err-place
returns-in_err-place c =
    let a = c.args in
    let r : c.from_residual-in_err-place.result ≡ Err WatchedNodes = search rules in
    let n : c.find.result ≡ None = search rules in
    rw r (add_unformed a.head.now (run a.nodes.now a.number.now) a.node (unlent a.node 0 a.number.now a.nodes.now c.find.result c.find.ensures n)
    (read_known a.node _ (sym c.try_from.ensures ∙ c.in_ok-try_from.was)) a.timeout)

pub returns-in_err-try_place : goal.returns-in_err-try_place
returns-in_err-try_place c =
    let a = c.args in
    let r : c.from_residual-in_err-try_place.result ≡ Err c.in_err-try_place.field-0.0 = search rules in
    let s : c.find.result ≡ Some (c.in_ok-place.place, c.in_ok-place.soonest) = search rules in
    let x = found a.node 0 a.number.now a.nodes.now c.find.result c.find.ensures _ _ s in
    rw r (add_declined a.nodes.now a.number.now x.0 a.head.now a.node _ x.1 _ refl a.timeout true (sym (read_known a.node _ (sym c.try_from.ensures ∙ c.in_ok-try_from.was)))
    c.try_place.result (c.try_place.ensures true _ refl) _ c.in_err-try_place.was)

pub insert-requires : goal.insert-requires
insert-requires c =
    let a = c.args in
    let s : c.find.result ≡ Some (c.in_ok-place.place, c.in_ok-place.soonest) = search rules in
    let x = found a.node 0 a.number.now a.nodes.now c.find.result c.find.ensures _ _ s in (
      long a.nodes.now a.number.now x.0,
      add_room a.nodes.now a.number.now x.0 a.head.now a.node _ x.1 _ refl a.timeout true (sym (read_known a.node _ (sym c.try_from.ensures ∙ c.in_ok-try_from.was)))
          c.try_place.result (c.try_place.ensures true _ refl) c.in_ok-try_place.was,
    )

pub overflow_add-number : goal.overflow_add-number
overflow_add-number c =
    let a = c.args in
    let s : c.find.result ≡ Some (c.in_ok-place.place, c.in_ok-place.soonest) = search rules in
    let x = found a.node 0 a.number.now a.nodes.now c.find.result c.find.ensures _ _ s in
    omega (
      arith,
      add_room a.nodes.now a.number.now x.0 a.head.now a.node _ x.1 _ refl a.timeout true (sym (read_known a.node _ (sym c.try_from.ensures ∙ c.in_ok-try_from.was)))
          c.try_place.result (c.try_place.ensures true _ refl) c.in_ok-try_place.was,
    )

pub returns : goal.returns
returns c =
    let a = c.args in
    let s : c.find.result ≡ Some (c.in_ok-place.place, c.in_ok-place.soonest) = search rules in
    let x = found a.node 0 a.number.now a.nodes.now c.find.result c.find.ensures _ _ s in
    add_taken a.nodes.now a.number.now x.0 a.head.now a.node _ x.1 _ refl a.timeout true (sym (read_known a.node _ (sym c.try_from.ensures ∙ c.in_ok-try_from.was)))
    c.try_place.result (c.try_place.ensures true _ refl) c.in_ok-try_place.was c.told-head _ c.insert.ensures _ (c.moment.ensures ∙ ap moment_of x.2) _ c.set_earliest.ensures
