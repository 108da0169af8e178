-- `lent::calls::heard` meets its contract: by what was found of the run, its tests, and one store.
-- Assumes nothing.
use mathlib.Core.Path.{ap, ◌∙◌}
use Rattle.std.proofs.Common.{rules, ◌≡◌, Err, Some, None, refl}
use Rattle.std.specs.Prelude.{true}
use Rattle.types.specs.declared.refusals.Refusal.TheVariants.{WatchedNodes}
use Rattle.watched.specs.Watched.{run}
use Rattle.watched.specs.Nodes.{moment_of}
use Rattle.lent.proofs.Found.{unlent, found, heard_unformed, heard_inside, heard_refused, heard_done}
use Rattle.lent.proofs.calls.heard.Goals as goal

pub returns-in_err-place : goal.returns-in_err-place
returns-in_err-place c =
    let a = c.args in
    let r : c.from_residual.result ≡ Err WatchedNodes = search rules in
    let n : c.find.result ≡ None = search rules in
    rw r (heard_unformed a.head.now (run a.nodes.now a.number) a.node (unlent a.node a.time a.number a.nodes.now c.find.result c.find.ensures n) a.time)

pub returns-in_err-try_heard : goal.returns-in_err-try_heard
returns-in_err-try_heard c =
    let a = c.args in
    let r : c.from_residual-in_err-try_heard.result ≡ Err c.in_err-try_heard.field-0.0 = search rules in
    let s : c.find.result ≡ Some (c.in_ok-place.place, c.in_ok-place.soonest) = search rules in
    let x = found a.node a.time a.number a.nodes.now c.find.result c.find.ensures _ _ s in
    rw r (heard_refused a.nodes.now a.number x.0 a.head.now a.node _ x.1 _ refl a.time c.try_heard.result (c.try_heard.ensures true _ refl) _ c.in_err-try_heard.was)

pub set_heard-requires : goal.set_heard-requires
set_heard-requires c =
    let a = c.args in
    let s : c.find.result ≡ Some (c.in_ok-place.place, c.in_ok-place.soonest) = search rules in
    let x = found a.node a.time a.number a.nodes.now c.find.result c.find.ensures _ _ s in
    heard_inside a.nodes.now a.number x.0 a.head.now a.node _ x.1 _ refl a.time c.try_heard.result (c.try_heard.ensures true _ refl) c.in_ok-try_heard.was

pub returns : goal.returns
returns c =
    let a = c.args in
    let s : c.find.result ≡ Some (c.in_ok-place.place, c.in_ok-place.soonest) = search rules in
    let x = found a.node a.time a.number a.nodes.now c.find.result c.find.ensures _ _ s in
    heard_done a.nodes.now a.number x.0 a.head.now a.node _ x.1 _ refl a.time c.try_heard.result (c.try_heard.ensures true _ refl) c.in_ok-try_heard.was
    c.told-head _ c.set_heard.ensures _ (c.moment.ensures ∙ ap moment_of x.2) _ c.set_earliest.ensures
