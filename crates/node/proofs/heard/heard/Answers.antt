-- `node::heard::heard` meets its contract: its tests, then one store, and the earliest moment.
-- Assumes nothing.
use mathlib.Core.Path.{◌≡◌, refl, ap, ◌∙◌}
use mathlib.Core.Bool.{true}
use native.Mathlib.Omega.{arith}
use Rattle.std.proofs.Common.{rules, Err, Some}
use Rattle.watched.specs.Nodes.{moment_of}
use Rattle.watched.proofs.Watching.{found_formed, few}
use Rattle.node.proofs.Hearing.{inside, declined, there}
use Rattle.node.proofs.heard.heard.Goals as goal

pub set_heard-requires : goal.set_heard-requires
set_heard-requires c =
    let a = c.args in
    let s : c.find.result ≡ Some (c.in_ok-place.place, c.in_ok-place.soonest) = search rules in
    let x = found_formed a.nodes.now a.count a.node a.time c.find.result c.find.ensures _ _ s in
    omega (arith, few a.nodes.now a.count x.0, inside a.head.now a.nodes.now a.count a.node a.time x.0 _ x.1 _ refl c.try_heard.result (c.try_heard.ensures true _ refl) c.in_ok-try_heard.was)

pub returns : goal.returns
returns c =
    let a = c.args in
    let s : c.find.result ≡ Some (c.in_ok-place.place, c.in_ok-place.soonest) = search rules in
    let x = found_formed a.nodes.now a.count a.node a.time c.find.result c.find.ensures _ _ s in
    there a.head.now a.nodes.now a.count a.node a.time x.0 _ x.1 _ refl c.try_heard.result (c.try_heard.ensures true _ refl) c.in_ok-try_heard.was c.told-head c.told-nodes _ c.set_heard.ensures _ (c.moment.ensures ∙ ap moment_of x.2) _ c.set_earliest.ensures

pub returns-in_err-try_heard : goal.returns-in_err-try_heard
returns-in_err-try_heard c =
    let a = c.args in
    let s : c.find.result ≡ Some (c.in_ok-place.place, c.in_ok-place.soonest) = search rules in
    let x = found_formed a.nodes.now a.count a.node a.time c.find.result c.find.ensures _ _ s in
    let r : c.from_residual-in_err-try_heard.result ≡ Err c.in_err-try_heard.field-0.0 = search rules in
    rw r (declined a.head.now a.nodes.now a.count a.node a.time x.0 _ x.1 _ refl c.try_heard.result (c.try_heard.ensures true _ refl) _ c.in_err-try_heard.was)
