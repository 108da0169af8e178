-- `lent::run::at_rest` meets its contract: node by node, up to one that does not rest.
-- Assumes nothing.
use mathlib.Core.Path.{refl, ◌∙◌}
use Rattle.std.proofs.Common.{rules, ◌≡◌, None}
use Rattle.watched.specs.Nodes.{node_of}
use Rattle.watched.proofs.Watching.{tried_unformed, tried_formed}
use Rattle.lent.proofs.Walks.{rest_none, rest_long, rest_few, rest_active, begins, rising_stops, rising_next, rest_stops, rest_next, soonest_next, rest_ends}
use Rattle.lent.proofs.run.at_rest.Goals.{then-nodes-ne-WATCHED_PLACES-via-then-nodes-ne-WATCHED_PLACES, then-nodes-ne-WATCHED_PLACES-via-else-nodes-ne-WATCHED_PLACES+then-number-gt-WATCHED_PLACES}
use Rattle.lent.proofs.run.at_rest.Goals as goal

pub returns-then-nodes-ne-WATCHED_PLACES : goal.returns-then-nodes-ne-WATCHED_PLACES
returns-then-nodes-ne-WATCHED_PLACES c =
    let a = c.args in
    elim c.then-nodes-ne-WATCHED_PLACES.branch [
      | then-nodes-ne-WATCHED_PLACES-via-then-nodes-ne-WATCHED_PLACES w ↦ rest_long a.nodes.now a.number a.time w.if-nodes-ne-WATCHED_PLACES.true
      | then-nodes-ne-WATCHED_PLACES-via-else-nodes-ne-WATCHED_PLACES+then-number-gt-WATCHED_PLACES w ↦ rest_few a.nodes.now a.number a.time w.if-number-gt-WATCHED_PLACES.true
    ]

pub loop-i-init : goal.loop-i-init
loop-i-init c =
    (begins c.args.nodes.now c.args.number c.if-nodes-ne-WATCHED_PLACES.false c.if-number-gt-WATCHED_PLACES.false, refl, refl)

pub returns-then-not-follows : goal.returns-then-not-follows
returns-then-not-follows c =
    let a = c.args in
    let l = c.loop-i in
    rest_none a.nodes.now a.number a.time
    (rising_stops a.nodes.now a.number c.if-nodes-ne-WATCHED_PLACES.false c.if-number-gt-WATCHED_PLACES.false l.i c.loop-i-test.true (node_of c.from-w.result) c.from-w.ensures _ l.last l.invariant.0
    c.follows.result c.follows.ensures c.if-not-follows.true)

pub returns-in_err-soonest : goal.returns-in_err-soonest
returns-in_err-soonest c =
    let a = c.args in
    let l = c.loop-i in
    let long = c.if-nodes-ne-WATCHED_PLACES.false in
    let few = c.if-number-gt-WATCHED_PLACES.false in
    let r : c.from_residual.result ≡ None = search rules in
    let n : c.rest_until.result ≡ None = search rules in
    r
    ∙ rest_active a.nodes.now a.number long few a.time
    (rest_stops a.nodes.now a.number long few l.i c.loop-i-test.true (node_of c.from-w.result) c.from-w.ensures _ a.time l.invariant.1
    (tried_unformed _ _ c.rest_until.result c.rest_until.ensures n))

pub loop-i-preserved : goal.loop-i-preserved
loop-i-preserved c =
    let a = c.args in
    let l = c.loop-i in
    let vs = a.nodes.now in
    let k = a.number in
    let long = c.if-nodes-ne-WATCHED_PLACES.false in
    let few = c.if-number-gt-WATCHED_PLACES.false in
    let w = node_of c.from-w.result in
    let u = tried_formed _ _ c.rest_until.result c.rest_until.ensures _ c.in_ok-soonest.was in (
      rising_next vs k long few l.i c.loop-i-test.true w c.from-w.ensures _ l.last l.invariant.0 c.follows.result c.follows.ensures c.if-not-follows.false,
      rest_next vs k long few l.i c.loop-i-test.true w c.from-w.ensures _ a.time l.invariant.1 u.0,
      soonest_next vs k long few l.i c.loop-i-test.true w c.from-w.ensures _ l.soonest l.invariant.2 _ u.1,
    )

pub returns : goal.returns
returns c =
    let a = c.args in
    let l = c.loop-i in
    rest_ends a.nodes.now a.number c.if-nodes-ne-WATCHED_PLACES.false c.if-number-gt-WATCHED_PLACES.false l.i c.loop-i-test.false
    a.time l.last l.invariant.0 l.invariant.1 l.soonest l.invariant.2
