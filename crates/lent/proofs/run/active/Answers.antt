-- `lent::run::active` meets its contract: node by node.
-- Assumes nothing.
use mathlib.Core.Path.{refl, sym, ap, ◌∙◌}
use Rattle.types.specs.Pick.{both}
use Rattle.watched.specs.Nodes.{node_of, not_before}
use Rattle.lent.proofs.Walks.{active_none, active_long, active_few, begins, rising_stops, rising_next, heard_all_next, active_ends}
use Rattle.lent.proofs.run.active.Goals.{then-nodes-ne-WATCHED_PLACES-via-then-nodes-ne-WATCHED_PLACES, then-nodes-ne-WATCHED_PLACES-via-else-nodes-ne-WATCHED_PLACES+then-number-gt-WATCHED_PLACES, then-heard, else-heard}
use Rattle.lent.proofs.run.active.Goals as goal

pub returns-then-nodes-ne-WATCHED_PLACES : goal.returns-then-nodes-ne-WATCHED_PLACES
returns-then-nodes-ne-WATCHED_PLACES c =
    let a = c.args in
    elim c.then-nodes-ne-WATCHED_PLACES.branch [
      | then-nodes-ne-WATCHED_PLACES-via-then-nodes-ne-WATCHED_PLACES w ↦ active_long a.nodes.now a.number a.time w.if-nodes-ne-WATCHED_PLACES.true
      | then-nodes-ne-WATCHED_PLACES-via-else-nodes-ne-WATCHED_PLACES+then-number-gt-WATCHED_PLACES w ↦ active_few a.nodes.now a.number a.time w.if-number-gt-WATCHED_PLACES.true
    ]

pub loop-i-init : goal.loop-i-init
loop-i-init c = (begins c.args.nodes.now c.args.number c.if-nodes-ne-WATCHED_PLACES.false c.if-number-gt-WATCHED_PLACES.false, refl)

pub returns-then-not-follows : goal.returns-then-not-follows
returns-then-not-follows c =
    let a = c.args in
    let l = c.loop-i in
    active_none a.nodes.now a.number a.time
    (rising_stops a.nodes.now a.number c.if-nodes-ne-WATCHED_PLACES.false c.if-number-gt-WATCHED_PLACES.false l.i c.loop-i-test.true (node_of c.from-w.result) c.from-w.ensures _ l.last l.invariant.0
    c.follows.result c.follows.ensures c.if-not-follows.true)

pub loop-i-preserved : goal.loop-i-preserved
loop-i-preserved c =
    let a = c.args in
    let l = c.loop-i in
    let vs = a.nodes.now in
    let k = a.number in
    let long = c.if-nodes-ne-WATCHED_PLACES.false in
    let few = c.if-number-gt-WATCHED_PLACES.false in
    let w = node_of c.from-w.result in (
      rising_next vs k long few l.i c.loop-i-test.true w c.from-w.ensures _ l.last l.invariant.0 c.follows.result c.follows.ensures c.if-not-follows.false,
      heard_all_next vs k long few l.i c.loop-i-test.true w c.from-w.ensures _ l.heard a.time l.invariant.1 c.if-heard.heard
          (elim c.if-heard.branch [
            | then-heard x ↦ x.heard-is ∙ x.heard_by-heard.ensures ∙ sym (ap (λ b. both b (not_before a.time w)) x.if-heard.true)
            | else-heard x ↦ x.heard-is ∙ x.if-heard.false ∙ sym (ap (λ b. both b (not_before a.time w)) x.if-heard.false)
          ]),
    )

pub returns : goal.returns
returns c =
    let a = c.args in
    let l = c.loop-i in
    active_ends a.nodes.now a.number c.if-nodes-ne-WATCHED_PLACES.false c.if-number-gt-WATCHED_PLACES.false l.i c.loop-i-test.false
    a.time l.last l.invariant.0 l.heard l.invariant.1
