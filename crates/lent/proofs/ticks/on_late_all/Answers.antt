-- `lent::ticks::on_late_all` meets its contract.
-- Assumes nothing.
use Rattle.std.proofs.Common.{◌≡◌, ◌<◌, ◌≤◌, sym, ap, ◌∙◌, arith, take, get_or}
use lib.Seq.{get_or-take}
use Rattle.watched.specs.declared.nodes.WatchedNode.{WatchedNode}
use Rattle.watched.specs.Watched.{no_node}
use Rattle.watched.specs.Nodes.{node_of}
use Rattle.heartbeats.proofs.LateWalk.{walk_begins, walk_over, walk_passes, walk_stops, walk_goes_on}
use Rattle.lent.proofs.Found.{long, below, small}
use Rattle.lent.proofs.ticks.on_late_all.Goals.{then-is_late+else-outcome, else-is_late}
use Rattle.lent.proofs.ticks.on_late_all.Goals as goal

pub walk-init : goal.walk-init
walk-init c =
    let a = c.args in
    let vs = a.nodes.now in
    walk_begins vs (long vs a.number c.requires) a.number (below vs a.number c.requires) a.time a.head.now

pub walk-preserved : goal.walk-preserved
walk-preserved c =
    let a = c.args in
    let vs = a.nodes.now in
    let l = c.walk in
    let inside : l.place < a.number = omega (arith, c.walk-test.true) in
    elim c.if-is_late.branch [
      | then-is_late+else-outcome w ↦ rw (w.head-is, w.outcome-is) (walk_goes_on vs (long vs a.number c.requires) a.number (below vs a.number c.requires) a.time a.head.now l.head l.outcome l.place l.invariant inside (node_of c.from-node.result) c.from-node.ensures c.is_late.result c.is_late.ensures w.if-is_late.true w.on_late-outcome.result _ w.on_late-outcome.ensures w.if-outcome.false)
      | else-is_late w ↦ rw (w.head-is, w.outcome-is) (walk_passes vs (long vs a.number c.requires) a.number (below vs a.number c.requires) a.time a.head.now l.head l.outcome l.place l.invariant inside (node_of c.from-node.result) c.from-node.ensures c.is_late.result c.is_late.ensures w.if-is_late.false)
    ]

pub returns-after-walk : goal.returns-after-walk
returns-after-walk c =
    let a = c.args in
    let vs = a.nodes.now in
    let l = c.walk in
    let over : a.number ≤ l.place = omega (arith, c.walk-test.false) in
    walk_over vs (long vs a.number c.requires) a.number (below vs a.number c.requires) a.time a.head.now l.head l.outcome l.place l.invariant over

pub returns-then-outcome : goal.returns-then-outcome
returns-then-outcome c =
    let a = c.args in
    let vs = a.nodes.now in
    let l = c.walk in
    let inside : l.place < a.number = omega (arith, c.walk-test.true) in
    walk_stops vs (long vs a.number c.requires) a.number (below vs a.number c.requires) a.time a.head.now l.head l.outcome l.place l.invariant inside (node_of c.from-node.result) c.from-node.ensures c.is_late.result c.is_late.ensures c.if-is_late.true c.on_late-outcome.result _ c.on_late-outcome.ensures c.if-outcome.true

pub bounds-nodes-place : goal.bounds-nodes-place
bounds-nodes-place c =
    let a = c.args in
    let vs = a.nodes.now in
    omega (arith, c.walk-test.true, long vs a.number c.requires, below vs a.number c.requires)

pub offset_bounds-nodes-place : goal.offset_bounds-nodes-place
offset_bounds-nodes-place c =
    let a = c.args in
    let vs = a.nodes.now in
    omega (arith, c.walk-test.true, long vs a.number c.requires, below vs a.number c.requires)

pub overflow_cast-node : goal.overflow_cast-node
overflow_cast-node c =
    let a = c.args in
    let vs = a.nodes.now in
    let l = c.walk in
    let inside : l.place < a.number = omega (arith, c.walk-test.true) in
    let same : get_or (take a.number vs) l.place no_node ≡ get_or vs l.place no_node = get_or-take a.number vs l.place no_node inside in
    omega (arith, small vs a.number c.requires l.place no_node inside, ap (λ (w : WatchedNode). w.node) same, ap (λ (w : WatchedNode). w.node) c.from-node.ensures)
