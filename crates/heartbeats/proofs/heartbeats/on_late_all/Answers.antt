-- `heartbeats::heartbeats::on_late_all` meets its contract.
-- Assumes nothing.
use Rattle.std.proofs.Common.{◌<◌, ◌≤◌, sym, ap, ◌∙◌, arith}
use Rattle.watched.specs.declared.nodes.WatchedNode.{WatchedNode}
use Rattle.watched.specs.Nodes.{node_of, nodes_of}
use Rattle.watched.proofs.Limits.{number_small}
use Rattle.watched.proofs.Watching.{few, places, node_at_lem}
use Rattle.heartbeats.proofs.LateWalk.{walk_begins, walk_over, walk_passes, walk_stops, walk_goes_on}
use Rattle.heartbeats.proofs.heartbeats.on_late_all.Goals.{then-is_late+else-outcome, else-is_late}
use Rattle.heartbeats.proofs.heartbeats.on_late_all.Goals as goal

pub walk-init : goal.walk-init
walk-init c =
    let a = c.args in
    let f = a.formed in
    walk_begins (nodes_of f.nodes.now) (places f.nodes.now) f.count (few f.nodes.now f.count f.formed) a.time a.head.now

pub at-node-requires : goal.at-node-requires
at-node-requires c =
    let f = c.args.formed in
    omega (arith, c.walk-test.true, few f.nodes.now f.count f.formed)

pub overflow_cast-node : goal.overflow_cast-node
overflow_cast-node c =
    let a = c.args in
    let f = a.formed in
    let inside : c.walk.place < f.count = omega (arith, c.walk-test.true) in
    omega (arith, ap (λ (w : WatchedNode). w.node) c.at-node.ensures, number_small f.nodes.now f.count (few f.nodes.now f.count f.formed) f.formed c.walk.place inside)

pub walk-preserved : goal.walk-preserved
walk-preserved c =
    let a = c.args in
    let f = a.formed in
    let l = c.walk in
    let inside : l.place < f.count = omega (arith, c.walk-test.true) in
    elim c.if-is_late.branch [
      | then-is_late+else-outcome w ↦ rw (w.head-is, w.outcome-is) (walk_goes_on (nodes_of f.nodes.now) (places f.nodes.now) f.count (few f.nodes.now f.count f.formed) a.time a.head.now l.head l.outcome l.place l.invariant inside (node_of c.at-node.result) (c.at-node.ensures ∙ sym (node_at_lem f.nodes.now l.place (omega (arith, inside, few f.nodes.now f.count f.formed)))) c.is_late.result c.is_late.ensures w.if-is_late.true w.on_late-outcome.result _ w.on_late-outcome.ensures w.if-outcome.false)
      | else-is_late w ↦ rw (w.head-is, w.outcome-is) (walk_passes (nodes_of f.nodes.now) (places f.nodes.now) f.count (few f.nodes.now f.count f.formed) a.time a.head.now l.head l.outcome l.place l.invariant inside (node_of c.at-node.result) (c.at-node.ensures ∙ sym (node_at_lem f.nodes.now l.place (omega (arith, inside, few f.nodes.now f.count f.formed)))) c.is_late.result c.is_late.ensures w.if-is_late.false)
    ]

pub returns-after-walk : goal.returns-after-walk
returns-after-walk c =
    let a = c.args in
    let f = a.formed in
    let l = c.walk in
    let below = few f.nodes.now f.count f.formed in
    let over : f.count ≤ l.place = omega (arith, c.walk-test.false, below) in
    walk_over (nodes_of f.nodes.now) (places f.nodes.now) f.count below a.time a.head.now l.head l.outcome l.place l.invariant over

pub returns-then-outcome : goal.returns-then-outcome
returns-then-outcome c =
    let a = c.args in
    let f = a.formed in
    let l = c.walk in
    let inside : l.place < f.count = omega (arith, c.walk-test.true) in
    walk_stops (nodes_of f.nodes.now) (places f.nodes.now) f.count (few f.nodes.now f.count f.formed) a.time a.head.now l.head l.outcome l.place l.invariant inside (node_of c.at-node.result) (c.at-node.ensures ∙ sym (node_at_lem f.nodes.now l.place (omega (arith, inside, few f.nodes.now f.count f.formed)))) c.is_late.result c.is_late.ensures c.if-is_late.true c.on_late-outcome.result _ c.on_late-outcome.ensures c.if-outcome.true
