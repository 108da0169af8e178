-- `watched::nodes::Ahead::have_numbers` meets its contract.
-- Assumes nothing.
use mathlib.Core.Path.{sym}
use Rattle.watched.specs.Nodes.{node_of}
use Rattle.watched.proofs.ScanLaws.{numbers_rest, numbers_stop, numbers_next}
use Rattle.watched.proofs.nodes.Ahead.have_numbers.Goals as goal

pub returns-then-node-le240 : goal.returns-then-node-le240
returns-then-node-le240 c =
    let l = c.loop-i in
    let s = c.args.self in
    sym (numbers_rest s.nodes.now s.count s.few s.place _ l.i l.invariant c.loop-i-test.true l.auto.i (node_of c.at-node.result) c.at-node.ensures s.last c.requires c.if-node-le240.true)

pub returns-then-not-is_numbered : goal.returns-then-not-is_numbered
returns-then-not-is_numbered c =
    let l = c.loop-i in
    let s = c.args.self in
    sym (numbers_stop s.nodes.now s.count s.few s.place _ l.i l.invariant c.loop-i-test.true l.auto.i (node_of c.at-node.result) c.at-node.ensures
    c.is_numbered.result c.is_numbered.ensures c.if-not-is_numbered.true)

pub loop-i-preserved : goal.loop-i-preserved
loop-i-preserved c =
    let l = c.loop-i in
    let s = c.args.self in
    numbers_next s.nodes.now s.count s.few s.place _ l.i l.invariant c.loop-i-test.true l.auto.i (node_of c.at-node.result) c.at-node.ensures
    c.is_numbered.result c.is_numbered.ensures c.if-not-is_numbered.false
