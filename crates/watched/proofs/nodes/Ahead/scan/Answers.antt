-- `watched::nodes::Ahead::scan` meets its contract.
-- Assumes nothing.
use Prim.Native.Nat.{◌+◌}
use mathlib.Core.Path.{◌≡◌, refl, ap}
use native.Mathlib.Omega.{arith}
use Rattle.watched.specs.declared.nodes.Scanned.{Scanned}
use Rattle.watched.specs.Nodes.{node_of}
use Rattle.watched.proofs.Walk.{walk_ends, walk_low, walk_found, walk_next}
use Rattle.watched.proofs.nodes.Ahead.scan.Goals as goal

pub loop-i-init : goal.loop-i-init
loop-i-init c =
    (refl, refl)

pub over-scanned-requires : goal.over-scanned-requires
over-scanned-requires c =
    let l = c.loop-i in
    omega (arith, l.invariant.1, c.loop-i-test.true, c.args.self.few)

pub loop-i-preserved : goal.loop-i-preserved
loop-i-preserved c =
    let l = c.loop-i in
    let s = c.args.self in
    let p : c.over-scanned.result.place ≡ l.scanned.place + 1 = ap (λ (x : Scanned). x.place) c.over-scanned.ensures in (
      walk_next s.nodes.now s.count s.few c.args.sought l.i l.scanned _ l.invariant.0 c.loop-i-test.true (node_of c.at-node.result) c.at-node.ensures c.if-node-scanned.false c.if-node-sought.false
          c.over-scanned.result c.over-scanned.ensures,
      omega (arith, p, l.invariant.1),
    )

pub returns-then-node-scanned : goal.returns-then-node-scanned
returns-then-node-scanned c =
    let l = c.loop-i in
    let s = c.args.self in
    walk_low s.nodes.now s.count s.few c.args.sought l.i l.scanned _ l.invariant.0 c.loop-i-test.true (node_of c.at-node.result) c.at-node.ensures c.if-node-scanned.true

pub returns-then-node-sought : goal.returns-then-node-sought
returns-then-node-sought c =
    let l = c.loop-i in
    let s = c.args.self in
    walk_found s.nodes.now s.count s.few c.args.sought l.i l.scanned _ l.invariant.0 c.loop-i-test.true (node_of c.at-node.result) c.at-node.ensures c.if-node-scanned.false c.if-node-sought.true

pub returns : goal.returns
returns c =
    let l = c.loop-i in
    let s = c.args.self in
    walk_ends s.nodes.now s.count s.few c.args.sought l.i l.scanned _ l.invariant.0 c.loop-i-test.false
