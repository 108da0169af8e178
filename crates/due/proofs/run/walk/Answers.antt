-- `due::run::walk` meets its contract: record by record, up to one that number 3 declines.
-- Assumes nothing.
use Prim.Native.Nat.{◌+◌, ◌≤◌}
use mathlib.Core.Path.{◌≡◌, sym, ◌∙◌}
use native.Mathlib.Omega.{arith}
use lib.ListN.{take, drop}
use lib.Seq.{length-take-le}
use Rattle.std.proofs.Common.{rules, None}
use Rattle.watched.specs.Watched.{no_node}
use Rattle.watched.specs.Nodes.{node_of}
use Rattle.watched.proofs.Lists.{at_end}
use Rattle.due.proofs.Walking.{read_there, walk_stops, walk_next, walk_ends}
use Rattle.due.proofs.run.walk.Goals as goal

pub returns-in_err-walk : goal.returns-in_err-walk
returns-in_err-walk c =
    let a = c.args in
    let l = c.loop-w in
    let vs = a.nodes.now in
    let r : c.from_residual.result ≡ None = search rules in
    let n : c.over.result ≡ None = search rules in
    r
    ∙ sym (l.invariant
    ∙ walk_stops l.walk (node_of c.from.result) (drop l.w-index (take a.number vs)) (drop (l.w-index + 1) (take a.number vs))
    (read_there (take a.number vs) l.w-index no_node c.loop-w-test.true (node_of c.from.result) c.from.ensures)
    c.over.result c.over.ensures n)

pub loop-w-preserved : goal.loop-w-preserved
loop-w-preserved c =
    let a = c.args in
    let l = c.loop-w in
    let vs = a.nodes.now in
    l.invariant
    ∙ walk_next l.walk (node_of c.from.result) (drop l.w-index (take a.number vs)) (drop (l.w-index + 1) (take a.number vs))
    (read_there (take a.number vs) l.w-index no_node c.loop-w-test.true (node_of c.from.result) c.from.ensures)
    c.over.result c.over.ensures c.in_ok-walk.walk c.in_ok-walk.was

pub returns : goal.returns
returns c =
    let a = c.args in
    let l = c.loop-w in
    let vs = a.nodes.now in
    let h : a.number ≤ l.w-index = omega (arith, c.loop-w-test.false, length-take-le a.number vs (omega arith)) in
    sym (l.invariant
    ∙ walk_ends l.walk (drop l.w-index (take a.number vs)) (at_end vs a.number c.if-nodes-ne-WATCHED_PLACES.false c.if-number-gt-WATCHED_PLACES.false l.w-index h))
