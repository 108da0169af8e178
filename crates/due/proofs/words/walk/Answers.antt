-- `due::words::walk` meets its contract: node by node, up to one that number 3 declines.
-- Assumes nothing.
use Prim.Native.Nat.{◌+◌}
use mathlib.Core.Path.{sym, ◌∙◌}
use Rattle.std.proofs.Common.{rules, ◌≡◌, None}
use Rattle.watched.specs.Nodes.{node_of, nodes_of}
use Rattle.watched.specs.Scan.{nodes_from}
use Rattle.watched.proofs.Lists.{at_end}
use Rattle.watched.proofs.Watching.{places, turn_read}
use Rattle.due.proofs.Walking.{walk_stops, walk_next, walk_ends, run_begins}
use Rattle.due.proofs.words.walk.Goals as goal

pub loop-i-init : goal.loop-i-init
loop-i-init c = run_begins (nodes_of c.args.nodes.now) c.args.count (places c.args.nodes.now) c.if-count-gt-WATCHED_PLACES.false

pub returns-in_err-walk : goal.returns-in_err-walk
returns-in_err-walk c =
    let a = c.args in
    let l = c.loop-i in
    let r : c.from_residual.result ≡ None = search rules in
    let n : c.over.result ≡ None = search rules in
    r
    ∙ sym (l.invariant
    ∙ walk_stops l.walk (node_of c.at.result) (nodes_from l.i a.count a.nodes.now) (nodes_from (l.i + 1) a.count a.nodes.now)
    (turn_read a.nodes.now a.count c.if-count-gt-WATCHED_PLACES.false l.i c.loop-i-test.true (node_of c.at.result) c.at.ensures) c.over.result c.over.ensures n)

pub loop-i-preserved : goal.loop-i-preserved
loop-i-preserved c =
    let a = c.args in
    let l = c.loop-i in
    l.invariant
    ∙ walk_next l.walk (node_of c.at.result) (nodes_from l.i a.count a.nodes.now) (nodes_from (l.i + 1) a.count a.nodes.now)
    (turn_read a.nodes.now a.count c.if-count-gt-WATCHED_PLACES.false l.i c.loop-i-test.true (node_of c.at.result) c.at.ensures) c.over.result c.over.ensures c.in_ok-walk.walk c.in_ok-walk.was

pub returns : goal.returns
returns c =
    let a = c.args in
    let l = c.loop-i in
    sym (l.invariant
    ∙ walk_ends l.walk (nodes_from l.i a.count a.nodes.now)
    (at_end (nodes_of a.nodes.now) a.count (places a.nodes.now) c.if-count-gt-WATCHED_PLACES.false l.i c.loop-i-test.false))
