-- `watched::nodes::examine` meets its contract: node by node up to one that does not rest.
-- Assumes nothing.
use Prim.Native.Nat.{ℕ, ◌≤◌}
use mathlib.Core.Path.{ap, ◌∙◌}
use native.Mathlib.Omega.{arith}
use Rattle.std.specs.declared.option.Option.{Option}
use Rattle.std.specs.declared.option.Option.TheVariants.{Some}
use Rattle.watched.specs.declared.nodes.Seen.TheVariants.{Resting}
use Rattle.std.proofs.lemmas.Option.{MatchOption-at_none, MatchOption-at_some}
use Rattle.watched.specs.Nodes.{node_of, rests, not_before, active_from}
use Rattle.watched.specs.Scan.{nodes_from}
use Rattle.watched.proofs.Watching.{many, formed_begins, formed_stops, formed_next, formed_ends, soonest_begins, soonest_next, soonest_ends, all_begins, all_stops, all_next, all_ends, rests_heard, tried_unformed, tried_formed, examine_unformed, examine_active, examine_none, examine_rests}
use Rattle.watched.proofs.nodes.examine.Goals as goal

pub returns-in_err-all : goal.returns-in_err-all
returns-in_err-all c =
    let a = c.args in
    c.from_residual.ensures
    ∙ examine_unformed a.nodes.now a.count a.time (many a.nodes.now a.count (MatchOption-at_none _ _ c.in_err-all.was c.all.ensures))

pub loop-i-init : goal.loop-i-init
loop-i-init c =
    let a = c.args in
    let k : a.count ≤ 32 = omega (arith, (MatchOption-at_some _ _ _ c.in_ok-all.was c.all.ensures).1, c.in_ok-all.all.few) in (
      formed_begins a.nodes.now a.count k,
      all_begins a.nodes.now a.count k (rests a.time),
      soonest_begins a.nodes.now a.count k,
      all_begins a.nodes.now a.count k (not_before a.time),
    )

pub returns-then-not-follows : goal.returns-then-not-follows
returns-then-not-follows c =
    let l = c.loop-i in
    let a = c.args in
    let k : a.count ≤ 32 = omega (arith, (MatchOption-at_some _ _ _ c.in_ok-all.was c.all.ensures).1, c.in_ok-all.all.few) in
    examine_unformed a.nodes.now a.count a.time
    (formed_stops a.nodes.now a.count k l.i c.loop-i-test.true (node_of c.at-node.result) c.at-node.ensures _ l.last l.invariant.0
    c.follows.result c.follows.ensures c.if-not-follows.true)

pub returns-in_default : goal.returns-in_default
returns-in_default c =
    let l = c.loop-i in
    let a = c.args in
    let k : a.count ≤ 32 = omega (arith, (MatchOption-at_some _ _ _ c.in_ok-all.was c.all.ensures).1, c.in_ok-all.all.few) in
    let x = MatchOption-at_some _ _ _ c.in_ok-all.was c.all.ensures in
    let b = c.behind.ensures in
    let r = c.active.ensures ∙ (λ i. active_from (b.3 i) a.time (nodes_from (b.2 i) ((b.1 ∙ x.1) i) ((b.0 ∙ x.0) i))) in
    examine_active a.nodes.now a.count a.time l.last (nodes_from l.i a.count a.nodes.now) l.invariant.0
    (all_stops a.nodes.now a.count k l.i c.loop-i-test.true (node_of c.at-node.result) c.at-node.ensures (rests a.time) _ l.invariant.1
    (tried_unformed _ _ c.rest_until.result c.rest_until.ensures c.in_default.is))
    l.invariant.3 c.active.result r _ c.in_ok-active.was

pub returns-in_err-active : goal.returns-in_err-active
returns-in_err-active c =
    let l = c.loop-i in
    let a = c.args in
    let x = MatchOption-at_some _ _ _ c.in_ok-all.was c.all.ensures in
    let b = c.behind.ensures in
    let r = c.active.ensures ∙ (λ i. active_from (b.3 i) a.time (nodes_from (b.2 i) ((b.1 ∙ x.1) i) ((b.0 ∙ x.0) i))) in
    c.from_residual-in_err-active.ensures
    ∙ examine_none a.nodes.now a.count a.time l.last (nodes_from l.i a.count a.nodes.now) l.invariant.0 c.active.result r c.in_err-active.was

pub loop-i-preserved : goal.loop-i-preserved
loop-i-preserved c =
    let l = c.loop-i in
    let a = c.args in
    let k : a.count ≤ 32 = omega (arith, (MatchOption-at_some _ _ _ c.in_ok-all.was c.all.ensures).1, c.in_ok-all.all.few) in
    let w = node_of c.at-node.result in
    let u = tried_formed _ _ c.rest_until.result c.rest_until.ensures _ c.in-Some.is in (
      formed_next a.nodes.now a.count k l.i c.loop-i-test.true w c.at-node.ensures _ l.last l.invariant.0 c.follows.result c.follows.ensures c.if-not-follows.false,
      all_next a.nodes.now a.count k l.i c.loop-i-test.true w c.at-node.ensures (rests a.time) _ l.invariant.1 u.0,
      soonest_next a.nodes.now a.count k l.i c.loop-i-test.true w c.at-node.ensures _ l.soonest l.invariant.2 _ u.1,
      all_next a.nodes.now a.count k l.i c.loop-i-test.true w c.at-node.ensures (not_before a.time) _ l.invariant.3 (rests_heard a.time w u.0),
    )

pub returns : goal.returns
returns c =
    let l = c.loop-i in
    let a = c.args in
    let k : a.count ≤ 32 = omega (arith, (MatchOption-at_some _ _ _ c.in_ok-all.was c.all.ensures).1, c.in_ok-all.all.few) in
    ap (λ (m : Option ℕ). Some (Resting m)) c.moment.ensures
    ∙ examine_rests a.nodes.now a.count a.time (formed_ends a.nodes.now a.count k l.i _ l.last l.invariant.0 c.loop-i-test.false)
    (all_ends a.nodes.now a.count k l.i (rests a.time) _ l.invariant.1 c.loop-i-test.false) l.soonest
    (soonest_ends a.nodes.now a.count k l.i _ l.soonest l.invariant.2 c.loop-i-test.false)
