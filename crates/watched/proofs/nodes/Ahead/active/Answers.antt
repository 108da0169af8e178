-- `watched::nodes::Ahead::active` meets its contract.
-- Assumes nothing.
use mathlib.Core.Path.{sym, ap, ◌∙◌}
use Rattle.types.specs.Pick.{both}
use Rattle.watched.specs.Nodes.{node_of, not_before}
use Rattle.watched.specs.Scan.{nodes_from}
use Rattle.watched.proofs.Watching.{by_test}
use Rattle.watched.proofs.ScanLaws.{well_ordered_stops, well_ordered_next, well_ordered_ends, heard_all_next, heard_all_ends, not_well_ordered, not_numbered, is_rising, active_not, active_all}
use Rattle.watched.proofs.nodes.Ahead.active.Goals.{then-heard, else-heard}
use Rattle.watched.proofs.nodes.Ahead.active.Goals as goal

pub returns-then-not-comes_after : goal.returns-then-not-comes_after
returns-then-not-comes_after c =
    let l = c.loop-i in
    let s = c.args.self in
    let ws = nodes_from s.place s.count s.nodes.now in
    active_not s.last ws c.args.time (not_well_ordered s.last ws
    (well_ordered_stops s.nodes.now s.count s.few l.i l.above _ l.invariant.0 c.loop-i-test.true (node_of c.at-node.result) c.at-node.ensures c.comes_after.result c.comes_after.ensures c.if-not-comes_after.true))

pub loop-i-preserved : goal.loop-i-preserved
loop-i-preserved c =
    let l = c.loop-i in
    let s = c.args.self in (
      well_ordered_next s.nodes.now s.count s.few l.i l.above _ l.invariant.0 c.loop-i-test.true (node_of c.at-node.result) c.at-node.ensures c.comes_after.result c.comes_after.ensures c.if-not-comes_after.false,
      heard_all_next s.nodes.now s.count s.few l.i c.args.time _ l.heard l.invariant.1 c.loop-i-test.true (node_of c.at-node.result) c.at-node.ensures c.if-heard.heard
          (elim c.if-heard.branch [
            | then-heard w ↦ w.heard-is ∙ w.heard_by-heard.ensures ∙ sym (ap (λ b. both b (not_before c.args.time (node_of c.at-node.result))) w.if-heard.true)
            | else-heard w ↦ w.heard-is ∙ w.if-heard.false ∙ sym (ap (λ b. both b (not_before c.args.time (node_of c.at-node.result))) w.if-heard.false)
          ]),
    )

pub returns : goal.returns
returns c =
    let l = c.loop-i in
    let s = c.args.self in
    let ws = nodes_from s.place s.count s.nodes.now in
    let up = well_ordered_ends s.nodes.now s.count s.few l.i l.above _ l.invariant.0 c.loop-i-test.false in
    c.then_some.ensures
    ∙ by_test c.have_numbers.result _ _
    (λ h. active_all s.last ws c.args.time l.heard (heard_all_ends s.nodes.now s.count s.few l.i c.args.time _ l.heard l.invariant.1 c.loop-i-test.false)
    (is_rising s.last ws up (sym c.have_numbers.ensures ∙ h)))
    (λ h. active_not s.last ws c.args.time (not_numbered s.last ws up (sym c.have_numbers.ensures ∙ h)))
