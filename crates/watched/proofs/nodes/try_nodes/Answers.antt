-- `watched::nodes::try_nodes` meets its contract: how many; then all nodes climb, and have numbers.
-- Assumes nothing.
use Prim.Native.Nat.{◌≤◌}
use mathlib.Core.Path.{sym, ap, ◌∙◌}
use native.Mathlib.Omega.{arith}
use Rattle.types.specs.Pick.{all_of}
use Rattle.std.specs.declared.option.Option.TheVariants.{Some}
use Rattle.std.proofs.lemmas.Option.{MatchOption-at_none, MatchOption-at_some}
use Rattle.watched.specs.Nodes.{numbered, never}
use Rattle.watched.specs.Scan.{scanned_of, nodes_from}
use Rattle.watched.proofs.Watching.{by_test, many, tried_unformed, tried_formed, formed_begins, soonest_begins, nodes_unformed, nodes_formed}
use Rattle.watched.proofs.ScanLaws.{not_well_ordered, not_numbered, is_rising}
use Rattle.watched.proofs.nodes.try_nodes.Goals as goal

pub returns-in_err-all : goal.returns-in_err-all
returns-in_err-all c =
    let a = c.args in
    c.from_residual.ensures ∙ nodes_unformed a.nodes.now a.count (many a.nodes.now a.count (MatchOption-at_none _ _ c.in_err-all.was c.all.ensures))

pub returns-in_err-soonest : goal.returns-in_err-soonest
returns-in_err-soonest c =
    let a = c.args in
    let x = MatchOption-at_some _ _ _ c.in_ok-all.was c.all.ensures in
    let k : a.count ≤ 32 = omega (arith, x.1, c.in_ok-all.all.few) in
    let s = c.scan_from.ensures ∙ (λ i. scanned_of (x.3 i) never (nodes_from (x.2 i) (x.1 i) (x.0 i))) in
    c.from_residual-in_err-soonest.ensures
    ∙ nodes_unformed a.nodes.now a.count
    (formed_begins a.nodes.now a.count k
    ∙ not_well_ordered 0 (nodes_from 0 a.count a.nodes.now) (tried_unformed _ _ c.scan_from.result s c.in_err-soonest.was))

pub returns : goal.returns
returns c =
    let a = c.args in
    let x = MatchOption-at_some _ _ _ c.in_ok-all.was c.all.ensures in
    let k : a.count ≤ 32 = omega (arith, x.1, c.in_ok-all.all.few) in
    let s = c.scan_from.ensures ∙ (λ i. scanned_of (x.3 i) never (nodes_from (x.2 i) (x.1 i) (x.0 i))) in
    let ws = nodes_from 0 a.count a.nodes.now in
    let n = c.have_numbers.ensures ∙ (λ i. all_of numbered (nodes_from (x.2 i) (x.1 i) (x.0 i))) in
    let y = tried_formed _ _ c.scan_from.result s _ c.in_ok-soonest.was in
    c.then_some.ensures
    ∙ by_test c.have_numbers.result _ _
    (λ h. ap Some c.moment.ensures
    ∙ nodes_formed a.nodes.now a.count (formed_begins a.nodes.now a.count k ∙ is_rising 0 ws y.0 (sym n ∙ h)) _ (soonest_begins a.nodes.now a.count k ∙ sym y.1))
    (λ h. nodes_unformed a.nodes.now a.count (formed_begins a.nodes.now a.count k ∙ not_numbered 0 ws y.0 (sym n ∙ h)))
