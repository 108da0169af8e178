-- `watched::nodes::find` meets its contract: one walk up to the node sought, then that node and those behind it.
-- Assumes nothing.
use Prim.Native.Nat.{◌≤◌}
use mathlib.Core.Path.{◌≡◌, sym, ◌∙◌}
use mathlib.Core.Bool.{true}
use native.Mathlib.Omega.{arith}
use Rattle.types.specs.Pick.{all_of}
use Rattle.watched.specs.Watched.{in_time}
use Rattle.std.proofs.lemmas.Option.{MatchOption-at_none, MatchOption-at_some}
use Rattle.watched.specs.Nodes.{well_ordered, numbered, never}
use Rattle.watched.specs.Scan.{sum_of, scanned, scan_of, heard_scanned, nodes_from}
use Rattle.watched.proofs.Watching.{by_test, many, find_unformed}
use Rattle.watched.proofs.Walk.{seek_late, seek_unformed, seek_comes_after, seek_unnumbered, seek_found}
use Rattle.watched.proofs.nodes.find.Goals as goal

pub returns-in_err-all : goal.returns-in_err-all
returns-in_err-all c =
    let a = c.args in
    c.from_residual.ensures
    ∙ find_unformed a.nodes.now a.count a.node a.time (many a.nodes.now a.count (MatchOption-at_none _ _ c.in_err-all.was c.all.ensures))

pub returns-then-not-in_time : goal.returns-then-not-in_time
returns-then-not-in_time c =
    let a = c.args in
    let x = MatchOption-at_some _ _ _ c.in_ok-all.was c.all.ensures in
    let k : a.count ≤ 32 = omega (arith, x.1, c.in_ok-all.all.few) in
    let r = c.scan-front.result in
    let f = c.scan-front.ensures ∙ (λ i. scan_of a.node (scanned (x.2 i) (x.3 i) 0 never) (nodes_from (x.2 i) (x.1 i) (x.0 i))) in
    seek_late a.nodes.now a.count k a.node a.time r f (sym c.in_time.ensures ∙ c.if-not-in_time.true)

pub returns-in_err-soonest : goal.returns-in_err-soonest
returns-in_err-soonest c =
    let a = c.args in
    let x = MatchOption-at_some _ _ _ c.in_ok-all.was c.all.ensures in
    let k : a.count ≤ 32 = omega (arith, x.1, c.in_ok-all.all.few) in
    let r = c.scan-front.result in
    let f = c.scan-front.ensures ∙ (λ i. scan_of a.node (scanned (x.2 i) (x.3 i) 0 never) (nodes_from (x.2 i) (x.1 i) (x.0 i))) in
    let t : in_time r.times ≡ true = sym c.in_time.ensures ∙ c.if-not-in_time.false in
    let s : c.saturating_add.result ≡ sum_of r.soonest 3 = omega (arith, c.saturating_add.ensures) in
    let b = c.behind-rest.ensures in
    let h = c.hear_first.ensures ∙ (λ i. heard_scanned (b.3 i) c.saturating_add.result a.time (nodes_from (b.2 i) ((b.1 ∙ x.1) i) ((b.0 ∙ x.0) i))) in
    c.from_residual-in_err-soonest.ensures ∙ seek_unformed a.nodes.now a.count k a.node a.time r f c.saturating_add.result s c.hear_first.result h c.in_err-soonest.was

pub have_numbers-requires : goal.have_numbers-requires
have_numbers-requires c =
    let a = c.args in
    let x = MatchOption-at_some _ _ _ c.in_ok-all.was c.all.ensures in
    let k : a.count ≤ 32 = omega (arith, x.1, c.in_ok-all.all.few) in
    let r = c.scan-front.result in
    let f = c.scan-front.ensures ∙ (λ i. scan_of a.node (scanned (x.2 i) (x.3 i) 0 never) (nodes_from (x.2 i) (x.1 i) (x.0 i))) in
    let t : in_time r.times ≡ true = sym c.in_time.ensures ∙ c.if-not-in_time.false in
    let s : c.saturating_add.result ≡ sum_of r.soonest 3 = omega (arith, c.saturating_add.ensures) in
    let b = c.behind-rest.ensures in
    let h = c.hear_first.ensures ∙ (λ i. heard_scanned (b.3 i) c.saturating_add.result a.time (nodes_from (b.2 i) ((b.1 ∙ x.1) i) ((b.0 ∙ x.0) i))) in
    (λ i. well_ordered (x.3 i) (nodes_from (x.2 i) (x.1 i) (x.0 i))) ∙ seek_comes_after a.nodes.now a.count k a.node a.time r f c.saturating_add.result s c.hear_first.result h t _ c.in_ok-soonest.was

pub returns : goal.returns
returns c =
    let a = c.args in
    let x = MatchOption-at_some _ _ _ c.in_ok-all.was c.all.ensures in
    let k : a.count ≤ 32 = omega (arith, x.1, c.in_ok-all.all.few) in
    let r = c.scan-front.result in
    let f = c.scan-front.ensures ∙ (λ i. scan_of a.node (scanned (x.2 i) (x.3 i) 0 never) (nodes_from (x.2 i) (x.1 i) (x.0 i))) in
    let t : in_time r.times ≡ true = sym c.in_time.ensures ∙ c.if-not-in_time.false in
    let s : c.saturating_add.result ≡ sum_of r.soonest 3 = omega (arith, c.saturating_add.ensures) in
    let b = c.behind-rest.ensures in
    let h = c.hear_first.ensures ∙ (λ i. heard_scanned (b.3 i) c.saturating_add.result a.time (nodes_from (b.2 i) ((b.1 ∙ x.1) i) ((b.0 ∙ x.0) i))) in
    let n = c.have_numbers.ensures ∙ (λ i. all_of numbered (nodes_from (x.2 i) (x.1 i) (x.0 i))) in
    c.then_some.ensures
    ∙ by_test c.have_numbers.result _ _
    (λ w. seek_found a.nodes.now a.count k a.node a.time r f c.saturating_add.result s c.hear_first.result h t _ c.in_ok-soonest.was (sym n ∙ w))
    (λ w. seek_unnumbered a.nodes.now a.count k a.node a.time r f c.saturating_add.result s c.hear_first.result h t _ c.in_ok-soonest.was (sym n ∙ w))
