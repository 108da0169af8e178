-- `heartbeats::heartbeats::refresh_all` meets its contract.
-- Assumes nothing.
use Rattle.std.proofs.Common.{◌≡◌, ◌<◌, ℕ, refl, sym, ap, ◌∙◌, arith, length, length-set}
use Prim.Native.Nat.{min}
use Rattle.watched.specs.Scan.{sum_of, three_before}
use Rattle.watched.specs.Watched.{heard_now}
use Rattle.watched.specs.Nodes.{node_of, nodes_of, moment_of}
use Rattle.watched.proofs.Watching.{few}
use Rattle.heartbeats.specs.Words.{refreshed_first, refreshed_words}
use Rattle.heartbeats.proofs.LateWalk.{refresh_begin, refresh_words_lem, refresh_nodes, refresh_sooner, sooner_begins, sooner_joined, sooner_ends}
use Rattle.heartbeats.proofs.heartbeats.refresh_all.Goals as goal

pub loop-i-init : goal.loop-i-init
loop-i-init c =
    let a = c.args in
    (refresh_begin a.time a.nodes.now, refl, sooner_begins a.time a.nodes.now a.count c.requires, few a.nodes.now a.count c.requires)

pub loop-i-preserved : goal.loop-i-preserved
loop-i-preserved c =
    let l = c.loop-i in
    let a = c.args in
    let h : l.i < 32 = omega (arith, c.loop-i-test.true, l.invariant.3) in
    let w = node_of c.at-node.result in
    let long : length l.nodes ≡ 96 = sym (length-set l.nodes _ _) ∙ sym (ap length c.set_heard.ensures) ∙ c.set_heard.array_long in
    let e : c.min-early.result ≡ min l.early (three_before (heard_now c.refreshed.result w)) = c.min-early.ensures ∙ ap (min l.early) c.three_before.ensures in (
      c.set_heard.ensures ∙ refresh_words_lem a.time a.nodes.now l.nodes l.i h long w c.at-node.ensures c.refreshed.result c.refreshed.ensures l.invariant.0,
      ap nodes_of c.set_heard.ensures ∙ refresh_nodes a.time a.nodes.now l.nodes l.i h long w c.at-node.ensures c.refreshed.result c.refreshed.ensures l.invariant.1,
      refresh_sooner a.time a.nodes.now l.nodes a.count l.i c.requires c.loop-i-test.true l.invariant.1 w c.at-node.ensures c.refreshed.result c.refreshed.ensures
          _ (sum_of l.early 3) l.invariant.2 (sum_of c.min-early.result 3)
          (ap (λ (n : ℕ). sum_of n 3) e ∙ sym (sooner_joined l.early (heard_now c.refreshed.result w))),
      l.invariant.3,
    )

pub returns : goal.returns
returns c =
    let l = c.loop-i in
    let a = c.args in
    let s : c.saturating_add.result ≡ sum_of l.early 3 = omega (arith, c.saturating_add.ensures) in
    let e : l.i ≡ a.count = omega arith in (
      l.invariant.0 ∙ ap (λ (k : ℕ). refreshed_words a.time k a.nodes.now) e,
      l.invariant.1 ∙ ap (λ (k : ℕ). refreshed_first a.time k (nodes_of a.nodes.now)) e,
      c.moment.ensures ∙ ap moment_of (s ∙ sooner_ends a.time a.nodes.now a.count c.requires l.i _ (sum_of l.early 3) l.invariant.2 c.loop-i-test.false),
    )
