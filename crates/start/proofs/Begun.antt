-- Start in words: the words of a fresh head are computed, whatever the arguments; the rest is by
-- the laws of start on a head by its parts (Starting).
-- Assumes nothing.
use Prim.Native.Nat.{ℕ, ◌+◌, ◌*◌, ◌%◌, ◌≤◌, ◌<◌}
use mathlib.Core.Path.{◌≡◌, refl, sym, ap, subst, ◌∙◌}
use mathlib.Core.Bool.{Bool}
use mathlib.Core.List.{List}
use native.Mathlib.Omega.{arith}
use native.Mathlib.Numerals.{add-one}
use lib.ListN.{length, get_or, set, replicate}
use Rattle.types.specs.Types.{node}
use Rattle.types.specs.States.{read_state}
use Rattle.types.specs.declared.types.NodeId.{NodeId}
use Rattle.types.specs.declared.refusals.Refusal.{Refusal}
use Rattle.nmt.specs.Nmt as Nmt
use Rattle.nmt.specs.declared.cn_state_machine.CnNmtStateMachine.{CnNmtStateMachine}
use Rattle.counters.specs.Counters.{new_counters}
use Rattle.counters.specs.declared.counters.CnErrorCounters.{CnErrorCounters}
use Rattle.head.specs.declared.state.Dictionary.{Dictionary}
use Rattle.head.specs.Head.{dictionary}
use Rattle.std.specs.declared.result.Result.{Result}
use Rattle.std.specs.declared.option.Option.{Option}
use Rattle.std.specs.declared.result.Result.TheVariants.{Ok, Err}
use Rattle.std.specs.declared.option.Option.TheVariants.{Some, None}
use Rattle.watched.specs.declared.nodes.WatchedNode.{WatchedNode}
use Rattle.watched.specs.Watched.{well_formed, no_node, heard_now, watched_of, Run, run, well_lent, unheard_first}
use Rattle.start.specs.declared.start.Setup.{Setup}
use Rattle.start.specs.Started.{fresh_head, fresh_words, unheard_words, StartedIn, BeginsBy}
use Rattle.watched.proofs.Lists.{each_turn, few}
use Rattle.start.proofs.Starting.{taken_formed}
use Rattle.head.specs.Places as at
use Rattle.head.specs.Words.{head_of}
use Rattle.head.specs.Written.{nmt_written, identity_written, thresholds_written, od_written}
use Rattle.watched.specs.Nodes.{nodes_of}
use Rattle.watched.proofs.Watching.{places, lent_words, heard_written}

-- a setup with another dictionary
abbrev with_od : Setup → Dictionary → Setup
with_od s o =
    record {
      node = s.node;
      feature_flags = s.feature_flags;
      basic_ethernet_timeout = s.basic_ethernet_timeout;
      queue_capacity = s.queue_capacity;
      od = o;
      thresholds = s.thresholds;
    }

-- computed: four cases, by the two objects that may be missing
fresh_read :
    (n : NodeId) (k : ℕ) (s : Setup) (r : ℕ) (x y : Option ℕ) (a b c d : ℕ) →
    head_of (fresh_words n k (with_od s (dictionary r x y a b c d))) ≡ fresh_head (node (n.0 % 256)) (k % 256) (with_od s (dictionary (r % 256) x y a b c d))
unfolding head_of fresh_words read_state
fresh_read n k s r (Some u) (Some v) a b c d = refl
fresh_read n k s r (Some u) None a b c d = refl
fresh_read n k s r None (Some v) a b c d = refl
fresh_read n k s r None None a b c d = refl

fresh_written :
    (n : NodeId) (k : ℕ) (s : Setup) →
    n.0 ≤ 255 → k ≤ 255 → s.od.error_register ≤ 255 →
    head_of (fresh_words n k s) ≡ fresh_head n k s
fresh_written n k s x y z =
    let o = s.od in
    let p : n.0 % 256 ≡ n.0 = omega arith in
    let q : k % 256 ≡ k = omega arith in
    let r : o.error_register % 256 ≡ o.error_register = omega arith in
    fresh_read n k s _ o.cycle_time o.tolerance _ _ _ _
    ∙ (λ i. fresh_head (node (p i)) (q i) (with_od s (dictionary (r i) o.cycle_time o.tolerance o.counter_1 o.counter_2 o.counter_3 o.counter_5)))

-- the writers in their order
pub fresh_is :
    (n : NodeId) (k : ℕ) (s : Setup) (m : CnNmtStateMachine) (es : CnErrorCounters) (w₀ w₁ w₂ w₃ w₄ w₅ : List ℕ) →
    m ≡ Nmt.new_machine n s.feature_flags s.basic_ethernet_timeout →
    es ≡ new_counters s.thresholds →
    w₀ ≡ replicate 60 0 →
    w₁ ≡ nmt_written w₀ m →
    w₂ ≡ identity_written w₁ m →
    w₃ ≡ thresholds_written w₂ es →
    w₄ ≡ od_written w₃ s.od →
    w₅ ≡ set w₄ at.capacity k →
    n.0 ≤ 255 → k ≤ 255 → s.od.error_register ≤ 255 →
    (head_of w₅ ≡ fresh_head n k s) × (w₅ ≡ fresh_words n k s)
unfolding fresh_words
fresh_is n k s m es w₀ w₁ w₂ w₃ w₄ w₅ em ee e₀ e₁ e₂ e₃ e₄ e₅ x y z =
    let new = Nmt.new_machine n s.feature_flags s.basic_ethernet_timeout in
    let a : w₁ ≡ nmt_written (replicate 60 0) new = e₁ ∙ (λ i. nmt_written (e₀ i) (em i)) in
    let b : w₂ ≡ identity_written (nmt_written (replicate 60 0) new) new = e₂ ∙ (λ i. identity_written (a i) (em i)) in
    let c = e₃ ∙ (λ i. thresholds_written (b i) (ee i)) in
    let d : w₅ ≡ fresh_words n k s = e₅ ∙ ap (λ (l : List ℕ). set l at.capacity k) (e₄ ∙ ap (λ (l : List ℕ). od_written l s.od) c) in
    (ap head_of d ∙ fresh_written n k s x y z, d)

-- the nodes
pub unheard_begins : (ns : List ℕ) → ns ≡ unheard_words 0 ns
unfolding unheard_words
unheard_begins ns = refl

module _ (ns₀ ns : List ℕ) (i : ℕ) (inside : i < 32) (long : length ns ≡ 96) where
  pub unheard_words_lem : ns ≡ unheard_words i ns₀ → set ns (3 * i + 2) 0 ≡ unheard_words (i + 1) ns₀
  unfolding unheard_words
  unheard_words_lem a = ap (λ (l : List ℕ). set l (3 * i + 2) 0) a ∙ ap (λ (n : ℕ). unheard_words n ns₀) (sym (add-one i))

  pub unheard_nodes : nodes_of ns ≡ unheard_first i (nodes_of ns₀) → nodes_of (set ns (3 * i + 2) 0) ≡ unheard_first (i + 1) (nodes_of ns₀)
  unheard_nodes b =
      heard_written ns long i inside 0
      ∙ each_turn (heard_now 0) (nodes_of ns₀) (nodes_of ns) i no_node (rw (places ns₀) inside) b (heard_now 0 (get_or (nodes_of ns) i no_node)) refl

-- the nodes in words
module _ (ws ns : List ℕ) (k : ℕ) (s : Setup) (formed : Bool) (e : formed ≡ well_formed (watched_of (nodes_of ns) k)) (r : Result (Unit {0}) Refusal) (ws' : List ℕ) (b : BeginsBy ws s formed r ws') where
  abbrev lent_run : Run
  lent_run = run (nodes_of ns) k

  lent : formed ≡ well_lent lent_run
  lent = e ∙ sym (lent_words ns k)

  pub declined : (x : Refusal) → r ≡ Err x → StartedIn ws ns k s (Err x) ws' ns
  declined x g = record { on = (subst (λ (r : Result (Unit {0}) Refusal). BeginsBy ws s formed r ws') g b).on lent_run lent lent_run refl; nodes = refl }

  pub below : r ≡ (Ok tt) → k ≤ 32
  below g = few (nodes_of ns) k formed e (taken_formed s.node s.queue_capacity formed s.thresholds (sym b.answer ∙ g))

  pub begun :
      r ≡ (Ok tt) →
      (ns' : List ℕ) →
      (ns' ≡ unheard_words k ns) × (nodes_of ns' ≡ unheard_first k (nodes_of ns)) →
      StartedIn ws ns k s (Ok tt) ws' ns'
  begun g ns' u =
      record {
        on =
            (subst (λ (r : Result (Unit {0}) Refusal). BeginsBy ws s formed r ws') g b).on lent_run lent (run (nodes_of ns') k)
            (ap (λ (l : List WatchedNode). run l k) u.1);
        nodes = u.0;
      }
