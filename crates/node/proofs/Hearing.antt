-- Heard: on a run in whatever form, over plain variables; then in words, by the law of a time
-- written.
-- Assumes nothing.
use Prim.Native.Nat.{ℕ, ◌≤◌, ◌<◌, ◌+◌, ◌*◌}
use mathlib.Core.Path.{◌≡◌, refl, sym, ap, subst, ◌∙◌}
use mathlib.Core.Bool.{Bool, true, false}
use native.Mathlib.Omega.{arith}
use lib.Dec.{ltb}
use borrow.Author.Tests.{ltb-true}
use Rattle.types.specs.Pick.{pick}
use Rattle.types.specs.Refusals.{refusal_number}
use mathlib.Core.List.{List}
use lib.ListN.{length, set}
use Rattle.types.specs.declared.refusals.Refusal.{Refusal}
use Rattle.types.specs.declared.refusals.Refusal.TheVariants.{WatchedNodes, TimeLimit, NotWatched}
use Rattle.std.specs.declared.result.Result.{Result}
use Rattle.std.specs.Bool.{then_some}
use Rattle.std.specs.declared.option.Option.{Option}
use Rattle.std.specs.declared.option.Option.TheVariants.{Some, None}
use Rattle.std.specs.declared.result.Result.TheVariants.{Ok, Err}
use Rattle.head.specs.Written.{earliest_written}
use Rattle.watched.specs.declared.nodes.WatchedNode.{WatchedNode}
use Rattle.watched.specs.Watched.{in_time, well_formed, no_node, is_watched, heard_at, place_of, watched_of, Run, run, watching, well_lent, changing}
use Rattle.node.specs.Plain.{Plain, heard}
use Rattle.node.specs.Steps.{declines, leaves, earliest}
use Rattle.node.specs.Run.{step}
use Rattle.watched.proofs.Lists.{watched_by, heard_stored, heard_nodes, few}
use Rattle.watched.specs.Nodes.{never, nodes_of, soonest, moment_of}
use Rattle.watched.proofs.Watching.{places, lent_words, heard_written}
use Rattle.node.specs.Heard.{heard_answer, HeardOn, Heard}
use Rattle.node.proofs.Moments.{moment_of_lem, all_fit, heard_fits}
use Rattle.node.proofs.OnRuns.{run_declined, run_taken}

-- what was found of the nodes: whether they are well formed, and then whether a node is among them
module _ (a : Option Bool) (f w : Bool) (e : a ≡ then_some f w) where
  pub found_none : a ≡ None → f ≡ false
  found_none h = by f (sym h ∙ e)
    where
      by : (f : Bool) → None ≡ then_some f w → f ≡ false
      by true x = cc
      by false x = refl

  pub found_some : (x : Bool) → a ≡ Some x → (f ≡ true) × (w ≡ x)
  found_some y h = by f (sym h ∙ e)
    where
      by : (f : Bool) → Some y ≡ then_some f w → (f ≡ true) × (w ≡ y)
      by true x = (refl, cc)
      by false x = (cc, cc)

-- heard, by what its tests say, on a run in whatever form
module _ (ws : List ℕ) (r : Run) (n t : ℕ) (f w : Bool) (e : f ≡ well_lent r) (d : w ≡ is_watched n (watching r)) where
  abbrev by_tests : Bool → Bool → Bool → Result (Unit {0}) Refusal
  by_tests f b w = pick f (pick b (pick w (Ok tt) (Err NotWatched)) (Err TimeLimit)) (Err WatchedNodes)

  pub heard_declined : (x : Refusal) → Err x ≡ heard_answer f t w → HeardOn ws r n t (Err x) ws r
  heard_declined x = by f (in_time t) w (sym e) refl (sym d)
    where
      gives : (y : Refusal) → ((p : Plain) → step p (heard n t r) ≡ declines p r (refusal_number y)) → ◌≡◌ {A = Result (Unit {0}) Refusal} (Err x) (Err y) → HeardOn ws r n t (Err x) ws r
      gives y s g = subst (λ (a : Result (Unit {0}) Refusal). HeardOn ws r n t a ws r) (sym g) (run_declined ws (heard n t r) r y s)

      by :
          (f b w : Bool) → well_lent r ≡ f → in_time t ≡ b → is_watched n (watching r) ≡ w → Err x ≡ by_tests f b w →
          HeardOn ws r n t (Err x) ws r
      by true true true a b d g = absurd (let z : ◌≡◌ {A = ℕ} 0 1 = cc in let x : ⊥ = omega arith in x)
      by true true false a b d g = gives NotWatched (λ p. rw (a, b, d)) g
      by true false w a b d g = gives TimeLimit (λ p. rw (a, b)) g
      by false c w a b d g = gives WatchedNodes (λ p. rw a) g

  pub taken_passed : (Ok tt) ≡ heard_answer f t w → (f ≡ true) × (in_time t ≡ true) × (w ≡ true)
  taken_passed = by f (in_time t) w
    where
      by : (f b w : Bool) → (Ok tt) ≡ by_tests f b w → (f ≡ true) × (b ≡ true) × (w ≡ true)
      by true true true e = (refl, refl, refl)
      by true true false e = absurd (let z : ◌≡◌ {A = ℕ} 0 1 = cc in let x : ⊥ = omega arith in x)
      by true false w e = absurd (let z : ◌≡◌ {A = ℕ} 0 1 = cc in let x : ⊥ = omega arith in x)
      by false b w e = absurd (let z : ◌≡◌ {A = ℕ} 0 1 = cc in let x : ⊥ = omega arith in x)

  pub heard_taken :
      (Ok tt) ≡ heard_answer f t w → length ws ≡ 60 → (r' : Run) → r' ≡ changing (heard_at n t) r → (m : Option ℕ) → m ≡ earliest (watching r') →
      (ws' : List ℕ) → ws' ≡ earliest_written ws m → HeardOn ws r n t (Ok tt) ws' r'
  heard_taken g long r' s m z ws' u =
      let x = taken_passed g in
      let a : well_lent r ≡ true = sym e ∙ x.0 in
      let c : is_watched n (watching r) ≡ true = sym d ∙ x.2 in
      run_taken ws (heard n t r) r' long (λ p. rw (a, x.1, c) (ap (leaves p) (sym s))) m z ws' u

-- in words
module _ (ws ns : List ℕ) (k n t : ℕ) where
  abbrev vs : List WatchedNode
  vs = watched_of (nodes_of ns) k

  abbrev lent_run : Run
  lent_run = run (nodes_of ns) k

  abbrev Left : Result (Unit {0}) Refusal → List ℕ → List ℕ → Type 0
  Left a ws' ns' = Heard ws ns k n t a ws' ns'

  module _ (a : well_formed vs ≡ true) (p : ℕ) (e : p ≡ place_of n vs) (w : Bool) (z : w ≡ ltb p k) (r : Result (Unit {0}) Refusal) (x : r ≡ heard_answer true t w) where
    below : k ≤ 32
    below = few (nodes_of ns) k true (sym a) refl

    lent : true ≡ well_lent lent_run
    lent = sym (lent_words ns k ∙ a)

    among : w ≡ is_watched n vs
    among = z ∙ watched_by (nodes_of ns) k (places ns) below n p e

    pub inside : r ≡ (Ok tt) → p < k
    inside g = ltb-true p k (sym z ∙ (taken_passed ws lent_run n t true w lent among (sym g ∙ x)).2)

    pub declined : (y : Refusal) → r ≡ Err y → Left (Err y) ws ns
    declined y g = record { on = heard_declined ws lent_run n t true w lent among y (sym g ∙ x); nodes = refl }

    pub there :
        r ≡ (Ok tt) → length ws ≡ 60 → length ns ≡ 96 → (ns' : List ℕ) → ns' ≡ set ns (3 * p + 2) t →
        (m : Option ℕ) → m ≡ moment_of (soonest never (heard_at n t vs)) →
        (ws' : List ℕ) → ws' ≡ earliest_written ws m → Left (Ok tt) ws' ns'
    there g long places-long ns' s m y ws' o =
        let c = inside g in
        let i : in_time t ≡ true = (taken_passed ws lent_run n t true w lent among (sym g ∙ x)).1 in
        let stored = ap nodes_of s ∙ heard_written ns places-long p (omega (arith, c, below)) t ∙ heard_stored (nodes_of ns) k (places ns) below n t p e no_node c in
        let left : watched_of (nodes_of ns') k ≡ heard_at n t vs =
        ap (λ (l : List WatchedNode). watched_of l k) stored ∙ heard_nodes (nodes_of ns) k (places ns) below n t in
        let moment : m ≡ earliest (watched_of (nodes_of ns') k) =
        y ∙ moment_of_lem (heard_at n t vs) (heard_fits n t vs i (all_fit vs a)) ∙ ap earliest (sym left) in
        record {
          on =
              heard_taken ws lent_run n t true w lent among (sym g ∙ x) long (run (nodes_of ns') k) (ap (λ (l : List WatchedNode). run l k) stored)
              m moment ws' o;
          nodes = s ∙ ap (λ (p : ℕ). set ns (3 * p + 2) t) e;
        }
