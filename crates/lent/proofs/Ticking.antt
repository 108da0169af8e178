-- The tick that is lent a run, by what was found of it, over plain variables: its refusals, and what
-- it leaves, by the laws that the form in words uses too.
-- Assumes nothing.
use Prim.Native.Nat.{ℕ, ◌≤◌}
use mathlib.Core.Path.{◌≡◌, refl, sym, ap, ap₂, ◌∙◌}
use mathlib.Core.Bool.{Bool, true, false}
use mathlib.Core.List.{List, map}
use lib.ListN.{length, take}
use Rattle.types.specs.Pick.{pick, both, all_of}
use Rattle.types.proofs.Tests.{both_first, both_second}
use Rattle.types.specs.declared.refusals.Refusal.{Refusal}
use Rattle.types.specs.declared.refusals.Refusal.TheVariants.{WatchedNodes, TimeLimit, BeforeHeard}
use Rattle.types.specs.declared.nmt.states.NmtState.{NmtState}
use Rattle.types.specs.declared.frame.error.types.DllErrors.{DllErrors}
use Rattle.std.specs.declared.option.Option.{Option}
use Rattle.std.specs.declared.option.Option.TheVariants.{Some, None}
use Rattle.std.specs.declared.result.Result.{Result}
use Rattle.std.specs.declared.result.Result.TheVariants.{Ok, Err}
use Rattle.head.specs.Words.{nmt_of, head_of}
use Rattle.head.specs.Written.{earliest_written}
use Rattle.watched.specs.declared.nodes.WatchedNode.{WatchedNode}
use Rattle.watched.specs.Watched.{in_time, watched_of, Run, run, watching, well_lent, changing, first}
use Rattle.watched.specs.Nodes.{rests, not_before, never, soonest, moment_of}
use Rattle.watched.proofs.Lists.{each_nodes, whole}
use Rattle.watched.proofs.Watching.{tried_unformed, tried_formed, lent_inside}
use Rattle.node.specs.Steps.{earliest}
use Rattle.node.specs.Heartbeats.{checks_heartbeats, refreshed}
use Rattle.node.specs.Tick.{tick_taken}
use Rattle.node.specs.Refines.{plain}
use Rattle.node.proofs.Moments.{moment_of_lem, all_fit}
use Rattle.phases.specs.declared.PhaseOutcome.{PhaseOutcome}
use Rattle.phases.specs.PartsIn.{TicksIn}
use Rattle.heartbeats.proofs.LateWalk.{all_refreshed_fit}
use Rattle.tick.specs.TickWords.{tick_words}
use Rattle.tick.specs.TickIn.{is_still, TickedOn, StillTicks}
use Rattle.tick.proofs.Tickings.{run_unformed, run_late, run_before, run_accepted, still_on}
use Rattle.lent.specs.Runs.{found_in, rest_in, still_in, active_in}
use Rattle.lent.proofs.Walks.{nowhere}
use Rattle.lent.proofs.Found.{unlent, found, formed, long, below, rises}

-- whether no node asks for anything, by the two walks
module _ (t k : ℕ) (vs : List WatchedNode) where
  pub still_checked : (c : Bool) → c ≡ true → (o : Option ℕ) → o ≡ rest_in t (run vs k) → o ≡ still_in c t (run vs k)
  still_checked c e o f = f ∙ ap (λ (c : Bool). still_in c t (run vs k)) (sym e)

  abbrev unchecked : Bool → ℕ → Option ℕ
  unchecked b s = pick (both b true) (Some s) None

  pub still_none : (c : Bool) → c ≡ false → (o : Option (ℕ × ℕ)) → o ≡ found_in 0 0 (run vs k) → o ≡ None → None ≡ still_in c t (run vs k)
  still_none c e o f h =
      sym (ap (λ (c : Bool). still_in c t (run vs k)) e ∙ ap (λ (b : Bool). unchecked b (soonest never (watched_of vs k))) (unlent 0 0 k vs o f h))

  pub still_some : (c : Bool) → c ≡ false → (o : Option (ℕ × ℕ)) → o ≡ found_in 0 0 (run vs k) → (p s : ℕ) → o ≡ Some (p, s) → Some s ≡ still_in c t (run vs k)
  still_some c e o f p s h =
      let x = found 0 0 k vs o f p s h in
      sym (ap (λ (c : Bool). still_in c t (run vs k)) e
      ∙ ap₂ unchecked x.0 (ap (soonest never) (sym (nowhere 0 (watched_of vs k) (rises vs k x.0))) ∙ sym x.2))

-- by what that answers
module _ (ws q m : List ℕ) (vs : List WatchedNode) (k t : ℕ) where
  abbrev R : Run
  R = run vs k

  abbrev C : Bool
  C = checks_heartbeats (nmt_of ws).current_state

  module _ (c : Bool) (s : NmtState) (e : c ≡ checks_heartbeats s) (f : s ≡ (nmt_of ws).current_state) (o : Option ℕ) (g : o ≡ still_in c t R) where
    same : o ≡ still_in C t R
    same = g ∙ ap (λ (c : Bool). still_in c t R) (e ∙ ap checks_heartbeats f)

    pub active : o ≡ None → both (well_lent R) (is_still C t (watching R)) ≡ false
    active = tried_unformed (both (well_lent R) (is_still C t (watching R))) (soonest never (watching R)) o same

    pub quiet :
        (x : ℕ) → o ≡ Some x → (y : Option ℕ) → y ≡ moment_of x → (a : Result DllErrors Refusal) (ws' q' m' : List ℕ) →
        StillTicks ws q m t y a ws' q' m' → TickedOn ws q m R t a ws' q' m' R
    quiet x h y z a ws' q' m' i =
        let u = tried_formed (both (well_lent R) (is_still C t (watching R))) (soonest never (watching R)) o same x h in
        still_on ws q m t y R (both_first (well_lent R) (is_still C t (watching R)) u.0) (both_second (well_lent R) (is_still C t (watching R)) u.0)
        (z ∙ ap moment_of u.1) a ws' q' m' i

  -- where some node asks for something, or the run is not well formed
  module _ (n : both (well_lent R) (is_still C t (watching R)) ≡ false) (o : Option Bool) (sees : o ≡ active_in t R) where
    pub tick_unformed : o ≡ None → TickedOn ws q m R t (Err WatchedNodes) ws q m R
    tick_unformed p = run_unformed ws q m R t (tried_unformed (well_lent R) (all_of (not_before t) (watching R)) o sees p)

    module _ (h : Bool) (p : o ≡ Some h) where
      known : (well_lent R ≡ true) × (h ≡ all_of (not_before t) (watching R))
      known = tried_formed (well_lent R) (all_of (not_before t) (watching R)) o sees h p

      pub well : well_lent R ≡ true
      well = known.0

      pub checked : C ≡ true
      checked = by C (sym (ap (λ (b : Bool). both b (is_still C t (watching R))) well) ∙ n)
        where
          by : (c : Bool) → is_still c t (watching R) ≡ false → c ≡ true
          by true e = refl
          by false e = sym e

      pub inside : k ≤ length vs
      inside = lent_inside R well

      pub tick_late : in_time t ≡ false → TickedOn ws q m R t (Err TimeLimit) ws q m R
      tick_late b = run_late ws q m R t well b

      module _ (b : in_time t ≡ true) where
        heard_is : pick C (all_of (not_before t) (watched_of vs k)) true ≡ h
        heard_is = ap (λ (c : Bool). pick c (all_of (not_before t) (watched_of vs k)) true) checked ∙ sym known.1

        pub tick_before : h ≡ false → TickedOn ws q m R t (Err BeforeHeard) ws q m R
        tick_before z = run_before ws q m R t well b (heard_is ∙ z)

        module _ (vs' : List WatchedNode) (d' : vs' ≡ first (map (refreshed t)) k vs) where
          left : run vs' k ≡ pick C (changing (map (refreshed t)) R) R
          left = ap (λ (l : List WatchedNode). run l k) d' ∙ ap (λ (c : Bool). pick c (changing (map (refreshed t)) R) R) (sym checked)

          watched : watching (run vs' k) ≡ map (refreshed t) (watched_of vs k)
          watched = ap (λ (l : List WatchedNode). watched_of l k) d' ∙ each_nodes vs k (long vs k well) (below vs k well) (refreshed t)

          moment : moment_of (soonest never (map (refreshed t) (take k vs))) ≡ earliest (watching (run vs' k))
          moment =
              ap (λ (l : List WatchedNode). moment_of (soonest never (map (refreshed t) l))) (sym (whole vs k (long vs k well) (below vs k well)))
              ∙ moment_of_lem (map (refreshed t) (watched_of vs k)) (all_refreshed_fit t (watched_of vs k) b (all_fit (watched_of vs k) (formed vs k well)))
              ∙ ap earliest (sym watched)

          pub tick_accepted :
              h ≡ true → (d : PhaseOutcome) (ws₁ q' m' : List ℕ) →
              TicksIn ws q m (tick_taken (plain (head_of ws) q m) t (watching R)) d ws₁ q' m' (tick_words ws q m t (watching R)) →
              length ws₁ ≡ 60 → (s : ℕ) → s ≡ soonest never (map (refreshed t) (take k vs)) → (x : Option ℕ) → x ≡ moment_of s →
              (ws' : List ℕ) → ws' ≡ earliest_written ws₁ x →
              TickedOn ws q m R t (Ok d.logged) ws' q' m' (run vs' k)
          tick_accepted z d ws₁ q' m' w many s e x y ws' v =
              run_accepted ws q m R t well b (heard_is ∙ z) d ws₁ q' m' w many _ left x (y ∙ ap moment_of e ∙ moment) ws' v
