-- The tick in words: its phases together, its refusals, and its contract. What it makes of the head
-- is by the laws on a head by its parts; the words are beside it.
-- Assumes nothing.
use Prim.Native.Nat.{ℕ, ◌≤◌}
use mathlib.Core.Path.{◌≡◌, refl, sym, ap, ap₂, subst, ◌∙◌}
use mathlib.Core.Bool.{Bool, true, false, true≢false}
use mathlib.Core.List.{List, map}
use lib.Dec.{eqb}
use lib.ListN.{length}
use Rattle.types.specs.Pick.{pick, all_of}
use Rattle.types.specs.Errors.{reported}
use Rattle.types.proofs.Tests.{both_second}
use Rattle.std.specs.declared.result.Result.{Result}
use Rattle.std.specs.Option.{ok_or}
use Rattle.std.specs.declared.option.Option.{Option}
use Rattle.std.specs.declared.option.Option.TheVariants.{Some, None}
use Rattle.std.specs.declared.result.Result.TheVariants.{Ok, Err}
use Rattle.types.specs.declared.frame.error.types.DllErrors.{DllErrors}
use Rattle.types.specs.declared.refusals.Refusal.{Refusal}
use Rattle.head.specs.Head.{Head, head_with_earliest}
use Rattle.head.specs.Written.{earliest_written}
use Rattle.head.proofs.Laws.{earliest_written_lem}
use Rattle.node.specs.Plain.{Plain, Call, tick_answer, Step}
use Rattle.node.specs.Steps.{with_earliest, no_run, declines, earliest}
use Rattle.node.specs.Run.{step}
use Rattle.node.proofs.Moments.{moment_of_lem, all_fit}
use Rattle.types.specs.declared.refusals.Refusal.TheVariants.{WatchedNodes, TimeLimit, BeforeHeard}
use Rattle.watched.specs.declared.nodes.WatchedNode.{WatchedNode}
use Rattle.watched.specs.Watched.{in_time, well_formed, watched_of, Run, run, watching, well_lent, changing}
use Rattle.node.specs.Phases.{Ticked, goes_on, behind}
use Rattle.node.specs.Heartbeats.{checks_heartbeats, refreshed, late_ones, on_late_all, refreshed_at}
use Rattle.node.specs.Deadline.{by_deadline}
use Rattle.node.specs.Tick.{tick_taken, tick_answered}
use Rattle.node.specs.Refines.{plain, rings, joins_all}
use Rattle.heartbeats.specs.Words.{refreshed_first, on_late_all_words, refreshed_words}
use Rattle.watched.proofs.Lists.{each_nodes}
use Rattle.tick.proofs.TickRefines.{tick_idle, tick_ended, tick_goes_on, TickLeft, tick_unformed, tick_late, tick_before, tick_accepted}
use Rattle.head.specs.Words.{nmt_of, soc_of, head_of}
use Rattle.watched.specs.Nodes.{nodes_of, rests, not_before, never, soonest, moment_of}
use Rattle.types.specs.declared.nmt.states.NmtState.{NmtState}
use Rattle.watched.specs.declared.nodes.Seen.{Seen}
use Rattle.watched.specs.declared.nodes.Seen.TheVariants as seen
use Rattle.watched.proofs.Watching.{places, few, lent_words, lent_inside, seen_unformed, seen_active, seen_resting}
use Rattle.phases.specs.declared.PhaseOutcome.{PhaseOutcome}
use Rattle.tick.specs.TickWords.{rest_words, tick_words}
use Rattle.phases.specs.PartsIn.{outcome_of, TicksIn}
use Rattle.node.specs.InPlace.{unless_refused}
use Rattle.tick.specs.TickIn.{is_still, active_of, TickedOn, TickedIn, still_answered, still_step, StillTicks}
use Rattle.heartbeats.proofs.LateWalk.{all_refreshed_fit, rest_before, rest_late, rest_words_lem, rest_run}

-- what a first look that saw something says, and one that saw nothing
module _ (a : Option Seen) (y : Result Seen Refusal) (e : y ≡ ok_or a WatchedNodes) where
  pub told : (x : Seen) → y ≡ Ok x → a ≡ Some x
  told x h = by a (sym h ∙ e)
    where
      by : (a : Option Seen) → Ok x ≡ ok_or a WatchedNodes → a ≡ Some x
      by (Some z) f = cc
      by None f = cc

  pub untold : (r : Refusal) → y ≡ Err r → (a ≡ None) × (r ≡ WatchedNodes)
  untold r h = by a (sym h ∙ e)
    where
      by : (a : Option Seen) → Err r ≡ ok_or a WatchedNodes → (a ≡ None) × (r ≡ WatchedNodes)
      by (Some z) f = (cc, cc)
      by None f = (refl, cc)

-- the phases
module _ (ws q m : List ℕ) (t : ℕ) (vs : List WatchedNode) where
  abbrev C : Bool
  C = checks_heartbeats (nmt_of ws).current_state

  abbrev R : Bool
  R = all_of (rests t) vs

  abbrev B : List ℕ
  B = on_late_all_words ws (late_ones t vs)

  abbrev count_late : Bool → List ℕ
  count_late ended = pick ended B (rest_words B q m t)

  abbrev over : Bool
  over = (on_late_all (plain (head_of ws) q m) (late_ones t vs)).ended

  by_state_lem : (b : Bool) → C ≡ b → tick_words ws q m t vs ≡ pick b (count_late over) (rest_words ws q m t)
  unfolding tick_words
  by_state_lem b e = ap (λ (b : Bool). pick b (count_late over) (rest_words ws q m t)) e

  pub idle :
      C ≡ false → (d : PhaseOutcome) (ws' q' m' : List ℕ) →
      TicksIn ws q m (by_deadline (plain (head_of ws) q m) t (soc_of ws).next_tick_us) d ws' q' m' (rest_words ws q m t) →
      TicksIn ws q m (tick_taken (plain (head_of ws) q m) t vs) d ws' q' m' (tick_words ws q m t vs)
  unfolding head_of
  idle e d ws' q' m' w =
      record { ticks = tick_idle (head_of ws) q m t vs e (outcome_of ws' d) q' m' w.ticks; words = w.words ∙ sym (by_state_lem false e) }

  module _ (e : C ≡ true) (d : PhaseOutcome) (ws₁ : List ℕ) (w : TicksIn ws q m (on_late_all (plain (head_of ws) q m) (late_ones t vs)) d ws₁ q m B) where
    goes : (b : Bool) → d.ended ≡ b → tick_words ws q m t vs ≡ count_late b
    goes b y = by_state_lem true e ∙ ap count_late (sym w.ticks.ended ∙ y)

    pub late_errors_end : d.ended ≡ true → TicksIn ws q m (tick_taken (plain (head_of ws) q m) t vs) d ws₁ q m (tick_words ws q m t vs)
    unfolding head_of
    late_errors_end y =
        record { ticks = tick_ended (head_of ws) q m t vs e (outcome_of ws₁ d) w.ticks y; words = w.words ∙ sym (goes true y) }

    pub late_errors_go_on :
        d.ended ≡ false → (r : PhaseOutcome) (ws' q' m' : List ℕ) →
        TicksIn ws₁ q m (by_deadline (plain (head_of ws₁) q m) t (soc_of ws₁).next_tick_us) r ws' q' m' (rest_words ws₁ q m t) →
        TicksIn ws q m (tick_taken (plain (head_of ws) q m) t vs) r ws' q' m' (tick_words ws q m t vs)
    unfolding head_of
    late_errors_go_on y r ws' q' m' k =
        record {
          ticks = tick_goes_on (head_of ws) q m t vs e (outcome_of ws₁ d) w.ticks y (outcome_of ws' r) q' m' k.ticks;
          words = k.words ∙ ap (λ (l : List ℕ). rest_words l q m t) w.words ∙ sym (goes false y);
        }

  -- no node asks for anything: nothing comes of the heartbeats
  module _ (still : is_still C t vs ≡ true) where
    pub still_taken : tick_taken (plain (head_of ws) q m) t vs ≡ by_deadline (plain (head_of ws) q m) t (soc_of ws).next_tick_us
    unfolding head_of tick_taken on_late_all
    still_taken = by C refl still
      where
        p : Plain
        p = plain (head_of ws) q m

        after : Ticked → Ticked
        after b = pick b.ended b (behind b (by_deadline b.head t b.head.soc.next_tick_us))

        by : (a : Bool) → C ≡ a → pick a R true ≡ true → tick_taken p t vs ≡ by_deadline p t (soc_of ws).next_tick_us
        by false x y = ap (λ (c : Bool). after (pick c (on_late_all p (late_ones t vs)) (goes_on p))) x
        by true x y =
            ap (λ (c : Bool). after (pick c (on_late_all p (late_ones t vs)) (goes_on p))) x
            ∙ ap (λ (l : List WatchedNode). after (on_late_all p l)) (rest_late t vs y)

    pub still_words : tick_words ws q m t vs ≡ rest_words ws q m t
    unfolding on_late_all on_late_all_words
    still_words = by C refl still
      where
        by : (a : Bool) → C ≡ a → pick a R true ≡ true → tick_words ws q m t vs ≡ rest_words ws q m t
        by false x y = by_state_lem false x
        by true x y =
            by_state_lem true x
            ∙ ap
            (λ (l : List WatchedNode).
            pick (on_late_all (plain (head_of ws) q m) l).ended (on_late_all_words ws l) (rest_words (on_late_all_words ws l) q m t))
            (rest_late t vs y)

    -- a choice that is the same where all rest
    still_choice : {A : Type 0} (x y : A) → (R ≡ true → y ≡ x) → y ≡ pick C x y
    still_choice x y h = by C still
      where
        by : (a : Bool) → pick a R true ≡ true → y ≡ pick a x y
        by true z = h z
        by false z = refl

    pub still_times : pick C (all_of (not_before t) vs) true ≡ true
    still_times = sym (still_choice (all_of (not_before t) vs) true (λ r. sym (rest_before t vs r)))

-- the tick: its refusals, and what is taken, whatever form the run has
module _ (ws q m : List ℕ) (r : Run) (t : ℕ) where
  pub run_unformed : well_lent r ≡ false → TickedOn ws q m r t (Err WatchedNodes) ws q m r
  run_unformed a = let x = tick_unformed (head_of ws) q m r t a in record { refines = x.0; rings = x.1; words = refl }

  module _ (a : well_lent r ≡ true) where
    pub run_late : in_time t ≡ false → TickedOn ws q m r t (Err TimeLimit) ws q m r
    run_late b = let x = tick_late (head_of ws) q m r t a b in record { refines = x.0; rings = x.1; words = refl }

    module _ (b : in_time t ≡ true) where
      abbrev checks : Bool
      checks = checks_heartbeats (nmt_of ws).current_state

      pub run_before : pick checks (all_of (not_before t) (watching r)) true ≡ false → TickedOn ws q m r t (Err BeforeHeard) ws q m r
      unfolding head_of
      run_before d = let x = tick_before (head_of ws) q m r t a b d in record { refines = x.0; rings = x.1; words = refl }

      -- from the phases, which left the words ws₁, the run l, and its earliest moment x
      pub run_accepted :
          pick checks (all_of (not_before t) (watching r)) true ≡ true →
          (d : PhaseOutcome) (ws₁ q' m' : List ℕ) →
          TicksIn ws q m (tick_taken (plain (head_of ws) q m) t (watching r)) d ws₁ q' m' (tick_words ws q m t (watching r)) →
          length ws₁ ≡ 60 →
          (l : Run) →
          l ≡ pick checks (changing (map (refreshed t)) r) r →
          (x : Option ℕ) →
          x ≡ earliest (watching l) →
          (ws' : List ℕ) →
          ws' ≡ earliest_written ws₁ x →
          TickedOn ws q m r t (Ok d.logged) ws' q' m' l
      unfolding head_of
      run_accepted f d ws₁ q' m' h long l n x e ws' w =
          let k = tick_accepted (head_of ws) q m r t a b f (outcome_of ws₁ d) q' m' h.ticks l n in
          let g : head_of ws' ≡ head_with_earliest (head_of ws₁) (earliest (watching l)) =
          ap head_of w ∙ earliest_written_lem ws₁ long x ∙ ap (head_with_earliest (head_of ws₁)) e in
          let y = subst (λ (g : Head). TickLeft (head_of ws) q m r t (tick_answer (reported d.logged)) g q' m' l) (sym g) k in
          record { refines = y.0; rings = y.1; words = w ∙ (λ i. earliest_written (h.words i) (e i)) }

-- where no node asks for anything: TimeLimit, or what is taken
module _ (ws q m : List ℕ) (t : ℕ) (s : Option ℕ) where
  abbrev p₁ : Plain
  p₁ = plain (head_of ws) q m

  abbrev K : Ticked
  K = by_deadline p₁ t p₁.soc.next_tick_us

  abbrev chosen : Bool → Step
  chosen b = pick b (still_answered K s) (declines p₁ no_run 5)

  pub still_late : in_time t ≡ false → StillTicks ws q m t s (Err TimeLimit) ws q m
  still_late b =
      let e : still_step p₁ t s ≡ chosen false = ap chosen b in
      record {
        head = sym (ap (λ (k : Step). k.head) e);
        answer = sym (ap (λ (k : Step). k.answer) e);
        rings = sym (ap (λ (k : Step). joins_all (rings (head_of ws) q m) k.crossings) e);
        words = refl;
      }

  pub still_accepted :
      in_time t ≡ true → (d : PhaseOutcome) (ws₁ q' m' : List ℕ) →
      TicksIn ws q m (by_deadline (plain (head_of ws) q m) t (soc_of ws).next_tick_us) d ws₁ q' m' (rest_words ws q m t) →
      length ws₁ ≡ 60 → (ws' : List ℕ) → ws' ≡ earliest_written ws₁ s → StillTicks ws q m t s (Ok d.logged) ws' q' m'
  unfolding head_of
  still_accepted b d ws₁ q' m' k long ws' w =
      let e : still_step p₁ t s ≡ chosen true = ap chosen b in
      let g : head_of ws' ≡ head_with_earliest (head_of ws₁) s = ap head_of w ∙ earliest_written_lem ws₁ long s in
      record {
        head = ap (λ (h : Head). plain h q' m') g ∙ ap (λ (p : Plain). with_earliest p s) k.ticks.head ∙ sym (ap (λ (k : Step). k.head) e);
        answer = ap tick_answer k.ticks.logged ∙ sym (ap (λ (k : Step). k.answer) e);
        rings =
            ap (λ (h : Head). rings h q' m') g ∙ k.ticks.joined
            ∙ sym (ap (λ (k : Step). joins_all (rings (head_of ws) q m) k.crossings) e);
        words = w ∙ ap (λ (l : List ℕ). earliest_written l s) k.words;
      }

  -- on a run of which no node asks for anything, with its moment, it is the tick
  module _ (r : Run) (a : well_lent r ≡ true) (h : is_still (checks_heartbeats (nmt_of ws).current_state) t (watching r) ≡ true) (e : s ≡ moment_of (soonest never (watching r))) where
    abbrev on_run : Step → Step
    on_run k =
        record { head = k.head; answer = k.answer; lent = r; event = k.event; marks = k.marks; checked = k.checked; crossings = k.crossings }

    moment : s ≡ earliest (watching r)
    moment = e ∙ moment_of_lem (watching r) (all_fit (watching r) (both_second (eqb (length r.places) 32) (well_formed (watching r)) a))

    still_run : step p₁ (Call.tick t r) ≡ on_run (still_step p₁ t s)
    unfolding head_of
    still_run = rw (a, still_times ws q m t (watching r) h) (by (in_time t))
      where
        taken : tick_answered (tick_taken p₁ t (watching r)) (refreshed_at p₁ t r) ≡ on_run (still_answered K s)
        taken =
            ap₂ tick_answered (still_taken ws q m t (watching r) h)
            (sym (still_choice ws q m t (watching r) h (changing (map (refreshed t)) r) r (λ z. sym (rest_run t r (lent_inside r a) z))))
            ∙ ap (λ (x : Option ℕ). on_run (still_answered K x)) (sym moment)

        by :
            (b : Bool) →
            pick b (tick_answered (tick_taken p₁ t (watching r)) (refreshed_at p₁ t r)) (declines p₁ r 5) ≡ on_run (chosen b)
        by true = taken
        by false = refl

    pub still_on : (y : Result DllErrors Refusal) (ws' q' m' : List ℕ) → StillTicks ws q m t s y ws' q' m' → TickedOn ws q m r t y ws' q' m' r
    still_on y ws' q' m' k =
        record {
          refines =
              record {
                head = k.head ∙ sym (ap (λ (k : Step). k.head) still_run);
                answer = k.answer ∙ sym (ap (λ (k : Step). k.answer) still_run);
                lent = sym (ap (λ (k : Step). k.lent) still_run);
              };
          rings = k.rings ∙ sym (ap (λ (k : Step). joins_all (rings (head_of ws) q m) k.crossings) still_run);
          words = k.words ∙ (λ i. unless_refused y ws (earliest_written (sym (still_words ws q m t (watching r) h) i) (moment i)));
        }

-- the nodes in words
module _ (ws q m ns : List ℕ) (k t : ℕ) where
  abbrev vs : List WatchedNode
  vs = watched_of (nodes_of ns) k

  abbrev lent_run : Run
  lent_run = run (nodes_of ns) k

  -- what the first look answers
  module _ (c : Bool) (s : NmtState) (e : c ≡ checks_heartbeats s) (f : s ≡ (nmt_of ws).current_state) (a : Option Seen) (g : a ≡ active_of c t vs) where
    same_checks : c ≡ checks_heartbeats (nmt_of ws).current_state
    same_checks = e ∙ ap checks_heartbeats f

    pub unformed : a ≡ None → TickedIn ws q m ns k t (Err WatchedNodes) ws q m ns
    unformed h =
        record {
          on = run_unformed ws q m lent_run t (lent_words ns k ∙ seen_unformed (well_formed vs) (is_still c t vs) (all_of (not_before t) vs) (moment_of (soonest never vs)) a g h);
          nodes = refl;
        }

    pub is_active :
        (y : Bool) → a ≡ Some (seen.Active y) → (well_formed vs ≡ true) × (checks_heartbeats (nmt_of ws).current_state ≡ true) × (y ≡ all_of (not_before t) vs)
    is_active y h =
        let x = seen_active (well_formed vs) (is_still c t vs) (all_of (not_before t) vs) (moment_of (soonest never vs)) a g y h in
        (x.0, sym same_checks ∙ by c x.1, x.2)
      where
        by : (c : Bool) → is_still c t vs ≡ false → c ≡ true
        by true z = refl
        by false z = absurd (true≢false z)

    pub is_still_lem :
        (x : Option ℕ) → a ≡ Some (seen.Resting x) → (z : Result DllErrors Refusal) (ws' q' m' : List ℕ) → StillTicks ws q m t x z ws' q' m' →
        TickedIn ws q m ns k t z ws' q' m' ns
    is_still_lem x h z ws' q' m' y =
        let o = seen_resting (well_formed vs) (is_still c t vs) (all_of (not_before t) vs) (moment_of (soonest never vs)) a g x h in
        let still : is_still (checks_heartbeats (nmt_of ws).current_state) t vs ≡ true =
        ap (λ (c : Bool). is_still c t vs) (sym same_checks) ∙ o.1 in
        record { on = still_on ws q m t x lent_run (lent_words ns k ∙ o.0) still o.2 z ws' q' m' y; nodes = stay z still (few ns k o.0) }
      where
        stay :
            (z : Result DllErrors Refusal) → is_still (checks_heartbeats (nmt_of ws).current_state) t vs ≡ true → k ≤ 32 →
            ns ≡ unless_refused z ns (pick (checks_heartbeats (nmt_of ws).current_state) (refreshed_words t k ns) ns)
        stay (Ok es) still below = still_choice ws q m t vs still (refreshed_words t k ns) ns (λ r. sym (rest_words_lem t ns k below r))
        stay (Err r) still below = refl

  module _ (a : well_formed vs ≡ true) (c : checks_heartbeats (nmt_of ws).current_state ≡ true) where
    lent : well_lent lent_run ≡ true
    lent = lent_words ns k ∙ a

    pub late : in_time t ≡ false → TickedIn ws q m ns k t (Err TimeLimit) ws q m ns
    late b = record { on = run_late ws q m lent_run t lent b; nodes = refl }

    module _ (b : in_time t ≡ true) where
      checked : {A : Type 0} (x y : A) → pick (checks_heartbeats (nmt_of ws).current_state) x y ≡ x
      checked x y = ap (λ (b : Bool). pick b x y) c

      pub before : all_of (not_before t) vs ≡ false → TickedIn ws q m ns k t (Err BeforeHeard) ws q m ns
      before d = record { on = run_before ws q m lent_run t lent b (checked (all_of (not_before t) vs) true ∙ d); nodes = refl }

      pub accepted :
          all_of (not_before t) vs ≡ true →
          (d : PhaseOutcome) (ws₁ q' m' : List ℕ) →
          TicksIn ws q m (tick_taken (plain (head_of ws) q m) t vs) d ws₁ q' m' (tick_words ws q m t vs) →
          length ws₁ ≡ 60 →
          (ns' : List ℕ) (x : Option ℕ) →
          (ns' ≡ refreshed_words t k ns) × (nodes_of ns' ≡ refreshed_first t k (nodes_of ns)) × (x ≡ moment_of (soonest never (map (refreshed t) vs))) →
          (ws' : List ℕ) → ws' ≡ earliest_written ws₁ x →
          TickedIn ws q m ns k t (Ok d.logged) ws' q' m' ns'
      accepted f d ws₁ q' m' h long ns' x l ws' w =
          let below : k ≤ 32 = few ns k a in
          let left : watched_of (nodes_of ns') k ≡ map (refreshed t) vs =
          ap (λ (l : List WatchedNode). watched_of l k) l.1 ∙ each_nodes (nodes_of ns) k (places ns) below (refreshed t) in
          let moment : x ≡ earliest (watched_of (nodes_of ns') k) =
          l.2 ∙ moment_of_lem (map (refreshed t) vs) (all_refreshed_fit t vs b (all_fit vs a)) ∙ ap earliest (sym left) in
          record {
            on =
                run_accepted ws q m lent_run t lent b (checked (all_of (not_before t) vs) true ∙ f) d ws₁ q' m' h long (run (nodes_of ns') k)
                (ap (λ (l : List WatchedNode). run l k) l.1 ∙ sym (checked (changing (map (refreshed t)) lent_run) lent_run)) x moment ws' w;
            nodes = l.0 ∙ sym (checked (refreshed_words t k ns) ns);
          }
