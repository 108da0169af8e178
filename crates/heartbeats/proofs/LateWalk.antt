-- The heartbeats in words: the check of the nodes, and the walk over the late ones. What they make
-- of the head is by the laws on a head by its parts; the words are beside it.
-- Assumes nothing.
use Rattle.std.proofs.Common.{◌≡◌, ℕ, suc, ◌+◌, ◌-◌, ◌*◌, ◌<◌, ◌≤◌, Bool, true, false, eqb, ltb, leb, List, [], ◌∷◌, ◌++◌, map, length, get_or, take, drop, set, sym, refl, ap, ◌∙◌, subst, ap₂, add-one, arith, take-append-drop, length-take-le, get_or-take, ltb-true, le-ltb, lt-ltb, ne_eqb, eqb-true, leb-true}
use Prim.Native.Nat.{min}
use borrow.Author.Tests.{eqb-false}
use Rattle.types.specs.Pick.{pick, both, either, all_of}
use Rattle.types.specs.Types.{node}
use Rattle.types.specs.declared.frame.error.types.DllError.TheVariants.{HeartbeatTimeout}
use Rattle.types.specs.declared.frame.error.types.DllErrors.TheVariants as errors
use Rattle.counters.specs.Counters.{effect, handled, HandledError, replied}
use Rattle.head.specs.Head.{Head, head_with_errors}
use Rattle.watched.specs.declared.nodes.WatchedNode.{WatchedNode}
use Rattle.watched.specs.Watched.{in_time, fits, well_formed, no_node, heard_now, watched_of, Run, watching, changing}
use Rattle.node.specs.Phases.{acts, signalled}
use Rattle.node.specs.Heartbeats.{is_late, refreshed, late_ones, timeout_of, on_late, on_late_all}
use Rattle.node.specs.Refines.{plain, Becomes}
use Rattle.watched.proofs.Lists.{watched_take, each_ahead, each_turn, from_here, at_end, whole}
use Rattle.phases.specs.Parts.{Finishes}
use Rattle.heartbeats.specs.Words.{refreshed_first, refreshed_time, refresh_words, refreshed_words, on_late_words, on_late_all_words}
use Rattle.phases.proofs.Handled.{handled_written, ending, signals, logs}
use Rattle.heartbeats.proofs.LateErrors.{on_late_signalled, on_late_unsignalled, LateWalkOf, late_errors_begin, late_errors_over, late_errors_pass, late_errors_stop, late_errors_go_on}
use Rattle.head.specs.Words.{errors_of, head_of}
use Rattle.watched.specs.Nodes.{node_at, nodes_of, rests, not_before, never, sooner_by, soonest}
use Rattle.node.specs.InPlace.{effect_words}
use Rattle.counters.specs.declared.counters.ErrorTaken.{ErrorTaken}
use Rattle.node.proofs.Moments.{now_fits}
use Rattle.types.proofs.Tests.{both_first, both_second}
use Rattle.watched.specs.Scan.{sum_of, three_before}
use Rattle.watched.proofs.Limits.{all_at}
use Rattle.watched.proofs.Walk.{sooner_by_lem, joined}
use Rattle.watched.proofs.Watching.{places, few, node_at_lem, rests_heard, heard_written}
use Rattle.phases.specs.declared.PhaseOutcome.{PhaseOutcome}
use Rattle.phases.specs.PartWords.{signal_words, finished_words, ends_by}
use Rattle.phases.specs.PartsIn.{Turns, outcome_of, FinishesIn, TicksIn}

-- the check of one node
pub refreshed_by : (t : ℕ) (w : WatchedNode) → heard_now (refreshed_time t w.timeout w.last_heard) w ≡ refreshed t w
refreshed_by t w = by (either (eqb w.last_heard 0) (is_late t w))
  where
    by : (b : Bool) → heard_now (pick b t w.last_heard) w ≡ pick b (heard_now t w) w
    by true = refl
    by false = refl

-- and it is within its limits, as it was
pub refreshed_fits : (t : ℕ) (w : WatchedNode) → in_time t ≡ true → fits w ≡ true → fits (refreshed t w) ≡ true
refreshed_fits t w i f = by (either (eqb w.last_heard 0) (is_late t w))
  where
    by : (b : Bool) → fits (pick b (heard_now t w) w) ≡ true
    by true = now_fits t w i f
    by false = f

pub all_refreshed_fit : (t : ℕ) (ws : List WatchedNode) → in_time t ≡ true → all_of fits ws ≡ true → all_of fits (map (refreshed t) ws) ≡ true
all_refreshed_fit t [] i f = refl
all_refreshed_fit t (w ∷ ws) i f =
    ap₂ both (refreshed_fits t w i (both_first (fits w) (all_of fits ws) f)) (all_refreshed_fit t ws i (both_second (fits w) (all_of fits ws) f))

pub refresh_begin : (t : ℕ) (ns : List ℕ) → ns ≡ refreshed_words t 0 ns
unfolding refreshed_words
refresh_begin t ns = refl

-- a turn of the check
module _ (t : ℕ) (ns₀ ns : List ℕ) (i : ℕ) (inside : i < 32) (long : length ns ≡ 96) (r : WatchedNode) (is : r ≡ node_at ns i) (x : ℕ) (f : x ≡ refreshed_time t r.timeout r.last_heard) where
  e : x ≡ refreshed_time t (get_or ns (3 * i + 1) 0) (get_or ns (3 * i + 2) 0)
  e = f ∙ ap (λ (w : WatchedNode). refreshed_time t w.timeout w.last_heard) is

  pub refresh_words_lem : ns ≡ refreshed_words t i ns₀ → set ns (3 * i + 2) x ≡ refreshed_words t (i + 1) ns₀
  unfolding refreshed_words
  refresh_words_lem a = ap (set ns (3 * i + 2)) e ∙ ap (refresh_words t i) a ∙ ap (λ (n : ℕ). refreshed_words t n ns₀) (sym (add-one i))

  pub refresh_nodes : nodes_of ns ≡ refreshed_first t i (nodes_of ns₀) → nodes_of (set ns (3 * i + 2) x) ≡ refreshed_first t (i + 1) (nodes_of ns₀)
  refresh_nodes b =
      let w : WatchedNode = get_or (nodes_of ns) i no_node in
      let v : x ≡ refreshed_time t w.timeout w.last_heard =
      e ∙ ap (λ (v : WatchedNode). refreshed_time t v.timeout v.last_heard) (sym (node_at_lem ns i inside)) in
      heard_written ns long i inside x
      ∙ each_turn (refreshed t) (nodes_of ns₀) (nodes_of ns) i no_node (rw (places ns₀) inside) b (heard_now x w)
      (ap (λ (x : ℕ). heard_now x w) v ∙ refreshed_by t w)

-- the nodes that the check has not reached, and the soonest moment
module _ (t : ℕ) (ns₀ ns : List ℕ) (k i : ℕ) (formed : well_formed (watched_of (nodes_of ns₀) k) ≡ true) (inside : i < k) (b : nodes_of ns ≡ refreshed_first t i (nodes_of ns₀)) where
  below : k ≤ 32
  below = few ns₀ k formed

  as_it_was : node_at ns i ≡ node_at ns₀ i
  as_it_was =
      sym (node_at_lem ns i (omega (arith, inside, below)))
      ∙ each_ahead (refreshed t) (nodes_of ns₀) (nodes_of ns) i no_node (rw (places ns₀) (omega (arith, inside, below))) b
      ∙ node_at_lem ns₀ i (omega (arith, inside, below))

  module _ (r : WatchedNode) (is : r ≡ node_at ns i) (x : ℕ) (e : x ≡ refreshed_time t r.timeout r.last_heard) where
    -- the node that was read as the check of it leaves it
    abbrev seen : ℕ → WatchedNode
    seen x = heard_now x r

    is_refreshed : seen x ≡ refreshed t (node_at ns₀ i)
    is_refreshed = ap seen e ∙ refreshed_by t r ∙ ap (refreshed t) (is ∙ as_it_was)

    pub refresh_sooner :
        (y s : ℕ) → y ≡ soonest s (map (refreshed t) (drop i (take k (nodes_of ns₀)))) → (z : ℕ) → z ≡ sooner_by s (seen x) →
        y ≡ soonest z (map (refreshed t) (drop (i + 1) (take k (nodes_of ns₀))))
    refresh_sooner y s g z f =
        let w : get_or (nodes_of ns₀) i no_node ≡ node_at ns₀ i = node_at_lem ns₀ i (omega (arith, inside, below)) in
        g ∙ ap (λ (l : List WatchedNode). soonest s (map (refreshed t) l)) (from_here (nodes_of ns₀) k (places ns₀) below i no_node inside)
        ∙ ap (λ (v : WatchedNode). soonest (sooner_by s v) (map (refreshed t) (drop (i + 1) (take k (nodes_of ns₀))))) (ap (refreshed t) w ∙ sym is_refreshed)
        ∙ ap (λ (z : ℕ). soonest z (map (refreshed t) (drop (i + 1) (take k (nodes_of ns₀))))) (sym f)

-- the walk carries what is three before
pub sooner_joined : (a : ℕ) (w : WatchedNode) → sooner_by (sum_of a 3) w ≡ sum_of (min a (three_before w)) 3
sooner_joined a w = sooner_by_lem (sum_of a 3) w (omega arith) ∙ joined a (three_before w)

module _ (t : ℕ) (ns : List ℕ) (k : ℕ) (formed : well_formed (watched_of (nodes_of ns) k) ≡ true) where
  pub sooner_begins : soonest never (map (refreshed t) (watched_of (nodes_of ns) k)) ≡ soonest never (map (refreshed t) (drop 0 (take k (nodes_of ns))))
  sooner_begins = ap (λ (l : List WatchedNode). soonest never (map (refreshed t) l)) (whole (nodes_of ns) k (places ns) (few ns k formed))

  pub sooner_ends : (i y s : ℕ) → y ≡ soonest s (map (refreshed t) (drop i (take k (nodes_of ns)))) → k ≤ i → s ≡ y
  sooner_ends i y s e h =
      sym (e ∙ ap (λ (l : List WatchedNode). soonest s (map (refreshed t) l)) (at_end (nodes_of ns) k (places ns) (few ns k formed) i h))

-- a node that rests
module _ (t : ℕ) (w : WatchedNode) where
  abbrev o : ℕ
  o = w.timeout

  abbrev l : ℕ
  l = w.last_heard

  abbrev rests_by : Bool → Bool → Bool → Bool → Bool
  rests_by a b c d = both a (pick b true (both c d))

  rested : rests t w ≡ true → (is_late t w ≡ false) × (l ≡ 0 → ⊥)
  rested h = by (eqb o 0) refl h
    where
      by : (b : Bool) → eqb o 0 ≡ b → rests_by (ltb 0 l) b (leb l t) (leb (t - l) o) ≡ true → (is_late t w ≡ false) × (l ≡ 0 → ⊥)
      by true e r =
          let z : o ≡ 0 = eqb-true o 0 e in
          let a : 0 < l = ltb-true 0 l (both_first (ltb 0 l) true r) in
          (rw (lt-ltb 0 l a, le-ltb 0 o (omega arith)), λ h. omega arith)
      by false e r =
          let z = eqb-false o 0 e in
          let a : 0 < l = ltb-true 0 l (both_first (ltb 0 l) _ r) in
          let u : both (leb l t) (leb (t - l) o) ≡ true = both_second (ltb 0 l) _ r in
          let d : t - l ≤ o = leb-true (t - l) o (both_second (leb l t) _ u) in
          let p : 0 < o = omega arith in
          (rw (lt-ltb 0 l a, lt-ltb 0 o p, le-ltb o (t - l) d), λ h. omega arith)

-- nodes that all rest: none is before now, none is late, and the check leaves their words
module _ (t : ℕ) where
  pub rest_before : (vs : List WatchedNode) → all_of (rests t) vs ≡ true → all_of (not_before t) vs ≡ true
  rest_before [] h = refl
  rest_before (v ∷ vs) h =
      ap₂ both (rests_heard t v (both_first (rests t v) _ h)) (rest_before vs (both_second (rests t v) _ h))

  pub rest_late : (vs : List WatchedNode) → all_of (rests t) vs ≡ true → late_ones t vs ≡ []
  rest_late [] h = refl
  rest_late (v ∷ vs) h =
      ap₂ (λ (b : Bool) (l : List WatchedNode). pick b (v ∷ l) l) (rested t v (both_first (rests t v) _ h)).0 (rest_late vs (both_second (rests t v) _ h))

  rest_refreshed : (v : WatchedNode) → rests t v ≡ true → refreshed t v ≡ v
  rest_refreshed v h =
      let r = rested t v h in
      ap₂ (λ (a b : Bool). pick (either a b) (heard_now t v) v) (ne_eqb v.last_heard 0 r.1) r.0

  rest_time : (v : WatchedNode) → rests t v ≡ true → refreshed_time t v.timeout v.last_heard ≡ v.last_heard
  rest_time v h =
      let r = rested t v h in
      ap₂ (λ (a b : Bool). pick (either a b) t v.last_heard) (ne_eqb v.last_heard 0 r.1) r.0

  same_set : (ns : List ℕ) (i : ℕ) → set ns i (get_or ns i 0) ≡ ns
  same_set [] i = refl
  same_set (n ∷ ns) Prim.Native.Nat.zero = refl
  same_set (n ∷ ns) (suc i) = ap (λ (l : List ℕ). n ∷ l) (same_set ns i)

  pub rest_words_lem : (ns : List ℕ) (k : ℕ) → k ≤ 32 → all_of (rests t) (watched_of (nodes_of ns) k) ≡ true → refreshed_words t k ns ≡ ns
  unfolding refreshed_words
  rest_words_lem ns k few h = by k (omega arith)
    where
      b : all_of (rests t) (take k (nodes_of ns)) ≡ true
      b = sym (ap (all_of (rests t)) (whole (nodes_of ns) k (places ns) few)) ∙ h

      at : (i : ℕ) → i < k → rests t (node_at ns i) ≡ true
      at i inside =
          let l : length (take k (nodes_of ns)) ≡ k = length-take-le k (nodes_of ns) (rw (places ns) few) in
          sym (ap (rests t) (get_or-take k (nodes_of ns) i no_node inside ∙ node_at_lem ns i (omega arith)))
          ∙ all_at (rests t) (take k (nodes_of ns)) i no_node (rw l inside) b

      by : (j : ℕ) → j ≤ k → refreshed_words t j ns ≡ ns
      by Prim.Native.Nat.zero z = refl
      by (suc j) z =
          ap (refresh_words t j) (by j (omega arith)) ∙ ap (set ns (3 * j + 2)) (rest_time (node_at ns j) (at j (omega arith))) ∙ same_set ns (3 * j + 2)

  map_same : (vs : List WatchedNode) → all_of (rests t) vs ≡ true → map (refreshed t) vs ≡ vs
  map_same [] h = refl
  map_same (v ∷ vs) h =
      ap₂ (λ (v : WatchedNode) (l : List WatchedNode). v ∷ l) (rest_refreshed v (both_first (rests t v) _ h)) (map_same vs (both_second (rests t v) _ h))

  pub rest_run : (r : Run) → r.number ≤ length r.places → all_of (rests t) (watching r) ≡ true → changing (map (refreshed t)) r ≡ r
  rest_run r few h =
      ap (λ (l : List WatchedNode). record { places = l; number = r.number })
      (ap (λ (l : List WatchedNode). l ++ drop r.number r.places)
      (map_same (take r.number r.places) (sym (ap (all_of (rests t)) (watched_take r.places r.number few)) ∙ h))
      ∙ take-append-drop r.number r.places)

-- the error of one late node
module _ (ws : List ℕ) (long : length ws ≡ 60) (n : ℕ) (r : ErrorTaken) (e : r ≡ replied (handled (errors_of ws) (HeartbeatTimeout (node n)))) (ws₁ : List ℕ) (e₁ : ws₁ ≡ effect_words ws (effect (HeartbeatTimeout (node n)))) (a : Bool) (z : a ≡ acts r.action) (f : PhaseOutcome) (ws' : List ℕ) where
  module _ (w : WatchedNode) (x : w.node ≡ n) where
    abbrev R : HandledError
    R = handled (errors_of ws) (timeout_of w)

    abbrev E : List ℕ
    E = effect_words ws (effect (timeout_of w))

    same : r ≡ replied R
    same = e ∙ ap (λ (n : ℕ). replied (handled (errors_of ws) (HeartbeatTimeout (node n)))) (sym x)

    there : ws₁ ≡ E
    there = e₁ ∙ ap (λ (n : ℕ). effect_words ws (effect (HeartbeatTimeout (node n)))) (sym x)

    counted : head_of ws₁ ≡ head_with_errors (head_of ws) R.counters
    counted = handled_written ws (timeout_of w) long ws₁ there

    ended : a ≡ ends_by ws (timeout_of w)
    ended = ending ws (timeout_of w) r same a z

    pub on_late_quiet : r.signal ≡ false → FinishesIn ws₁ r.logged a f ws' → (q m : List ℕ) → TicksIn ws q m (on_late (plain (head_of ws) q m) w) f ws' q m (on_late_words ws w)
    unfolding head_of on_late_words
    on_late_quiet s k q m =
        record {
          ticks =
              on_late_unsignalled (head_of ws) w R refl a ended (outcome_of ws' f) (signals ws (timeout_of w) r same false s)
              (subst (λ (g : Head). Finishes g R.logged a (outcome_of ws' f)) counted (logs ws (timeout_of w) r same a (outcome_of ws' f) (head_of ws₁) k.finishes)) q m;
          words =
              k.words ∙ ap₂ finished_words ended (there ∙ sym (ap (λ (b : Bool). pick b (signal_words E) E) (signals ws (timeout_of w) r same false s)));
        }

    pub on_late_loud :
        r.signal ≡ true → (ws₂ : List ℕ) → Turns ws₁ signalled ws₂ (signal_words ws₁) → FinishesIn ws₂ r.logged a f ws' →
        (q m : List ℕ) → TicksIn ws q m (on_late (plain (head_of ws) q m) w) f ws' q m (on_late_words ws w)
    unfolding head_of on_late_words
    on_late_loud s ws₂ u k q m =
        record {
          ticks =
              on_late_signalled (head_of ws) w R refl a ended (outcome_of ws' f) (signals ws (timeout_of w) r same true s) (head_of ws₂)
              (subst (λ (g : Head). Becomes g signalled (head_of ws₂)) counted u.becomes) (logs ws (timeout_of w) r same a (outcome_of ws' f) (head_of ws₂) k.finishes) q m;
          words =
              k.words
              ∙ ap₂ finished_words ended (u.words ∙ ap signal_words there ∙ sym (ap (λ (b : Bool). pick b (signal_words E) E) (signals ws (timeout_of w) r same true s)));
        }

-- the walk: what it keeps, with the words
pub record LateWalkIn (t : ℕ) (all : List WatchedNode) (ws₀ ws : List ℕ) (d : PhaseOutcome) (vs : List WatchedNode) : Type 0 where
  pub late_walk : LateWalkOf t all (head_of ws₀) (outcome_of ws d) vs
  pub words : on_late_all_words ws₀ (late_ones t all) ≡ on_late_all_words ws (late_ones t vs)

-- over the first k of 32 places, in whatever form
module _ (nodes : List WatchedNode) (long : length nodes ≡ 32) (k : ℕ) (few : k ≤ 32) (t : ℕ) (ws₀ : List ℕ) where
  abbrev all : List WatchedNode
  all = watched_of nodes k

  pub walk_begins : LateWalkIn t all ws₀ ws₀ (record { logged = errors.None; ended = false }) (drop 0 (take k nodes))
  walk_begins =
      record {
        late_walk = late_errors_begin nodes k long few t (head_of ws₀) _ refl;
        words = ap (λ (l : List WatchedNode). on_late_all_words ws₀ (late_ones t l)) (whole nodes k long few);
      }

  module _ (ws : List ℕ) (d : PhaseOutcome) (i : ℕ) (b : LateWalkIn t all ws₀ ws d (drop i (take k nodes))) where
    pub walk_over : k ≤ i → (q m : List ℕ) → TicksIn ws₀ q m (on_late_all (plain (head_of ws₀) q m) (late_ones t all)) d ws q m (on_late_all_words ws₀ (late_ones t all))
    unfolding on_late_all_words
    walk_over z q m =
        record {
          ticks = late_errors_over nodes k long few t (head_of ws₀) (outcome_of ws d) i b.late_walk z q m;
          words = sym (b.words ∙ ap (λ (l : List WatchedNode). on_late_all_words ws (late_ones t l)) (at_end nodes k long few i z));
        }

    module _ (inside : i < k) (r : WatchedNode) (is : r ≡ get_or nodes i no_node) (z : Bool) (l : z ≡ is_late t r) where
      abbrev w : WatchedNode
      w = get_or nodes i no_node

      abbrev left : List WatchedNode
      left = drop (i + 1) (take k nodes)

      read : z ≡ is_late t w
      read = l ∙ ap (is_late t) is

      turn : (y : Bool) → z ≡ y → late_ones t (drop i (take k nodes)) ≡ pick y (w ∷ late_ones t left) (late_ones t left)
      turn y e =
          ap (late_ones t) (from_here nodes k long few i no_node inside)
          ∙ ap (λ (b : Bool). pick b (w ∷ late_ones t left) (late_ones t left)) (sym read ∙ e)

      pub walk_passes : z ≡ false → LateWalkIn t all ws₀ ws d left
      walk_passes e =
          record {
            late_walk = late_errors_pass nodes k long few t (head_of ws₀) (outcome_of ws d) i b.late_walk no_node inside z read e;
            words = b.words ∙ ap (on_late_all_words ws) (turn false e);
          }

      module _ (late : z ≡ true) (r' : PhaseOutcome) (ws' : List ℕ) (y : (v : WatchedNode) → v.node ≡ r.node → (q m : List ℕ) → TicksIn ws q m (on_late (plain (head_of ws) q m) v) r' ws' q m (on_late_words ws v)) where
        count_late : (q m : List ℕ) → TicksIn ws q m (on_late (plain (head_of ws) q m) w) r' ws' q m (on_late_words ws w)
        count_late = y w (ap (λ (v : WatchedNode). v.node) (sym is))

        ends : r'.ended ≡ ends_by ws (timeout_of w)
        unfolding head_of on_late
        ends = (count_late [] []).ticks.ended

        abbrev ahead : Bool → List ℕ
        ahead c = pick c (on_late_words ws w) (on_late_all_words (on_late_words ws w) (late_ones t left))

        here : (c : Bool) → r'.ended ≡ c → on_late_all_words ws₀ (late_ones t all) ≡ ahead c
        unfolding on_late_all_words
        here c e = b.words ∙ ap (on_late_all_words ws) (turn true late) ∙ ap ahead (sym ends ∙ e)

        pub walk_stops : r'.ended ≡ true → (q m : List ℕ) → TicksIn ws₀ q m (on_late_all (plain (head_of ws₀) q m) (late_ones t all)) r' ws' q m (on_late_all_words ws₀ (late_ones t all))
        walk_stops e q m =
            record {
              ticks = late_errors_stop nodes k long few t (head_of ws₀) (outcome_of ws d) i b.late_walk no_node inside z read late (outcome_of ws' r') (λ q m. (count_late q m).ticks) e q m;
              words = (count_late q m).words ∙ sym (here true e);
            }

        pub walk_goes_on : r'.ended ≡ false → LateWalkIn t all ws₀ ws' r' left
        walk_goes_on e =
            record {
              late_walk = late_errors_go_on nodes k long few t (head_of ws₀) (outcome_of ws d) i b.late_walk no_node inside z read late (outcome_of ws' r') (λ q m. (count_late q m).ticks) e;
              words = here false e ∙ ap (λ (l : List ℕ). on_late_all_words l (late_ones t left)) (sym (count_late [] []).words);
            }
