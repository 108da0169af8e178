-- The watched nodes in words: what is read at a place, and what a time written makes of the nodes.
-- All else is by the laws of lists of nodes (Lists).
-- Assumes nothing.
use Prim.Native.Nat.{ℕ, zero, suc, ◌+◌, ◌*◌, ◌-◌, ◌<◌, ◌≤◌, min}
use mathlib.Core.Path.{◌≡◌, refl, sym, ap, ap₂, ◌∙◌}
use mathlib.Core.Bool.{Bool, true, false}
use mathlib.Core.List.{List, ◌∷◌}
use native.Mathlib.Omega.{arith}
use lib.Dec.{eqb, leb, ltb}
use lib.ListN.{length, get_or, set, take, drop}
use lib.Seq.{get_or-set_same, get_or-set_other}
use borrow.Author.Tests.{lt-ltb, le-ltb, leb-true, eqb-true, eq-eqb}
use Rattle.types.specs.Pick.{pick, both, all_of}
use Rattle.entries.specs.Ring.{listed}
use Rattle.entries.proofs.Rings.{listed_long, listed_same}
use Rattle.watched.specs.declared.nodes.WatchedNode.{WatchedNode}
use Rattle.types.specs.Types.{is_node}
use Rattle.types.proofs.Tests.{both_first, both_second}
use Rattle.watched.specs.Watched.{latest, in_time, fits, well_formed, no_node, heard_now, heard_at, watched_node, watched_of, place_of, Run, run, well_lent}
use Rattle.watched.proofs.Lists as Lists
use Rattle.watched.proofs.Lists.{too_many, tests_begin, from_here, at_end}
use Rattle.std.specs.Bool.{then_some}
use Rattle.std.specs.declared.option.Option.{Option}
use Rattle.std.specs.declared.option.Option.TheVariants.{Some, None}
use Rattle.watched.specs.declared.nodes.Seen.{Seen}
use Rattle.watched.specs.declared.nodes.Seen.TheVariants as seen
use Rattle.watched.specs.Nodes.{node_at, nodes_of, rests, not_before, rising, never, moment_of, sooner_by, soonest, active_from, nodes_tried, found_of, seen_of}

-- the item at an index of a list that is given by index
pub listed_at : {A : Type 0} (f : ℕ → A) (n i : ℕ) (d : A) → i < n → get_or (listed f n) i d ≡ f i
unfolding listed
listed_at f zero i d h = absurd (omega arith)
listed_at f (suc n) zero d h = refl
listed_at f (suc n) (suc i) d h = listed_at (λ (j : ℕ). f (suc j)) n i d (omega arith)

-- where two lists differ at one index
pub listed_set : {A : Type 0} (f g : ℕ → A) (n i : ℕ) → i < n → ((j : ℕ) → (j ≡ i → ⊥) → g j ≡ f j) → listed g n ≡ set (listed f n) i (g i)
unfolding listed
listed_set f g zero i h same = absurd (omega arith)
listed_set f g (suc n) zero h same =
    ap (λ (l : List _). g 0 ∷ l) (listed_same (λ (j : ℕ). g (suc j)) (λ (j : ℕ). f (suc j)) n (λ j lt. same (suc j) (λ e. omega arith)))
listed_set f g (suc n) (suc i) h same =
    rw (same 0 (λ e. omega arith))
    (ap (λ (l : List _). f 0 ∷ l) (listed_set (λ (j : ℕ). f (suc j)) (λ (j : ℕ). g (suc j)) n i (omega arith) (λ j apart. same (suc j) (λ e. apart (omega arith)))))

-- what a last test lets pass, by both its cases
pub by_test : {A : Type 0} (b : Bool) (x : A) (o : Option A) → (b ≡ true → Some x ≡ o) → (b ≡ false → None ≡ o) → then_some b x ≡ o
by_test true x o f g = f refl
by_test false x o f g = g refl

-- what an answer of climb_from, roused, try_nodes or look says
module _ {A : Type 0} (b : Bool) (s : A) (a : Option A) (e : a ≡ pick b (Some s) None) where
  pub tried_unformed : a ≡ None → b ≡ false
  tried_unformed h = by b (sym h ∙ e)
    where
      by : (b : Bool) → None ≡ pick b (Some s) None → b ≡ false
      by true x = cc
      by false x = refl

  pub tried_formed : (x : A) → a ≡ Some x → (b ≡ true) × (x ≡ s)
  tried_formed y h = by b (sym h ∙ e)
    where
      by : (b : Bool) → Some y ≡ pick b (Some s) None → (b ≡ true) × (y ≡ s)
      by true x = (refl, cc)
      by false x = (cc, cc)

-- what an answer of look says
module _ (b r q : Bool) (s : Option ℕ) (a : Option Seen) (e : a ≡ pick b (Some (pick r (seen.Resting s) (seen.Active q))) None) where
  pub seen_unformed : a ≡ None → b ≡ false
  seen_unformed = tried_unformed b (pick r (seen.Resting s) (seen.Active q)) a e

  pub seen_active : (y : Bool) → a ≡ Some (seen.Active y) → (b ≡ true) × (r ≡ false) × (y ≡ q)
  seen_active y h = let x = tried_formed b (pick r (seen.Resting s) (seen.Active q)) a e _ h in let z = by r x.1 in (x.0, z.0, z.1)
    where
      by : (r : Bool) → seen.Active y ≡ pick r (seen.Resting s) (seen.Active q) → (r ≡ false) × (y ≡ q)
      by true x = (cc, cc)
      by false x = (refl, cc)

  pub seen_resting : (x : Option ℕ) → a ≡ Some (seen.Resting x) → (b ≡ true) × (r ≡ true) × (x ≡ s)
  seen_resting y h = let x = tried_formed b (pick r (seen.Resting s) (seen.Active q)) a e _ h in let z = by r x.1 in (x.0, z.0, z.1)
    where
      by : (r : Bool) → seen.Resting y ≡ pick r (seen.Resting s) (seen.Active q) → (r ≡ true) × (y ≡ s)
      by true x = (refl, cc)
      by false x = (cc, cc)

-- the times of a well formed run's node
pub times_fit : (w : WatchedNode) → fits w ≡ true → (w.timeout ≤ latest) × (w.last_heard ≤ latest)
times_fit w f =
    let b : both (in_time w.timeout) (in_time w.last_heard) ≡ true = both_second (is_node w.node) _ f in
    (leb-true w.timeout latest (both_first (in_time w.timeout) _ b), leb-true w.last_heard latest (both_second (in_time w.timeout) _ b))

-- the soonest moment with one more node, by its tests
module _ (s : ℕ) (w : WatchedNode) where
  abbrev late : ℕ
  late = w.last_heard + w.timeout + 1

  abbrev sooner_if : Bool → Bool → ℕ
  sooner_if a b = pick (both a b) (min s late) s

  pub sooner_idle : w.timeout ≡ 0 → s ≡ sooner_by s w
  sooner_idle h = sym (ap (λ (a : Bool). sooner_if a (ltb 0 w.last_heard)) (le-ltb 0 w.timeout (omega arith)))

  module _ (timed : w.timeout ≡ 0 → ⊥) where
    timed_up : ltb 0 w.timeout ≡ true
    timed_up = lt-ltb 0 w.timeout (omega arith)

    pub sooner_unheard : w.last_heard ≡ 0 → s ≡ sooner_by s w
    sooner_unheard h = sym (ap₂ sooner_if timed_up (le-ltb 0 w.last_heard (omega arith)))

    module _ (heard : w.last_heard ≡ 0 → ⊥) where
      pub both_up : sooner_by s w ≡ min s late
      both_up = ap₂ sooner_if timed_up (lt-ltb 0 w.last_heard (omega arith))

-- a node that is not before now, by its tests
module _ (t : ℕ) (w : WatchedNode) where
  pub before_idle : w.timeout ≡ 0 → true ≡ not_before t w
  before_idle h = rw (le-ltb 0 w.timeout (omega arith))

  -- one that rests is not
  pub rests_heard : rests t w ≡ true → not_before t w ≡ true
  rests_heard h = by (eqb w.timeout 0) refl (both_second (ltb 0 w.last_heard) _ h)
    where
      by : (b : Bool) → eqb w.timeout 0 ≡ b → pick b true (both (leb w.last_heard t) (leb (t - w.last_heard) w.timeout)) ≡ true → not_before t w ≡ true
      by true e r = sym (before_idle (eqb-true w.timeout 0 e))
      by false e r = some (both (ltb 0 w.timeout) (ltb 0 w.last_heard)) (both_first (leb w.last_heard t) _ r)
        where
          some : (a : Bool) {c : Bool} → c ≡ true → pick a c true ≡ true
          some true g = g
          some false g = refl

-- the number of a well formed run is within its places
pub lent_inside : (r : Run) → well_lent r ≡ true → r.number ≤ length r.places
lent_inside r a =
    let l : length r.places ≡ 32 = eqb-true (length r.places) 32 (both_first (eqb (length r.places) 32) _ a) in
    let k : r.number ≤ 32 = Lists.few r.places r.number true (sym (both_second (eqb (length r.places) 32) _ a)) refl in
    omega (arith, l, k)

module _ (ws : List ℕ) where
  pub places : length (nodes_of ws) ≡ 32
  unfolding nodes_of
  places = listed_long (node_at ws) 32

  pub node_at_lem : (i : ℕ) → i < 32 → get_or (nodes_of ws) i no_node ≡ node_at ws i
  unfolding nodes_of
  node_at_lem i h = listed_at (node_at ws) 32 i no_node h

  -- of words, a run has 32 places, and is well formed where its nodes are
  pub lent_words : (k : ℕ) → well_lent (run (nodes_of ws) k) ≡ well_formed (watched_of (nodes_of ws) k)
  lent_words k = ap (λ (b : Bool). both b (well_formed (watched_of (nodes_of ws) k))) (eq-eqb (length (nodes_of ws)) 32 places)

  -- a time written is the node at its place heard then, and all other nodes as they were
  module _ (long : length ws ≡ 96) (p : ℕ) (inside : p < 32) (t : ℕ) where
    other : (k : ℕ) → (k ≡ 3 * p + 2 → ⊥) → get_or (set ws (3 * p + 2) t) k 0 ≡ get_or ws k 0
    other k apart = get_or-set_other ws (3 * p + 2) k t 0 apart

    pub heard_written : nodes_of (set ws (3 * p + 2) t) ≡ set (nodes_of ws) p (heard_now t (get_or (nodes_of ws) p no_node))
    unfolding nodes_of
    heard_written =
        let here : node_at (set ws (3 * p + 2) t) p ≡ heard_now t (get_or (listed (node_at ws) 32) p no_node) =
        (λ i. watched_node (other (3 * p) (λ e. omega arith) i) (other (3 * p + 1) (λ e. omega arith) i) (get_or-set_same ws (3 * p + 2) t 0 (omega arith) i))
        ∙ ap (heard_now t) (sym (node_at_lem p inside)) in
        listed_set (node_at ws) (node_at (set ws (3 * p + 2) t)) 32 p inside
        (λ j apart i. watched_node (other (3 * j) (λ e. omega arith) i) (other (3 * j + 1) (λ e. omega arith) i) (other (3 * j + 2) (λ e. apart (omega arith)) i))
        ∙ ap (set (listed (node_at ws) 32) p) here

  -- the walks: what is left gives what the whole gives
  module _ (k : ℕ) where
    abbrev vs : List WatchedNode
    vs = watched_of (nodes_of ws) k

    abbrev left : ℕ → List WatchedNode
    left i = drop i (take k (nodes_of ws))

    pub many : 32 < k → well_formed vs ≡ false
    many h = sym (too_many (nodes_of ws) k h)

    module _ (below : k ≤ 32) where
      pub formed_begins : well_formed vs ≡ rising 0 (left 0)
      formed_begins = tests_begin (nodes_of ws) k places below

      pub soonest_begins : soonest never vs ≡ soonest never (left 0)
      soonest_begins = ap (soonest never) (Lists.whole (nodes_of ws) k places below)

      pub all_begins : (p : WatchedNode → Bool) → all_of p vs ≡ all_of p (left 0)
      all_begins p = ap (all_of p) (Lists.whole (nodes_of ws) k places below)

      module _ (i : ℕ) where
        pub formed_ends : (b : Bool) (n : ℕ) → b ≡ rising n (left i) → k ≤ i → b ≡ true
        formed_ends b n e h = e ∙ ap (rising n) (at_end (nodes_of ws) k places below i h)

        pub soonest_ends : (x s : ℕ) → x ≡ soonest s (left i) → k ≤ i → x ≡ s
        soonest_ends x s e h = e ∙ ap (soonest s) (at_end (nodes_of ws) k places below i h)

        pub all_ends : (p : WatchedNode → Bool) (b : Bool) → b ≡ all_of p (left i) → k ≤ i → b ≡ true
        all_ends p b e h = e ∙ ap (all_of p) (at_end (nodes_of ws) k places below i h)

        -- a turn at the words of the i-th node
        module _ (inside : i < k) where
          pub turn : left i ≡ node_at ws i ∷ left (i + 1)
          turn =
              from_here (nodes_of ws) k places below i no_node inside
              ∙ ap (λ (w : WatchedNode). w ∷ left (i + 1)) (node_at_lem i (omega arith))

          -- at the node that was read there
          module _ (w : WatchedNode) (is : w ≡ node_at ws i) where
            pub turn_read : left i ≡ w ∷ left (i + 1)
            turn_read = turn ∙ ap (λ (w : WatchedNode). w ∷ left (i + 1)) (sym is)

            module _ (b : Bool) (n : ℕ) (e : b ≡ rising n (left i)) (z : Bool) (f : z ≡ both (ltb n w.node) (fits w)) where
              formed_turn : b ≡ both z (rising w.node (left (i + 1)))
              formed_turn = e ∙ ap (rising n) turn_read ∙ ap (λ (z : Bool). both z (rising w.node (left (i + 1)))) (sym f)

              pub formed_stops : z ≡ false → b ≡ false
              formed_stops h = formed_turn ∙ ap (λ (z : Bool). both z (rising w.node (left (i + 1)))) h

              pub formed_next : z ≡ true → b ≡ rising w.node (left (i + 1))
              formed_next h = formed_turn ∙ ap (λ (z : Bool). both z (rising w.node (left (i + 1)))) h

            -- the soonest moment of the nodes
            pub soonest_next : (x s : ℕ) → x ≡ soonest s (left i) → (y : ℕ) → y ≡ sooner_by s w → x ≡ soonest y (left (i + 1))
            soonest_next x s e y g = e ∙ ap (soonest s) turn_read ∙ ap (λ (y : ℕ). soonest y (left (i + 1))) (sym g)

            -- a test of all nodes
            module _ (p : WatchedNode → Bool) (b : Bool) (e : b ≡ all_of p (left i)) where
              all_turn : (z : Bool) → p w ≡ z → b ≡ both z (all_of p (left (i + 1)))
              all_turn z f = e ∙ ap (all_of p) turn_read ∙ ap (λ (z : Bool). both z (all_of p (left (i + 1)))) f

              pub all_stops : p w ≡ false → b ≡ false
              all_stops = all_turn false

              pub all_next : p w ≡ true → b ≡ all_of p (left (i + 1))
              all_next = all_turn true

    pub nodes_unformed : well_formed vs ≡ false → None ≡ nodes_tried vs
    nodes_unformed h = sym (ap (λ (b : Bool). pick b (Some (moment_of (soonest never vs))) None) h)

    pub nodes_formed : well_formed vs ≡ true → (x : ℕ) → soonest never vs ≡ x → Some (moment_of x) ≡ nodes_tried vs
    nodes_formed h x e = sym (ap₂ (λ (b : Bool) (x : ℕ). pick b (Some (moment_of x)) None) h e)

    -- what find answers, and what that says
    module _ (n t : ℕ) where
      abbrev found_by : Bool → ℕ → ℕ → Option (ℕ × ℕ)
      found_by b p s = pick b (Some (p, s)) None

      abbrev soonest_heard : ℕ
      soonest_heard = soonest never (heard_at n t vs)

      pub find_unformed : well_formed vs ≡ false → None ≡ found_of n t vs
      find_unformed h = sym (ap (λ (b : Bool). found_by b (place_of n vs) soonest_heard) h)

      pub find_formed : well_formed vs ≡ true → (p s : ℕ) → place_of n vs ≡ p → soonest_heard ≡ s → Some (p, s) ≡ found_of n t vs
      find_formed h p s e f = sym (λ i. found_by (h i) (e i) (f i))

      module _ (a : Option (ℕ × ℕ)) (e : a ≡ found_of n t vs) where
        pub found_unformed : a ≡ None → well_formed vs ≡ false
        found_unformed = tried_unformed (well_formed vs) (place_of n vs, soonest_heard) a e

        pub found_formed : (p s : ℕ) → a ≡ Some (p, s) → (well_formed vs ≡ true) × (p ≡ place_of n vs) × (s ≡ soonest_heard)
        found_formed p s h =
            let x = tried_formed (well_formed vs) (place_of n vs, soonest_heard) a e (p, s) h in
            (x.0, ap (λ (z : ℕ × ℕ). z.0) x.1, ap (λ (z : ℕ × ℕ). z.1) x.1)

    -- what look answers
    module _ (t : ℕ) where
      abbrev seen_by : Bool → Bool → Bool → ℕ → Option Seen
      seen_by b r q s = pick b (Some (pick r (seen.Resting (moment_of s)) (seen.Active q))) None

      pub examine_unformed : well_formed vs ≡ false → None ≡ seen_of t vs
      examine_unformed h = sym (ap (λ (b : Bool). seen_by b (all_of (rests t) vs) (all_of (not_before t) vs) (soonest never vs)) h)

      pub examine_active :
          (n : ℕ) (ws : List WatchedNode) → well_formed vs ≡ rising n ws → all_of (rests t) vs ≡ false → all_of (not_before t) vs ≡ all_of (not_before t) ws →
          (a : Option Bool) → a ≡ active_from n t ws → (x : Bool) → a ≡ Some x → Some (seen.Active x) ≡ seen_of t vs
      examine_active n ws h e f a g x d =
          let y = tried_formed (rising n ws) (all_of (not_before t) ws) a g x d in
          sym (λ i. seen_by ((h ∙ y.0) i) (e i) ((f ∙ sym y.1) i) (soonest never vs))

      pub examine_none :
          (n : ℕ) (ws : List WatchedNode) → well_formed vs ≡ rising n ws → (a : Option Bool) → a ≡ active_from n t ws → a ≡ None → None ≡ seen_of t vs
      examine_none n ws h a g d = examine_unformed (h ∙ tried_unformed (rising n ws) (all_of (not_before t) ws) a g d)

      pub examine_rests : well_formed vs ≡ true → all_of (rests t) vs ≡ true → (s : ℕ) → soonest never vs ≡ s → Some (seen.Resting (moment_of s)) ≡ seen_of t vs
      examine_rests h e s f = sym (λ i. seen_by (h i) (e i) (all_of (not_before t) vs) (f i))

    -- well formed nodes are at most 32
    pub few : well_formed vs ≡ true → k ≤ 32
    few h = Lists.few (nodes_of ws) k true (sym h) refl
