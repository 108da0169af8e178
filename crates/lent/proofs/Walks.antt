-- The walks over the watched places of a run: what is left gives what the whole gives, and what it
-- gives is what is asked of the run.
-- Assumes nothing.
use Prim.Native.Nat.{ℕ, zero, suc, ◌+◌, ◌≤◌, ◌<◌, min}
use mathlib.Core.Path.{◌≡◌, refl, sym, ap, ap₂, ◌∙◌}
use mathlib.Core.Bool.{Bool, true, false}
use mathlib.Core.List.{List, [], ◌∷◌, map}
use native.Mathlib.Omega.{arith}
use lib.Bits.{bit_or}
use lib.Dec.{eqb, leb, ltb}
use lib.ListN.{length, get_or, take, drop}
use borrow.Author.Tests.{ltb-true, lt-ltb, le-ltb, le-leb, ne_eqb, eqb-true, eq-eqb}
use Rattle.types.specs.Pick.{pick, both, all_of}
use Rattle.types.specs.Types.{is_node}
use Rattle.types.proofs.Tests.{both_first, both_second, both_false, both_true}
use Rattle.std.specs.declared.option.Option.{Option}
use Rattle.std.specs.declared.option.Option.TheVariants.{Some, None}
use Rattle.watched.specs.declared.nodes.WatchedNode.{WatchedNode}
use Rattle.watched.specs.Watched.{in_time, timed, fits, well_formed, no_node, heard_now, heard_at, place_of, watched_of, run, well_lent}
use Rattle.watched.specs.Nodes.{rising, rests, not_before, well_ordered, numbered, never, sooner_by, soonest}
use Rattle.watched.specs.Scan.{sum_of, three_before}
use Rattle.watched.proofs.Lists.{too_many, tests_begin, from_here, at_end, whole}
use Rattle.watched.proofs.ScanLaws.{both_assoc, not_well_ordered, not_numbered, is_rising}
use Rattle.watched.proofs.Walk.{in_time_both}
use Rattle.heartbeats.proofs.LateWalk.{sooner_joined}
use Rattle.lent.specs.Runs.{heard_if, found_in, rest_in, active_in}

-- ascending nodes with the one of the number n heard: at most one has it
module _ (n t : ℕ) where
  -- past a node, ascending numbers are not its own
  others : (l : ℕ) (ws : List WatchedNode) → n ≤ l → rising l ws ≡ true → map (heard_if n t) ws ≡ ws
  others l [] h r = refl
  others l (w ∷ ws) h r =
      let a : l < w.node = ltb-true l w.node (both_first (ltb l w.node) (fits w) (both_first (both (ltb l w.node) (fits w)) (rising w.node ws) r)) in
      ap₂ (λ (b : Bool) (vs : List WatchedNode). pick b (heard_now t w) w ∷ vs) (ne_eqb w.node n (λ e. omega arith))
      (others w.node ws (omega arith) (both_second (both (ltb l w.node) (fits w)) (rising w.node ws) r))

  heard_rising : (l : ℕ) (ws : List WatchedNode) → rising l ws ≡ true → map (heard_if n t) ws ≡ heard_at n t ws
  heard_rising l [] r = refl
  heard_rising l (w ∷ ws) r = by (eqb w.node n) refl (heard_rising w.node ws on)
    where
      on : rising w.node ws ≡ true
      on = both_second (both (ltb l w.node) (fits w)) (rising w.node ws) r

      by : (b : Bool) → eqb w.node n ≡ b → map (heard_if n t) ws ≡ heard_at n t ws → pick b (heard_now t w) w ∷ map (heard_if n t) ws ≡ pick b (heard_now t w ∷ ws) (w ∷ heard_at n t ws)
      by true e more = let k : w.node ≡ n = eqb-true w.node n e in ap (λ (l : List WatchedNode). heard_now t w ∷ l) (others w.node ws (omega arith) on)
      by false e more = ap (λ (l : List WatchedNode). w ∷ l) more

-- no node has the number 0
pub nowhere : (t : ℕ) (ws : List WatchedNode) → rising 0 ws ≡ true → heard_at 0 t ws ≡ ws
nowhere t ws r = sym (heard_rising 0 t 0 ws r) ∙ others 0 t 0 ws (omega arith) r

low : (n : ℕ) → 0 < n → n ≤ 240 → is_node n ≡ true
low n h l = rw (le-leb 1 n h, le-leb n 240 l)

module _ (vs : List WatchedNode) (k : ℕ) where
  abbrev lent : Bool
  lent = well_lent (run vs k)

  abbrev xs : List WatchedNode
  xs = take k vs

  not_long : (length vs ≡ 32 → ⊥) → lent ≡ false
  not_long h = ap (λ (b : Bool). both b (well_formed (watched_of vs k))) (ne_eqb (length vs) 32 h)

  not_few : 32 < k → lent ≡ false
  not_few h = ap (both (eqb (length vs) 32)) (sym (too_many vs k h)) ∙ both_false (eqb (length vs) 32)

  -- what is answered of a run that is not well formed
  module _ (n t : ℕ) where
    pub find_none : lent ≡ false → None ≡ found_in n t (run vs k)
    find_none h = sym (ap (λ (b : Bool). pick b (Some (place_of n (watched_of vs k), soonest never (heard_at n t (watched_of vs k)))) None) h)

    pub find_long : (length vs ≡ 32 → ⊥) → None ≡ found_in n t (run vs k)
    find_long h = find_none (not_long h)

    pub find_few : 32 < k → None ≡ found_in n t (run vs k)
    find_few h = find_none (not_few h)

  module _ (t : ℕ) where
    abbrev rest_if : Bool → Option ℕ
    rest_if b = pick b (Some (soonest never (watched_of vs k))) None

    pub rest_none : lent ≡ false → None ≡ rest_in t (run vs k)
    rest_none h = sym (ap (λ (b : Bool). rest_if (both b (all_of (rests t) (watched_of vs k)))) h)

    pub rest_long : (length vs ≡ 32 → ⊥) → None ≡ rest_in t (run vs k)
    rest_long h = rest_none (not_long h)

    pub rest_few : 32 < k → None ≡ rest_in t (run vs k)
    rest_few h = rest_none (not_few h)

  module _ (t : ℕ) where
    pub active_none : lent ≡ false → None ≡ active_in t (run vs k)
    active_none h = sym (ap (λ (b : Bool). pick b (Some (all_of (not_before t) (watched_of vs k))) None) h)

    pub active_long : (length vs ≡ 32 → ⊥) → None ≡ active_in t (run vs k)
    active_long h = active_none (not_long h)

    pub active_few : 32 < k → None ≡ active_in t (run vs k)
    active_few h = active_none (not_few h)

  module _ (long : length vs ≡ 32) (few : k ≤ 32) where
    pub begins : lent ≡ rising 0 (drop 0 xs)
    begins = ap (λ (b : Bool). both b (well_formed (watched_of vs k))) (eq-eqb (length vs) 32 long) ∙ tests_begin vs k long few

    pub find_unordered : (n t : ℕ) → well_ordered 0 xs ≡ false → None ≡ found_in n t (run vs k)
    find_unordered n t h = find_none n t (begins ∙ not_well_ordered 0 xs h)

    -- a turn at the i-th node
    module _ (i : ℕ) (inside : i < k) (w : WatchedNode) (is : w ≡ get_or vs i no_node) where
      abbrev rest : List WatchedNode
      rest = drop (i + 1) xs

      here : drop i xs ≡ w ∷ rest
      here = from_here vs k long few i no_node inside ∙ ap (λ (w : WatchedNode). w ∷ rest) (sym is)

      module _ (b : Bool) (n : ℕ) (e : b ≡ rising n (drop i xs)) (z : Bool) (f : z ≡ both (ltb n w.node) (fits w)) where
        rises : b ≡ both z (rising w.node rest)
        rises = e ∙ ap (rising n) here ∙ ap (λ (z : Bool). both z (rising w.node rest)) (sym f)

        pub rising_stops : z ≡ false → b ≡ false
        rising_stops h = rises ∙ ap (λ (z : Bool). both z (rising w.node rest)) h

        pub rising_next : z ≡ true → b ≡ rising w.node rest
        rising_next h = rises ∙ ap (λ (z : Bool). both z (rising w.node rest)) h

      pub rest_stops : (b : Bool) (t : ℕ) → b ≡ all_of (rests t) (drop i xs) → rests t w ≡ false → b ≡ false
      rest_stops b t e h = e ∙ ap (all_of (rests t)) here ∙ ap (λ (z : Bool). both z (all_of (rests t) rest)) h

      pub rest_next : (b : Bool) (t : ℕ) → b ≡ all_of (rests t) (drop i xs) → rests t w ≡ true → b ≡ all_of (rests t) rest
      rest_next b t e h = e ∙ ap (all_of (rests t)) here ∙ ap (λ (z : Bool). both z (all_of (rests t) rest)) h

      pub soonest_next : (x s : ℕ) → x ≡ soonest s (drop i xs) → (y : ℕ) → y ≡ sooner_by s w → x ≡ soonest y rest
      soonest_next x s e y g = e ∙ ap (soonest s) here ∙ ap (λ (y : ℕ). soonest y rest) (sym g)

      module _ (n t : ℕ) where
        pub heard_next :
            (x a : ℕ) → x ≡ soonest (sum_of a 3) (map (heard_if n t) (drop i xs)) → (b : ℕ) → b ≡ min a (three_before (heard_if n t w)) →
            x ≡ soonest (sum_of b 3) (map (heard_if n t) rest)
        heard_next x a e b g =
            e ∙ ap (λ (l : List WatchedNode). soonest (sum_of a 3) (map (heard_if n t) l)) here
            ∙ ap (λ (y : ℕ). soonest y (map (heard_if n t) rest)) (sooner_joined a (heard_if n t w) ∙ ap (λ (b : ℕ). sum_of b 3) (sym g))

      -- as long as the numbers climb, whatever the times
      module _ (b : Bool) (l m : ℕ) (e : b ≡ both (in_time m) (well_ordered l (drop i xs))) where
        climbs : (y : Bool) → ltb l w.node ≡ y → b ≡ both (in_time m) (both (both y (timed w)) (well_ordered w.node rest))
        climbs y h =
            e ∙ ap (λ (q : List WatchedNode). both (in_time m) (well_ordered l q)) here
            ∙ ap (λ (y : Bool). both (in_time m) (both (both y (timed w)) (well_ordered w.node rest))) h

        pub climb_stops : w.node ≤ l → b ≡ false
        climb_stops h = climbs false (le-ltb l w.node h) ∙ both_false (in_time m)

        pub climb_next : l < w.node → (p : ℕ) → p ≡ bit_or m (bit_or w.timeout w.last_heard) → b ≡ both (in_time p) (well_ordered w.node rest)
        climb_next h p g =
            let more : in_time p ≡ both (in_time m) (timed w) =
            ap in_time g ∙ in_time_both m (bit_or w.timeout w.last_heard) ∙ ap (both (in_time m)) (in_time_both w.timeout w.last_heard) in
            climbs true (lt-ltb l w.node h)
            ∙ both_assoc (in_time m) (timed w) (well_ordered w.node rest)
            ∙ ap (λ (y : Bool). both y (well_ordered w.node rest)) (sym more)

      pub numbers_next : (b : Bool) (l : ℕ) → (l ≤ 240 → b ≡ all_of numbered (drop i xs)) → l < w.node → w.node ≤ 240 → b ≡ all_of numbered rest
      numbers_next b l e h g =
          e (omega (arith, h, g)) ∙ ap (all_of numbered) here
          ∙ ap (λ (y : Bool). both y (all_of numbered rest)) (low w.node (omega (arith, h)) g)

      pub heard_all_next : (b y : Bool) (t : ℕ) → b ≡ both y (all_of (not_before t) (drop i xs)) → (z : Bool) → z ≡ both y (not_before t w) → b ≡ both z (all_of (not_before t) rest)
      heard_all_next b y t e z f =
          e ∙ ap (λ (l : List WatchedNode). both y (all_of (not_before t) l)) here
          ∙ both_assoc y (not_before t w) (all_of (not_before t) rest)
          ∙ ap (λ (z : Bool). both z (all_of (not_before t) rest)) (sym f)

    -- behind the last one
    module _ (i : ℕ) (end : k ≤ i) where
      none_left : drop i xs ≡ []
      none_left = at_end vs k long few i end

      ends : (b : Bool) (l : ℕ) → b ≡ rising l (drop i xs) → b ≡ true
      ends b l e = e ∙ ap (rising l) none_left

      pub numbers_end : (l : ℕ) → (l ≤ 240 → all_of numbered xs ≡ all_of numbered (drop i xs)) → l ≤ 240 → all_of numbered xs ≡ true
      numbers_end l e h = e h ∙ ap (all_of numbered) none_left

      module _ (n t l m : ℕ) (e : well_ordered 0 xs ≡ both (in_time m) (well_ordered l (drop i xs))) where
        in_order : well_ordered 0 xs ≡ both (in_time m) true
        in_order = e ∙ ap (λ (q : List WatchedNode). both (in_time m) (well_ordered l q)) none_left

        pub find_late : in_time m ≡ false → None ≡ found_in n t (run vs k)
        find_late h = find_none n t (begins ∙ not_well_ordered 0 xs (in_order ∙ ap (λ (b : Bool). both b true) h))

        module _ (h : in_time m ≡ true) (b : Bool) (f : b ≡ all_of numbered xs) where
          ordered : well_ordered 0 xs ≡ true
          ordered = in_order ∙ ap (λ (b : Bool). both b true) h

          pub find_unnumbered : b ≡ false → None ≡ found_in n t (run vs k)
          find_unnumbered g = find_none n t (begins ∙ not_numbered 0 xs ordered (sym f ∙ g))

          pub find_ends :
              b ≡ true → (a s : ℕ) → soonest never (map (heard_if n t) xs) ≡ soonest (sum_of a 3) (map (heard_if n t) (drop i xs)) → s ≡ sum_of a 3 →
              (p : ℕ) → p ≡ place_of n xs → Some (p, s) ≡ found_in n t (run vs k)
          find_ends g a s x y p z =
              let up : rising 0 xs ≡ true = is_rising 0 xs ordered (sym f ∙ g) in
              let yes : lent ≡ true = begins ∙ up in
              let same : watched_of vs k ≡ xs = whole vs k long few in
              let soon : soonest never (heard_at n t xs) ≡ s =
              ap (soonest never) (sym (heard_rising n t 0 xs up)) ∙ x ∙ ap (λ (l : List WatchedNode). soonest (sum_of a 3) (map (heard_if n t) l)) none_left ∙ sym y in
              sym (ap₂ (λ (b : Bool) (l : List WatchedNode). pick b (Some (place_of n l, soonest never (heard_at n t l))) None) yes same
              ∙ ap₂ (λ (p s : ℕ). Some (p, s)) (sym z) soon)

      pub active_ends :
          (t l : ℕ) → lent ≡ rising l (drop i xs) → (y : Bool) → all_of (not_before t) xs ≡ both y (all_of (not_before t) (drop i xs)) → Some y ≡ active_in t (run vs k)
      active_ends t l e y f =
          let yes : lent ≡ true = ends lent l e in
          let all : all_of (not_before t) (watched_of vs k) ≡ y =
          ap (all_of (not_before t)) (whole vs k long few) ∙ f ∙ ap (λ (l : List WatchedNode). both y (all_of (not_before t) l)) none_left ∙ both_true y in
          sym (ap₂ (λ (b : Bool) (y : Bool). pick b (Some y) None) yes all)

      pub rest_ends :
          (t l : ℕ) → lent ≡ rising l (drop i xs) → all_of (rests t) xs ≡ all_of (rests t) (drop i xs) → (s : ℕ) → soonest never xs ≡ soonest s (drop i xs) →
          Some s ≡ rest_in t (run vs k)
      rest_ends t l e f s g =
          let yes : lent ≡ true = ends lent l e in
          let same : watched_of vs k ≡ xs = whole vs k long few in
          let all : all_of (rests t) xs ≡ true = f ∙ ap (all_of (rests t)) none_left in
          let soon : soonest never xs ≡ s = g ∙ ap (soonest s) none_left in
          sym (ap₂ (λ (b : Bool) (l : List WatchedNode). pick (both b (all_of (rests t) l)) (Some (soonest never l)) None) yes same
          ∙ ap₂ (λ (b : Bool) (s : ℕ). pick b (Some s) None) all soon)

    -- one that does not rest
    pub rest_active : (t : ℕ) → all_of (rests t) xs ≡ false → None ≡ rest_in t (run vs k)
    rest_active t h =
        let no : all_of (rests t) (watched_of vs k) ≡ false = ap (all_of (rests t)) (whole vs k long few) ∙ h in
        sym (ap (λ (b : Bool). rest_if t (both lent b)) no ∙ ap (rest_if t) (both_false lent))
