-- The walk over nodes whose numbers climb (`scan`): what is asked of all times together is asked
-- of each, and the soonest of what is three before the moments is three before the soonest moment.
-- Assumes nothing.
use Prim.Native.Nat.{ℕ, zero, suc, ◌+◌, ◌*◌, ◌-◌, ◌^◌, ◌<◌, ◌≤◌, min}
use mathlib.Core.Path.{◌≡◌, refl, sym, ap, ap₂, ◌∙◌}
use mathlib.Core.Bool.{Bool, true, false}
use mathlib.Core.List.{List, [], ◌∷◌}
use native.Mathlib.Omega.{arith}
use lib.Bits.{bit_or, or_lt, or_comm, or_add_and, and_le_r}
use lib.Dec.{eqb, leb, ltb}
use lib.ListN.{get_or, take, drop}
use borrow.Author.Tests.{le-leb, lt-leb, leb-true, leb-false, lt-ltb, ltb-true, eq-eqb, ne_eqb, eqb-true, eqb-false}
use Rattle.types.specs.Pick.{pick, both, all_of}
use Rattle.types.proofs.Tests.{both_first, both_false}
use Rattle.watched.specs.declared.nodes.WatchedNode.{WatchedNode}
use Rattle.watched.specs.declared.nodes.Scanned.{Scanned}
use Rattle.std.specs.declared.option.Option.{Option}
use Rattle.std.specs.declared.option.Option.TheVariants.{Some, None}
use Rattle.watched.specs.Watched.{latest, in_time, timed, heard_now, heard_at, place_of, watched_of}
use Rattle.watched.specs.Nodes.{node_at, nodes_of, well_ordered, numbered, never, sooner_by, soonest, found_of}
use Rattle.watched.specs.Scan.{one_less, sum_of, three_before, scanned, over, scan_of, scanned_of, first_heard, heard_scanned}
use Rattle.watched.proofs.Lists.{at_end, whole}
use Rattle.watched.proofs.ScanLaws.{both_assoc, scan_head, not_well_ordered, not_numbered, is_rising}
use Rattle.watched.proofs.Watching.{places, turn as turn_at, turn_read, sooner_idle, sooner_unheard, both_up, tried_unformed, tried_formed, formed_begins, find_unformed, find_formed}

-- the walk in words: what is left gives what the whole gives
module _ (ns : List ℕ) (k : ℕ) (below : k ≤ 32) where
  abbrev left : ℕ → List WatchedNode
  left i = drop i (take k (nodes_of ns))

  module _ (m i : ℕ) (c a : Scanned) (e : a ≡ scan_of m c (left i)) where
    pub walk_ends : k ≤ i → c ≡ a
    walk_ends h = sym (e ∙ ap (scan_of m c) (at_end (nodes_of ns) k (places ns) below i h))

    module _ (inside : i < k) (w : WatchedNode) (is : w ≡ node_at ns i) where
      abbrev next : Scanned
      next = scan_of m (over c w) (left (i + 1))

      walk_turn : a ≡ pick (leb w.node c.last) c (pick (eqb w.node m) c next)
      walk_turn = e ∙ ap (scan_of m c) (turn_read ns k below i inside w is)

      pub walk_low : w.node ≤ c.last → c ≡ a
      walk_low h = sym (walk_turn ∙ ap (λ (b : Bool). pick b c (pick (eqb w.node m) c next)) (le-leb w.node c.last h))

      module _ (up : c.last < w.node) where
        up_turn : a ≡ pick (eqb w.node m) c next
        up_turn = walk_turn ∙ ap (λ (b : Bool). pick b c (pick (eqb w.node m) c next)) (lt-leb w.node c.last up)

        pub walk_found : w.node ≡ m → c ≡ a
        walk_found h = sym (up_turn ∙ ap (λ (b : Bool). pick b c next) (eq-eqb w.node m h))

        pub walk_next : (w.node ≡ m → ⊥) → (x : Scanned) → x ≡ over c w → a ≡ scan_of m x (left (i + 1))
        walk_next h x g =
            up_turn ∙ ap (λ (b : Bool). pick b c next) (ne_eqb w.node m h)
            ∙ ap (λ (x : Scanned). scan_of m x (left (i + 1))) (sym g)

-- all times together are within their limit where each is
or_least : (a b : ℕ) → a ≤ bit_or a b
or_least a b = omega (arith, or_add_and a b, and_le_r a b)

pub in_time_both : (a b : ℕ) → in_time (bit_or a b) ≡ both (in_time a) (in_time b)
in_time_both a b = by (leb a latest) refl (leb b latest) refl
  where
    by : (x : Bool) → leb a latest ≡ x → (y : Bool) → leb b latest ≡ y → leb (bit_or a b) latest ≡ both x y
    by true e true f =
        let h : bit_or a b < 2 ^ 62 = or_lt 62 a b (omega (arith, leb-true a latest e)) (omega (arith, leb-true b latest f)) in
        le-leb (bit_or a b) latest (omega (arith, h))
    by true e false f = let l : b ≤ bit_or b a = or_least b a in lt-leb (bit_or a b) latest (omega (arith, l, or_comm a b, leb-false b latest f))
    by false e y f = let l : a ≤ bit_or a b = or_least a b in lt-leb (bit_or a b) latest (omega (arith, l, leb-false a latest e))

-- with one more node
over_in_time : (c : Scanned) (w : WatchedNode) → in_time (over c w).times ≡ both (in_time c.times) (timed w)
over_in_time c w =
    in_time_both (bit_or c.times w.timeout) w.last_heard
    ∙ ap (λ (b : Bool). both b (in_time w.last_heard)) (in_time_both c.times w.timeout)
    ∙ sym (both_assoc (in_time c.times) (in_time w.timeout) (in_time w.last_heard))

-- three before the soonest moment with one more node: what stops at `never` is no moment
stopped : (s x : ℕ) → s ≤ never → min s x ≡ min s (min never x)
stopped s x h = omega (arith, h)

module _ (s : ℕ) (w : WatchedNode) (h : s ≤ never) where
  abbrev less : ℕ → Bool → ℕ
  less x b = pick b never (x - 1)

  awaits : (x y : ℕ) → 0 < x → 0 < y → sum_of (sum_of (x - 1) (y - 1)) 3 ≡ min never (y + x + 1)
  awaits x y p q = omega (arith, p, q)

  pub sooner_by_lem : sooner_by s w ≡ min s (sum_of (three_before w) 3)
  sooner_by_lem = by (eqb w.timeout 0) refl (eqb w.last_heard 0) refl
    where
      by : (x : Bool) → eqb w.timeout 0 ≡ x → (y : Bool) → eqb w.last_heard 0 ≡ y → sooner_by s w ≡ min s (sum_of (three_before w) 3)
      by true e y g =
          let o : one_less w.timeout ≡ never = ap (less w.timeout) e in
          let i : s ≡ sooner_by s w = sooner_idle s w (eqb-true w.timeout 0 e) in
          omega (arith, h, o, i)
      by false e true g =
          let o : one_less w.last_heard ≡ never = ap (less w.last_heard) g in
          let i : s ≡ sooner_by s w = sooner_unheard s w (eqb-false w.timeout 0 e) (eqb-true w.last_heard 0 g) in
          omega (arith, h, o, i)
      by false e false g =
          let t = eqb-false w.timeout 0 e in
          let l = eqb-false w.last_heard 0 g in
          let late : sum_of (three_before w) 3 ≡ min never (w.last_heard + w.timeout + 1) =
          ap₂ (λ (x y : ℕ). sum_of (sum_of x y) 3) (ap (less w.timeout) e) (ap (less w.last_heard) g)
          ∙ awaits w.timeout w.last_heard (omega (arith, t)) (omega (arith, l)) in
          both_up s w t l ∙ stopped s (w.last_heard + w.timeout + 1) h ∙ ap (min s) (sym late)

pub joined : (a x : ℕ) → min (sum_of a 3) (sum_of x 3) ≡ sum_of (min a x) 3
joined a x = omega arith

regrouped : (s a b : ℕ) → min (min s a) b ≡ min s (min a b)
regrouped s a b = omega arith

over_soonest : (s a : ℕ) (w : WatchedNode) → s ≤ never → sooner_by (min s (sum_of a 3)) w ≡ min s (sum_of (min a (three_before w)) 3)
over_soonest s a w h =
    sooner_by_lem (min s (sum_of a 3)) w (omega (arith, h))
    ∙ regrouped s (sum_of a 3) (sum_of (three_before w) 3)
    ∙ ap (min s) (joined a (three_before w))

-- the nodes that the walk leaves
abbrev rest_of : ℕ → Scanned → List WatchedNode → List WatchedNode
rest_of m c [] = []
rest_of m c (w ∷ ws) = pick (leb w.node c.last) (w ∷ ws) (pick (eqb w.node m) (w ∷ ws) (rest_of m (over c w) ws))

module _ (m : ℕ) where
  -- a turn at a node: the walk ends before it, or goes over it
  module _
      (P : Scanned → List WatchedNode → Type 0)
      (c : Scanned) (w : WatchedNode) (ws : List WatchedNode)
      (low : w.node ≤ c.last → P c (w ∷ ws))
      (here : c.last < w.node → w.node ≡ m → P c (w ∷ ws))
      (on : c.last < w.node → (w.node ≡ m → ⊥) → P (scan_of m (over c w) ws) (rest_of m (over c w) ws)) where
    turn : P (scan_of m c (w ∷ ws)) (rest_of m c (w ∷ ws))
    turn = by (leb w.node c.last) refl (eqb w.node m) refl
      where
        by :
            (x : Bool) → leb w.node c.last ≡ x → (y : Bool) → eqb w.node m ≡ y →
            P (pick x c (pick y c (scan_of m (over c w) ws))) (pick x (w ∷ ws) (pick y (w ∷ ws) (rest_of m (over c w) ws)))
        by true e y f = low (leb-true w.node c.last e)
        by false e true f = here (leb-false w.node c.last e) (eqb-true w.node m f)
        by false e false f = on (leb-false w.node c.last e) (eqb-false w.node m f)

  -- the walk and what it leaves climb where the whole does
  walk_well_ordered :
      (c : Scanned) (ws : List WatchedNode) →
      both (in_time c.times) (well_ordered c.last ws) ≡ both (in_time (scan_of m c ws).times) (well_ordered (scan_of m c ws).last (rest_of m c ws))
  walk_well_ordered c [] = refl
  walk_well_ordered c (w ∷ ws) =
      turn (λ r q. both (in_time c.times) (well_ordered c.last (w ∷ ws)) ≡ both (in_time r.times) (well_ordered r.last q)) c w ws
      (λ _. refl)
      (λ _ _. refl)
      (λ up _.
      ap (λ (b : Bool). both (in_time c.times) (both (both b (timed w)) (well_ordered w.node ws))) (lt-ltb c.last w.node up)
      ∙ both_assoc (in_time c.times) (timed w) (well_ordered w.node ws)
      ∙ ap (λ (b : Bool). both b (well_ordered w.node ws)) (sym (over_in_time c w))
      ∙ walk_well_ordered (over c w) ws)

  -- the place of the node sought
  walk_place : (c : Scanned) (ws : List WatchedNode) → c.place + place_of m ws ≡ (scan_of m c ws).place + place_of m (rest_of m c ws)
  walk_place c [] = refl
  walk_place c (w ∷ ws) =
      turn (λ r q. c.place + place_of m (w ∷ ws) ≡ r.place + place_of m q) c w ws
      (λ _. refl)
      (λ _ _. refl)
      (λ _ apart.
      let p : place_of m (w ∷ ws) ≡ suc (place_of m ws) = ap (λ (b : Bool). pick b 0 (suc (place_of m ws))) (ne_eqb w.node m apart) in
      let i : c.place + 1 + place_of m ws ≡ (scan_of m (over c w) ws).place + place_of m (rest_of m (over c w) ws) = walk_place (over c w) ws in
      omega (arith, p, i))

  -- what the walk leaves where that climbs: nothing, or the node sought and those behind it
  walk_left :
      (c : Scanned) (ws : List WatchedNode) → well_ordered (scan_of m c ws).last (rest_of m c ws) ≡ true →
      (place_of m (rest_of m c ws) ≡ 0) × ((t : ℕ) → heard_at m t (rest_of m c ws) ≡ first_heard t (rest_of m c ws))
  walk_left c [] = λ h. (refl, λ t. refl)
  walk_left c (w ∷ ws) =
      turn (λ r q. well_ordered r.last q ≡ true → (place_of m q ≡ 0) × ((t : ℕ) → heard_at m t q ≡ first_heard t q)) c w ws
      (λ low h.
      let up : c.last < w.node = ltb-true c.last w.node (both_first (ltb c.last w.node) (timed w) (both_first (both (ltb c.last w.node) (timed w)) _ h)) in
      absurd (omega (arith, low, up)))
      (λ _ here h.
      let e : eqb w.node m ≡ true = eq-eqb w.node m here in
      (ap (λ (b : Bool). pick b 0 (suc (place_of m ws))) e, λ t. ap (λ (b : Bool). pick b (heard_now t w ∷ ws) (w ∷ heard_at m t ws)) e))
      (λ _ _. walk_left (over c w) ws)

  -- the soonest moment of nodes of which each that was walked is as it was
  module _
      (s : ℕ) (h : s ≤ never)
      (f : List WatchedNode → List WatchedNode) (kept : (w : WatchedNode) (ws : List WatchedNode) → (w.node ≡ m → ⊥) → f (w ∷ ws) ≡ w ∷ f ws) where
    walk_soonest :
        (c : Scanned) (ws : List WatchedNode) →
        soonest (min s (sum_of c.soonest 3)) (f ws) ≡ soonest (min s (sum_of (scan_of m c ws).soonest 3)) (f (rest_of m c ws))
    walk_soonest c [] = refl
    walk_soonest c (w ∷ ws) =
        turn (λ r q. soonest (min s (sum_of c.soonest 3)) (f (w ∷ ws)) ≡ soonest (min s (sum_of r.soonest 3)) (f q)) c w ws
        (λ _. refl)
        (λ _ _. refl)
        (λ _ apart.
        ap (soonest (min s (sum_of c.soonest 3))) (kept w ws apart)
        ∙ ap (λ (x : ℕ). soonest x (f ws)) (over_soonest s c.soonest w h)
        ∙ walk_soonest (over c w) ws)

  -- what the walk leaves, by its place
  drop_next : (l : List WatchedNode) (i : ℕ) (w : WatchedNode) (ws : List WatchedNode) → w ∷ ws ≡ drop i l → ws ≡ drop (i + 1) l
  drop_next [] zero w ws e = cc
  drop_next [] (suc i) w ws e = cc
  drop_next (x ∷ xs) zero w ws e = cc
  drop_next (x ∷ xs) (suc i) w ws e = let j : suc (i + 1) ≡ suc i + 1 = omega arith in drop_next xs i w ws e ∙ ap (λ (j : ℕ). drop j (x ∷ xs)) j

  walk_rest : (l : List WatchedNode) (c : Scanned) (ws : List WatchedNode) → ws ≡ drop c.place l → rest_of m c ws ≡ drop (scan_of m c ws).place l
  walk_rest l c [] = λ e. e
  walk_rest l c (w ∷ ws) =
      turn (λ r q. w ∷ ws ≡ drop c.place l → q ≡ drop r.place l) c w ws
      (λ _ e. e)
      (λ _ _ e. e)
      (λ _ _ e. walk_rest l (over c w) ws (drop_next l c.place w ws e))

-- the walk from the place p on, where n is the number before it
module _ (ns : List ℕ) (k : ℕ) (below : k ≤ 32) (m p n : ℕ) (r : Scanned) (e : r ≡ scan_of m (scanned p n 0 never) (left ns k below p)) where
  abbrev c₀ : Scanned
  c₀ = scanned p n 0 never

  abbrev ahead : List WatchedNode
  ahead = left ns k below p

  abbrev behind : List WatchedNode
  behind = left ns k below r.place

  rest : rest_of m c₀ ahead ≡ behind
  rest = walk_rest m (take k (nodes_of ns)) c₀ ahead refl ∙ ap (λ (r : Scanned). left ns k below r.place) (sym e)

  pub comes_after_by : well_ordered n ahead ≡ both (in_time r.times) (well_ordered r.last behind)
  comes_after_by =
      walk_well_ordered m c₀ ahead
      ∙ ap₂ (λ (r : Scanned) (q : List WatchedNode). both (in_time r.times) (well_ordered r.last q)) (sym e) rest

  pub comes_after_late : in_time r.times ≡ false → well_ordered n ahead ≡ false
  comes_after_late h = comes_after_by ∙ ap (λ (b : Bool). both b (well_ordered r.last behind)) h

  pub comes_after_none : well_ordered r.last behind ≡ false → well_ordered n ahead ≡ false
  comes_after_none h = comes_after_by ∙ ap (both (in_time r.times)) h ∙ both_false (in_time r.times)

  pub comes_after_all : in_time r.times ≡ true → well_ordered r.last behind ≡ true → well_ordered n ahead ≡ true
  comes_after_all i h = comes_after_by ∙ ap₂ both i h

  left_by_lem :
      well_ordered r.last behind ≡ true → (place_of m behind ≡ 0) × ((t : ℕ) → heard_at m t behind ≡ first_heard t behind)
  left_by_lem h =
      let x = walk_left m c₀ ahead (ap₂ (λ (r : Scanned) (q : List WatchedNode). well_ordered r.last q) (sym e) rest ∙ h) in
      (sym (ap (place_of m) rest) ∙ x.0, λ t. sym (ap (heard_at m t) rest) ∙ x.1 t ∙ ap (first_heard t) rest)

  pub sought_at : well_ordered r.last behind ≡ true → p + place_of m ahead ≡ r.place
  sought_at h =
      let i : p + place_of m ahead ≡ r.place + place_of m behind =
      walk_place m c₀ ahead ∙ ap₂ (λ (r : Scanned) (q : List WatchedNode). r.place + place_of m q) (sym e) rest in
      omega (arith, i, (left_by_lem h).0)

  module _ (s : ℕ) (h : s ≤ never) where
    soonest_by :
        (f : List WatchedNode → List WatchedNode) → ((w : WatchedNode) (ws : List WatchedNode) → (w.node ≡ m → ⊥) → f (w ∷ ws) ≡ w ∷ f ws) →
        soonest s (f ahead) ≡ soonest (min s (sum_of r.soonest 3)) (f behind)
    soonest_by f kept =
        let none : s ≡ min s (sum_of never 3) = omega (arith, h) in
        ap (λ (x : ℕ). soonest x (f ahead)) none
        ∙ walk_soonest m s h f kept c₀ ahead
        ∙ ap₂ (λ (r : Scanned) (q : List WatchedNode). soonest (min s (sum_of r.soonest 3)) (f q)) (sym e) rest

    -- all were walked
    pub scanned_all : in_time r.times ≡ true → k ≤ r.place → (x : ℕ) → x ≡ min s (sum_of r.soonest 3) → Some x ≡ scanned_of n s ahead
    scanned_all i end x g =
        let z : behind ≡ [] = at_end (nodes_of ns) k (places ns) below r.place end in
        let b : well_ordered n ahead ≡ true = comes_after_all i (ap (well_ordered r.last) z) in
        let y : soonest s ahead ≡ x = soonest_by (λ l. l) (λ w ws _. refl) ∙ ap (soonest (min s (sum_of r.soonest 3))) z ∙ sym g in
        sym (ap₂ (λ (b : Bool) (x : ℕ). pick b (Some x) None) b y)

  pub heard_by_walk :
      well_ordered r.last behind ≡ true → (t x : ℕ) → x ≡ soonest (sum_of r.soonest 3) (first_heard t behind) → soonest never (heard_at m t ahead) ≡ x
  heard_by_walk h t x g =
      let y : min never (sum_of r.soonest 3) ≡ sum_of r.soonest 3 = omega arith in
      soonest_by never (omega arith) (heard_at m t) (λ w ws apart. ap (λ (b : Bool). pick b (heard_now t w ∷ ws) (w ∷ heard_at m t ws)) (ne_eqb w.node m apart))
      ∙ ap₂ soonest y ((left_by_lem h).1 t)
      ∙ sym g

-- a walk that seeks the number 0, which no node that climbs has, ends before its end where the
-- nodes don't climb
module _ (ns : List ℕ) (k : ℕ) (below : k ≤ 32) (p n : ℕ) (r : Scanned) (e : r ≡ scan_of 0 (scanned p n 0 never) (left ns k below p)) where
  not_all : r.place < k → well_ordered r.last (left ns k below r.place) ≡ false
  not_all inside = by (well_ordered r.last (left ns k below r.place)) refl
    where
      z : left ns k below r.place ≡ node_at ns r.place ∷ left ns k below (r.place + 1)
      z = turn_at ns k below r.place inside

      at_0 : (b : Bool) → pick b 0 (suc (place_of 0 (left ns k below (r.place + 1)))) ≡ 0 → b ≡ true
      at_0 true h = refl
      at_0 false h = absurd (omega (arith, h))

      by : (b : Bool) → well_ordered r.last (left ns k below r.place) ≡ b → b ≡ false
      by true c =
          let q : place_of 0 (node_at ns r.place ∷ left ns k below (r.place + 1)) ≡ 0 =
          sym (ap (place_of 0) z) ∙ (left_by_lem ns k below 0 p n r e c).0 in
          let w : get_or ns (3 * r.place) 0 ≡ 0 = eqb-true (get_or ns (3 * r.place) 0) 0 (at_0 (eqb (get_or ns (3 * r.place) 0) 0) q) in
          let u : r.last < get_or ns (3 * r.place) 0 = scan_head r.last (node_at ns r.place) (left ns k below (r.place + 1)) (sym (ap (well_ordered r.last) z) ∙ c) in
          absurd (omega (arith, w, u))
      by false c = refl

  pub scanned_not : (s : ℕ) → well_ordered n (left ns k below p) ≡ false → None ≡ scanned_of n s (left ns k below p)
  scanned_not s h = sym (ap (λ (b : Bool). pick b (Some (soonest s (left ns k below p))) None) h)

  pub scanned_short : (s : ℕ) → r.place < k → None ≡ scanned_of n s (left ns k below p)
  scanned_short s h = scanned_not s (comes_after_none ns k below 0 p n r e (not_all h))

  pub scanned_late : (s : ℕ) → in_time r.times ≡ false → None ≡ scanned_of n s (left ns k below p)
  scanned_late s h = scanned_not s (comes_after_late ns k below 0 p n r e h)

-- the first of the nodes from the place p on heard at t
module _ (ns : List ℕ) (k : ℕ) (below : k ≤ 32) (p n s t : ℕ) (inside : p < k) (w : WatchedNode) (is : w ≡ node_at ns p) (z : Bool) (f : z ≡ both (ltb n w.node) (timed w)) where
  abbrev heard_if : Bool → Option ℕ
  heard_if z =
      pick (both z (well_ordered w.node (left ns k below (p + 1))))
      (Some (soonest (sooner_by s (heard_now t w)) (left ns k below (p + 1)))) None

  first_turn : (y : Bool) → z ≡ y → heard_scanned n s t (left ns k below p) ≡ heard_if y
  first_turn y h = ap (heard_scanned n s t) (turn_read ns k below p inside w is) ∙ ap heard_if (sym f ∙ h)

  pub first_stops : z ≡ false → None ≡ heard_scanned n s t (left ns k below p)
  first_stops h = sym (first_turn false h)

  pub first_next :
      z ≡ true → (x : ℕ) → x ≡ sooner_by s (heard_now t w) → scanned_of w.node x (left ns k below (p + 1)) ≡ heard_scanned n s t (left ns k below p)
  first_next h x g = ap (λ (x : ℕ). scanned_of w.node x (left ns k below (p + 1))) g ∙ sym (first_turn true h)

-- the node sought among all: well formed by climbing and by the numbers, its place, and the soonest
-- moment with it heard at t
module _ (ns : List ℕ) (k : ℕ) (below : k ≤ 32) (m t : ℕ) (r : Scanned) (e : r ≡ scan_of m (scanned 0 0 0 never) (left ns k below 0)) where
  abbrev vs : List WatchedNode
  vs = watched_of (nodes_of ns) k

  abbrev all : List WatchedNode
  all = left ns k below 0

  pub seek_late : in_time r.times ≡ false → None ≡ found_of m t vs
  seek_late h = find_unformed ns k m t (formed_begins ns k below ∙ not_well_ordered 0 all (comes_after_late ns k below m 0 0 r e h))

  module _ (s : ℕ) (g : s ≡ sum_of r.soonest 3) (a : Option ℕ) (f : a ≡ heard_scanned r.last s t (left ns k below r.place)) where
    pub seek_unformed : a ≡ None → None ≡ found_of m t vs
    seek_unformed h =
        find_unformed ns k m t (formed_begins ns k below ∙ not_well_ordered 0 all (comes_after_none ns k below m 0 0 r e (tried_unformed _ _ a f h)))

    module _ (i : in_time r.times ≡ true) (x : ℕ) (h : a ≡ Some x) where
      formed : (well_ordered r.last (left ns k below r.place) ≡ true) × (x ≡ soonest s (first_heard t (left ns k below r.place)))
      formed = tried_formed (well_ordered r.last (left ns k below r.place)) (soonest s (first_heard t (left ns k below r.place))) a f x h

      pub seek_comes_after : well_ordered 0 all ≡ true
      seek_comes_after = comes_after_all ns k below m 0 0 r e i formed.0

      pub seek_unnumbered : all_of numbered all ≡ false → None ≡ found_of m t vs
      seek_unnumbered n = find_unformed ns k m t (formed_begins ns k below ∙ not_numbered 0 all seek_comes_after n)

      pub seek_found : all_of numbered all ≡ true → Some (r.place, x) ≡ found_of m t vs
      seek_found n =
          let w : vs ≡ all = whole (nodes_of ns) k (places ns) below in
          let p : place_of m all ≡ r.place = omega (arith, sought_at ns k below m 0 0 r e formed.0) in
          find_formed ns k m t (formed_begins ns k below ∙ is_rising 0 all seek_comes_after n) r.place x (ap (place_of m) w ∙ p)
          (ap (λ (l : List WatchedNode). soonest never (heard_at m t l)) w
          ∙ heard_by_walk ns k below m 0 0 r e formed.0 t x
          (formed.1 ∙ ap (λ (s : ℕ). soonest s (first_heard t (left ns k below r.place))) g))
