-- The watched nodes as an array and as a list: whether they are well formed, node by node, the
-- place of a node, and the times set.
-- Assumes nothing.
use Prim.Native.Nat.{ℕ, zero, suc, ◌+◌, ◌≤◌, ◌<◌}
use mathlib.Core.Path.{◌≡◌, refl, sym, ap, ap₂, ◌∙◌}
use mathlib.Core.Bool.{Bool, true, false, false≢true}
use mathlib.Core.List.{List, [], ◌∷◌, ◌++◌, map}
use native.Mathlib.Omega.{arith}
use native.Mathlib.Numerals.{add-one}
use lib.Dec.{eqb, leb, ltb}
use lib.ListN.{length, get_or, set, take, drop, take-append-drop, length-append, drop_of_length-le}
use lib.Seq.{length-take-le, take-suc, drop-cons, append_snoc, set-append_left, get_or-take, set_at, get_or_at, take_at}
use borrow.Author.Tests.{ltb-true, ltb-false, le-leb, lt-leb, leb-true}
use Rattle.std.proofs.lemmas.List.{length-map, map-append}
use Rattle.types.specs.Pick.{pick, both, either, all_of}
use Rattle.types.specs.Types.{is_node}
use Rattle.types.proofs.Tests.{both_false}
use Rattle.entries.specs.Ring.{listed}
use Rattle.entries.proofs.Rings.{listed_long}
use Rattle.watched.specs.declared.nodes.WatchedNode.{WatchedNode}
use Rattle.watched.specs.Nodes.{rising}
use Rattle.watched.specs.Watched.{ascending, fits, well_formed, no_node, heard_now, is_watched, heard_at, place_of, watched_of, heard_first}

-- the first k nodes of an array that has as many
pub watched_take : (ns : List WatchedNode) (k : ℕ) → k ≤ length ns → watched_of ns k ≡ take k ns
unfolding listed
watched_take ns zero h = refl
watched_take [] (suc k) h = absurd (omega arith)
watched_take (w ∷ ws) (suc k) h = ap (λ (l : List WatchedNode). w ∷ l) (watched_take ws k (omega arith))

-- well formed is tried node by node
abbrev above : ℕ → List WatchedNode → Bool
above n [] = true
above n (w ∷ ws) = both (ltb n w.node) (above w.node ws)

ascending_above : (w : WatchedNode) (ws : List WatchedNode) → ascending (w ∷ ws) ≡ above w.node ws
ascending_above w [] = refl
ascending_above w (v ∷ vs) = ap (both (ltb w.node v.node)) (ascending_above v vs)

swap : (a f u v : Bool) → both (both a f) (both u v) ≡ both (both a u) (both f v)
swap true true true v = refl
swap true true false v = refl
swap true false true v = refl
swap true false false v = refl
swap false f u v = refl

rising_above : (n : ℕ) (ws : List WatchedNode) → rising n ws ≡ both (above n ws) (all_of fits ws)
rising_above n [] = refl
rising_above n (w ∷ ws) =
    ap (both (both (ltb n w.node) (fits w))) (rising_above w.node ws)
    ∙ swap (ltb n w.node) (fits w) (above w.node ws) (all_of fits ws)

-- a node within its limits has a number above 0
above_zero : (w : WatchedNode) (u v : Bool) → both (both (ltb 0 w.node) u) (both (fits w) v) ≡ both u (both (fits w) v)
above_zero w u v = by (ltb 0 w.node) refl
  where
    none : (n : ℕ) → n ≤ 0 → is_node n ≡ false
    none zero h = refl
    none (suc n) h = absurd (omega arith)

    by : (b : Bool) → ltb 0 w.node ≡ b → both (both b u) (both (fits w) v) ≡ both u (both (fits w) v)
    by true e = refl
    by false e = rw (none w.node (ltb-false 0 w.node e)) (sym (both_false u))

pub rising_all : (ws : List WatchedNode) → rising 0 ws ≡ both (ascending ws) (all_of fits ws)
rising_all [] = refl
rising_all (w ∷ ws) =
    rising_above 0 (w ∷ ws)
    ∙ above_zero w (above w.node ws) (all_of fits ws)
    ∙ ap (λ (b : Bool). both b (all_of fits (w ∷ ws))) (sym (ascending_above w ws))

module _ (ns : List WatchedNode) (k : ℕ) where
  pub too_many : 32 < k → false ≡ well_formed (watched_of ns k)
  unfolding well_formed
  too_many h = rw (listed_long (λ (i : ℕ). get_or ns i no_node) k, lt-leb k 32 h)

  module _ (long : length ns ≡ 32) (few : k ≤ 32) where
    within : k ≤ length ns
    within = omega arith

    pub tests_begin : well_formed (watched_of ns k) ≡ rising 0 (drop 0 (take k ns))
    unfolding well_formed
    tests_begin =
        rw (listed_long (λ (i : ℕ). get_or ns i no_node) k, le-leb k 32 few, watched_take ns k within) (sym (rising_all (take k ns)))

    module _ (i : ℕ) (d : WatchedNode) (inside : i < k) where
      pub from_here : drop i (take k ns) ≡ get_or ns i d ∷ drop (i + 1) (take k ns)
      from_here =
          let l : i < length (take k ns) = rw (length-take-le k ns within) inside in
          rw (add-one, ← get_or-take k ns i d inside) (drop-cons (take k ns) i d l)

    pub at_end : (i : ℕ) → k ≤ i → drop i (take k ns) ≡ []
    at_end i h = drop_of_length-le (take k ns) {i = i} (rw (length-take-le k ns within) h)

-- a node is watched exactly where its place is before the end
place_inside : (n : ℕ) (ws : List WatchedNode) → place_of n ws < length ws → is_watched n ws ≡ true
place_inside n [] h = absurd (omega arith)
place_inside n (w ∷ ws) h = by (eqb w.node n) (place_inside n ws) h
  where
    by :
        (b : Bool) → (place_of n ws < length ws → is_watched n ws ≡ true) →
        pick b 0 (suc (place_of n ws)) < suc (length ws) → either b (is_watched n ws) ≡ true
    by true more l = refl
    by false more l = more (omega arith)

place_outside : (n : ℕ) (ws : List WatchedNode) → length ws ≤ place_of n ws → is_watched n ws ≡ false
place_outside n [] h = refl
place_outside n (w ∷ ws) h = by (eqb w.node n) (place_outside n ws) h
  where
    by :
        (b : Bool) → (length ws ≤ place_of n ws → is_watched n ws ≡ false) →
        suc (length ws) ≤ pick b 0 (suc (place_of n ws)) → either b (is_watched n ws) ≡ false
    by true more l = absurd (omega arith)
    by false more l = more (omega arith)

-- setting the time of a watched node is one store at its place
heard_set :
    (n t : ℕ) (ws : List WatchedNode) (d : WatchedNode) →
    place_of n ws < length ws →
    heard_at n t ws ≡ set ws (place_of n ws) (heard_now t (get_or ws (place_of n ws) d))
heard_set n t [] d h = absurd (omega arith)
heard_set n t (w ∷ ws) d h = by (eqb w.node n) (heard_set n t ws d) h
  where
    by :
        (b : Bool) →
        (place_of n ws < length ws → heard_at n t ws ≡ set ws (place_of n ws) (heard_now t (get_or ws (place_of n ws) d))) →
        pick b 0 (suc (place_of n ws)) < suc (length ws) →
        pick b (heard_now t w ∷ ws) (w ∷ heard_at n t ws) ≡
        set (w ∷ ws) (pick b 0 (suc (place_of n ws))) (heard_now t (get_or (w ∷ ws) (pick b 0 (suc (place_of n ws))) d))
    by true more l = refl
    by false more l = ap (λ (l : List WatchedNode). w ∷ l) (more (omega arith))

heard_long : (n t : ℕ) (ws : List WatchedNode) → length (heard_at n t ws) ≡ length ws
heard_long n t [] = refl
heard_long n t (w ∷ ws) = by (eqb w.node n) (heard_long n t ws)
  where
    by :
        (b : Bool) → length (heard_at n t ws) ≡ length ws →
        length (pick b (heard_now t w ∷ ws) (w ∷ heard_at n t ws)) ≡ suc (length ws)
    by true more = refl
    by false more = ap suc more

-- one law for every loop that sets each of the first nodes
module _ (f : WatchedNode → WatchedNode) where
  -- a node that the loop has not reached is as it was
  pub each_ahead :
      (ns l : List WatchedNode) (i : ℕ) (d : WatchedNode) → i < length ns → l ≡ map f (take i ns) ++ drop i ns → get_or l i d ≡ get_or ns i d
  each_ahead ns l i d h e =
      let xs : List WatchedNode = map f (take i ns) in
      let long : length xs ≡ i = length-map (take i ns) f ∙ length-take-le i ns (omega arith) in
      ap (λ (l : List WatchedNode). get_or l i d) (e ∙ ap (λ (r : List WatchedNode). xs ++ r) (drop-cons ns i d h))
      ∙ get_or_at xs (get_or ns i d) (drop (suc i) ns) d i long

  -- a turn of the loop: the node at its place is set
  pub each_turn :
      (ns l : List WatchedNode) (i : ℕ) (d : WatchedNode) →
      i < length ns →
      l ≡ map f (take i ns) ++ drop i ns →
      (v : WatchedNode) →
      v ≡ f (get_or l i d) →
      set l i v ≡ map f (take (i + 1) ns) ++ drop (i + 1) ns
  each_turn ns l i d h e v g =
      let w : WatchedNode = get_or ns i d in
      let xs : List WatchedNode = map f (take i ns) in
      let long : length xs ≡ i = length-map (take i ns) f ∙ length-take-le i ns (omega arith) in
      let here : l ≡ xs ++ (w ∷ drop (suc i) ns) = e ∙ ap (λ (r : List WatchedNode). xs ++ r) (drop-cons ns i d h) in
      let next : map f (take (i + 1) ns) ++ drop (i + 1) ns ≡ xs ++ (f w ∷ drop (suc i) ns) =
      rw (add-one, take-suc ns i d h, map-append f (take i ns) (w ∷ [])) (append_snoc xs (f w) (drop (suc i) ns)) in
      let new : v ≡ f w = g ∙ ap f (each_ahead ns l i d h e) in
      ap₂ (λ (l : List WatchedNode) (v : WatchedNode). set l i v) here new
      ∙ set_at xs w (drop (suc i) ns) (f w) i long
      ∙ sym next

-- the first k nodes of an array of which only those were set
pub front : (ns ws : List WatchedNode) (k : ℕ) → length ws ≡ k → watched_of (ws ++ drop k ns) k ≡ ws
front ns ws k h =
    watched_take (ws ++ drop k ns) k (rw length-append (omega arith)) ∙ take_at ws (drop k ns) k h

module _ (ns : List WatchedNode) (k : ℕ) (long : length ns ≡ 32) (few : k ≤ 32) where
  pub taken_long : length (take k ns) ≡ k
  taken_long = length-take-le k ns (omega arith)

  pub whole : watched_of ns k ≡ take k ns
  whole = watched_take ns k (omega arith)

  pub each_nodes : (f : WatchedNode → WatchedNode) → watched_of (map f (take k ns) ++ drop k ns) k ≡ map f (watched_of ns k)
  each_nodes f = front ns (map f (take k ns)) k (length-map (take k ns) f ∙ taken_long) ∙ ap (map f) (sym whole)

  -- whether a node is watched, by its place
  module _ (n p : ℕ) (e : p ≡ place_of n (watched_of ns k)) where
    at_place : p ≡ place_of n (take k ns)
    at_place = e ∙ ap (place_of n) whole

    pub watched_by : ltb p k ≡ is_watched n (watched_of ns k)
    watched_by = by (ltb p k) refl
      where
        by : (b : Bool) → ltb p k ≡ b → b ≡ is_watched n (watched_of ns k)
        by true c = sym (rw (whole) (place_inside n (take k ns) (rw (← at_place, taken_long) (ltb-true p k c))))
        by false c = sym (rw (whole) (place_outside n (take k ns) (rw (← at_place, taken_long) (ltb-false p k c))))

  module _ (n t : ℕ) where
    pub heard_nodes : watched_of (heard_first n t k ns) k ≡ heard_at n t (watched_of ns k)
    heard_nodes = front ns (heard_at n t (take k ns)) k (heard_long n t (take k ns) ∙ taken_long) ∙ ap (heard_at n t) (sym whole)

    module _ (p : ℕ) (e : p ≡ place_of n (watched_of ns k)) where
      pub heard_stored : (d : WatchedNode) → p < k → set ns p (heard_now t (get_or ns p d)) ≡ heard_first n t k ns
      heard_stored d h =
          let l : place_of n (take k ns) < length (take k ns) = rw (← at_place n p e, taken_long) h in
          let s : heard_at n t (take k ns) ≡ set (take k ns) p (heard_now t (get_or ns p d)) =
          rw (at_place n p e, ← get_or-take k ns (place_of n (take k ns)) d (rw (← at_place n p e) h)) (heard_set n t (take k ns) d l) in
          sym (ap (λ (l : List WatchedNode). l ++ drop k ns) s
          ∙ sym (set-append_left (take k ns) (drop k ns) p (heard_now t (get_or ns p d)) (rw taken_long h))
          ∙ ap (λ (l : List WatchedNode). set l p (heard_now t (get_or ns p d))) (take-append-drop k ns))

-- well formed nodes are at most 32
pub few : (ns : List WatchedNode) (k : ℕ) (b : Bool) → b ≡ well_formed (watched_of ns k) → b ≡ true → k ≤ 32
unfolding well_formed
few ns k b e t = by (leb k 32) refl (sym e ∙ t)
  where
    long : length (watched_of ns k) ≡ k
    long = listed_long (λ (i : ℕ). get_or ns i no_node) k

    by : (b : Bool) → leb k 32 ≡ b → well_formed (watched_of ns k) ≡ true → k ≤ 32
    by true h w = leb-true k 32 h
    by false h w = absurd (false≢true (rw (long, h) at w))
