-- Well formed in two parts: nodes climb, which is tried as they are walked, and each has a node's
-- number, which is tried from the last one back.
-- Assumes nothing.
use Prim.Native.Nat.{ℕ, zero, suc, ◌+◌, ◌-◌, ◌<◌, ◌≤◌}
use mathlib.Core.Path.{◌≡◌, refl, sym, ap, ap₂, ◌∙◌}
use mathlib.Core.Bool.{Bool, true, false}
use mathlib.Core.List.{List, [], ◌∷◌}
use native.Mathlib.Omega.{arith}
use lib.Dec.{ltb}
use lib.ListN.{length, get_or, take, drop, length-drop}
use lib.Seq.{length-take-le, get_or-take, get_or-drop}
use borrow.Author.Tests.{ltb-true, le-leb}
use Rattle.types.specs.Pick.{pick, both, all_of}
use Rattle.types.specs.Types.{is_node}
use Rattle.types.proofs.Tests.{both_first, both_second, both_false, both_true}
use Rattle.std.specs.declared.option.Option.TheVariants.{Some, None}
use Rattle.watched.specs.declared.nodes.WatchedNode.{WatchedNode}
use Rattle.watched.specs.Watched.{timed, fits, no_node}
use Rattle.watched.specs.Nodes.{node_at, nodes_of, not_before, rising, well_ordered, numbered, active_from}
use Rattle.watched.proofs.Lists.{at_end}
use Rattle.watched.proofs.Watching.{places, node_at_lem, turn_read}

pub both_assoc : (a b c : Bool) → both a (both b c) ≡ both (both a b) c
both_assoc true b c = refl
both_assoc false b c = refl

-- a node follows where it climbs and has a number
parts : (a b c u v : Bool) → both (both a (both b c)) (both u v) ≡ both (both (both a c) u) (both b v)
parts true true true u v = refl
parts true true false u v = refl
parts true false c u v = sym (both_false (both c u))
parts false b c u v = refl

pub rising_parts : (n : ℕ) (ws : List WatchedNode) → rising n ws ≡ both (well_ordered n ws) (all_of numbered ws)
rising_parts n [] = refl
rising_parts n (w ∷ ws) =
    ap (both (both (ltb n w.node) (fits w))) (rising_parts w.node ws)
    ∙ parts (ltb n w.node) (is_node w.node) (timed w) (well_ordered w.node ws) (all_of numbered ws)

-- of nodes that climb, each is above the number before them, and those before one of at most 240
-- have a number
pub scan_head : (n : ℕ) (w : WatchedNode) (ws : List WatchedNode) → well_ordered n (w ∷ ws) ≡ true → n < w.node
scan_head n w ws c = ltb-true n w.node (both_first (ltb n w.node) (timed w) (both_first (both (ltb n w.node) (timed w)) (well_ordered w.node ws) c))

scan_tail : (n : ℕ) (w : WatchedNode) (ws : List WatchedNode) → well_ordered n (w ∷ ws) ≡ true → well_ordered w.node ws ≡ true
scan_tail n w ws c = both_second (both (ltb n w.node) (timed w)) (well_ordered w.node ws) c

scan_above : (n : ℕ) (ws : List WatchedNode) (j : ℕ) (d : WatchedNode) → well_ordered n ws ≡ true → j < length ws → n < (get_or ws j d).node
scan_above n [] j d c h = absurd (omega arith)
scan_above n (w ∷ ws) zero d c h = scan_head n w ws c
scan_above n (w ∷ ws) (suc j) d c h =
    let a : n < w.node = scan_head n w ws c in
    let b : w.node < (get_or ws j d).node = scan_above w.node ws j d (scan_tail n w ws c) (omega arith) in
    omega (arith, a, b)

low : (n : ℕ) → 0 < n → n ≤ 240 → is_node n ≡ true
low n h l = rw (le-leb 1 n h, le-leb n 240 l)

numbers_low :
    (n : ℕ) (ws : List WatchedNode) (j : ℕ) (d : WatchedNode) →
    well_ordered n ws ≡ true → j < length ws → (get_or ws j d).node ≤ 240 → all_of numbered (take (suc j) ws) ≡ true
numbers_low n [] j d c h l = absurd (omega arith)
numbers_low n (w ∷ ws) zero d c h l =
    let a : n < w.node = scan_head n w ws c in
    ap (λ (b : Bool). both b true) (low w.node (omega (arith, a)) l)
numbers_low n (w ∷ ws) (suc j) d c h l =
    let a : n < w.node = scan_head n w ws c in
    let b : w.node < (get_or ws j d).node = scan_above w.node ws j d (scan_tail n w ws c) (omega arith) in
    ap₂ both (low w.node (omega (arith, a)) (omega (arith, b, l))) (numbers_low w.node ws j d (scan_tail n w ws c) (omega arith) l)

-- a test of one more item
all_more : (p : WatchedNode → Bool) (ws : List WatchedNode) (j : ℕ) (d : WatchedNode) → j < length ws → all_of p (take (suc j) ws) ≡ both (all_of p (take j ws)) (p (get_or ws j d))
all_more p [] j d h = absurd (omega arith)
all_more p (w ∷ ws) zero d h = both_true (p w)
all_more p (w ∷ ws) (suc j) d h = ap (both (p w)) (all_more p ws j d (omega arith)) ∙ both_assoc (p w) (all_of p (take j ws)) (p (get_or ws j d))

module _ (ns : List ℕ) (k : ℕ) (below : k ≤ 32) where
  abbrev left : ℕ → List WatchedNode
  left i = drop i (take k (nodes_of ns))

  left_long : (p : ℕ) → length (left p) ≡ k - p
  left_long p = length-drop p (take k (nodes_of ns)) ∙ ap (λ (l : ℕ). l - p) (length-take-le k (nodes_of ns) (rw (places ns) below))

  -- the numbers of the nodes from the place p on, tried from the last one back: those before the
  -- place e are left
  module _ (p : ℕ) (b : Bool) (e : ℕ) (inv : b ≡ all_of numbered (take (e - p) (left p))) (more : p < e) (inside : e ≤ k) where
    abbrev j : ℕ
    j = e - 1 - p

    at_end_of : get_or (left p) j no_node ≡ node_at ns (e - 1)
    at_end_of =
        get_or-drop p (take k (nodes_of ns)) j no_node
        ∙ ap (λ (m : ℕ). get_or (take k (nodes_of ns)) m no_node) (omega arith)
        ∙ get_or-take k (nodes_of ns) (e - 1) no_node (omega arith)
        ∙ node_at_lem ns (e - 1) (omega arith)

    in_left : j < length (left p)
    in_left = rw (left_long p) (omega arith)

    one_more_lem : b ≡ all_of numbered (take (suc j) (left p))
    one_more_lem = let m : e - p ≡ suc j = omega arith in inv ∙ ap (λ (m : ℕ). all_of numbered (take m (left p))) m

    -- at the node that was read there
    module _ (w : WatchedNode) (is : w ≡ node_at ns (e - 1)) where
      here : get_or (left p) j no_node ≡ w
      here = at_end_of ∙ sym is

      turn : b ≡ both (all_of numbered (take j (left p))) (numbered w)
      turn = one_more_lem ∙ all_more numbered (left p) j no_node in_left ∙ ap (λ (w : WatchedNode). both (all_of numbered (take j (left p))) (numbered w)) here

      pub numbers_stop : (z : Bool) → z ≡ numbered w → z ≡ false → b ≡ false
      numbers_stop z f h = turn ∙ ap (both (all_of numbered (take j (left p)))) (sym f ∙ h) ∙ both_false (all_of numbered (take j (left p)))

      pub numbers_next : (z : Bool) → z ≡ numbered w → z ≡ true → b ≡ all_of numbered (take (e - 1 - p) (left p))
      numbers_next z f h = turn ∙ ap (both (all_of numbered (take j (left p)))) (sym f ∙ h) ∙ both_true (all_of numbered (take j (left p)))

      pub numbers_rest : (n : ℕ) → well_ordered n (left p) ≡ true → w.node ≤ 240 → b ≡ true
      numbers_rest n c l = one_more_lem ∙ numbers_low n (left p) j no_node c in_left (rw here l)

  -- whether what is left climbs, and whether it is before now, as the whole
  module _ (i n : ℕ) (b : Bool) (e : b ≡ well_ordered n (left i)) where
    pub well_ordered_ends : k ≤ i → b ≡ true
    well_ordered_ends h = e ∙ ap (well_ordered n) (at_end (nodes_of ns) k (places ns) below i h)

    module _ (inside : i < k) (w : WatchedNode) (is : w ≡ node_at ns i) (z : Bool) (f : z ≡ both (ltb n w.node) (timed w)) where
      well_ordered_turn : (y : Bool) → z ≡ y → b ≡ both y (well_ordered w.node (left (i + 1)))
      well_ordered_turn y h = e ∙ ap (well_ordered n) (turn_read ns k below i inside w is) ∙ ap (λ (y : Bool). both y (well_ordered w.node (left (i + 1)))) (sym f ∙ h)

      pub well_ordered_stops : z ≡ false → b ≡ false
      well_ordered_stops = well_ordered_turn false

      pub well_ordered_next : z ≡ true → b ≡ well_ordered w.node (left (i + 1))
      well_ordered_next = well_ordered_turn true

  module _ (i t : ℕ) (b y : Bool) (e : b ≡ both y (all_of (not_before t) (left i))) where
    pub heard_all_ends : k ≤ i → y ≡ b
    heard_all_ends h = sym (e ∙ ap (λ (l : List WatchedNode). both y (all_of (not_before t) l)) (at_end (nodes_of ns) k (places ns) below i h) ∙ both_true y)

    pub heard_all_next :
        i < k → (w : WatchedNode) → w ≡ node_at ns i → (z : Bool) → z ≡ both y (not_before t w) → b ≡ both z (all_of (not_before t) (left (i + 1)))
    heard_all_next inside w is z f =
        e ∙ ap (λ (l : List WatchedNode). both y (all_of (not_before t) l)) (turn_read ns k below i inside w is)
        ∙ both_assoc y (not_before t w) (all_of (not_before t) (left (i + 1)))
        ∙ ap (λ (z : Bool). both z (all_of (not_before t) (left (i + 1)))) (sym f)

-- whether the nodes behind one are well formed, by the two parts
module _ (n : ℕ) (ws : List WatchedNode) where
  rising_by : (c d : Bool) → well_ordered n ws ≡ c → all_of numbered ws ≡ d → rising n ws ≡ both c d
  rising_by c d e f = rising_parts n ws ∙ ap₂ both e f

  pub not_well_ordered : well_ordered n ws ≡ false → rising n ws ≡ false
  not_well_ordered e = rising_by false (all_of numbered ws) e refl

  pub not_numbered : well_ordered n ws ≡ true → all_of numbered ws ≡ false → rising n ws ≡ false
  not_numbered = rising_by true false

  pub is_rising : well_ordered n ws ≡ true → all_of numbered ws ≡ true → rising n ws ≡ true
  is_rising = rising_by true true

  pub active_not : (t : ℕ) → rising n ws ≡ false → None ≡ active_from n t ws
  active_not t e = sym (ap (λ (b : Bool). pick b (Some (all_of (not_before t) ws)) None) e)

  pub active_all : (t : ℕ) (y : Bool) → y ≡ all_of (not_before t) ws → rising n ws ≡ true → Some y ≡ active_from n t ws
  active_all t y g e = ap Some g ∙ sym (ap (λ (b : Bool). pick b (Some (all_of (not_before t) ws)) None) e)
