-- The bytes of the watched nodes: what each bit says, what a further node changes, and how many bits are set.
-- Assumes nothing.
use Prim.Native.Nat.{ℕ, suc, ◌+◌, ◌*◌, ◌/◌, ◌%◌, ◌^◌, ◌<◌, ◌≤◌}
use mathlib.Core.Path.{◌≡◌, refl, sym, ap, ◌∙◌}
use mathlib.Core.Bool.{Bool, true, false}
use mathlib.Core.List.{List, [], ◌∷◌, ◌++◌}
use native.Mathlib.Numerals.{add-one}
use native.Mathlib.Omega.{arith}
use Rattle.std.specs.List.{sum_by}
use Rattle.std.proofs.lemmas.List.Sums.{sum_by-cons}
use borrow.Author.Tests.{ltb-true, eq-eqb, ne_eqb}
use lib.Bits.{bit_or}
use lib.Count.{ones}
use Rattle.std.proofs.lemmas.Nat.{ones-le}
use lib.Dec.{eqb, leb, ltb}
use lib.ListN.{length, get_or, set}
use Rattle.types.specs.Pick.{pick, both, either, all_of, any_of}
use Rattle.types.proofs.Tests.{both_first, both_second}
use Rattle.std.specs.declared.result.Result.TheVariants.{Ok, Err}
use Rattle.types.specs.declared.refusals.Refusal.TheVariants.{WatchedNodes}
use Rattle.entries.specs.Ring.{listed}
use Rattle.entries.proofs.Rings.{listed_more, listed_same, listed_long}
use Rattle.watched.specs.declared.nodes.WatchedNode.{WatchedNode}
use Rattle.watched.specs.Watched.{ascending, fits, well_formed, no_node, is_watched, watched_of, Run, watching, well_lent}
use Rattle.watched.specs.declared.record.NodeRecord.{NodeRecord}
use Rattle.watched.specs.Nodes.{node_of, node_at, nodes_of, rising}
use Rattle.watched.proofs.Limits.{fits_small, number_small}
use Rattle.watched.proofs.Lists.{rising_all}
use Rattle.watched.proofs.Watching.{listed_at, listed_set, node_at_lem}
use Rattle.bitmap.specs.Bitmap.{lowest_first, is_set, byte_of, bytes_of, with_bit, ones_of, bitmap_reply, bytes_after, BitsWritten}
use Rattle.bitmap.proofs.Bits.{set_at_bit, bit_set, one_more_lem, ones_more}

-- the bits of the byte i
abbrev bits_at : List WatchedNode → ℕ → List Bool
bits_at ws i = listed (λ (j : ℕ). is_watched (8 * i + j) ws) 8

module _ (ws : List WatchedNode) where
  pub bytes_long : length (bytes_of ws) ≡ 32
  unfolding bytes_of
  bytes_long = listed_long (byte_of ws) 32

  module _ (n : ℕ) (below : n < 256) where
    pub byte_at : get_or (bytes_of ws) (n / 8) 0 ≡ byte_of ws (n / 8)
    unfolding bytes_of
    byte_at = listed_at (byte_of ws) 32 (n / 8) 0 (omega arith)

    bit_here : get_or (bits_at ws (n / 8)) (n % 8) false ≡ is_watched n ws
    bit_here =
        let e : 8 * (n / 8) + n % 8 ≡ n = omega arith in
        listed_at (λ (j : ℕ). is_watched (8 * (n / 8) + j) ws) 8 (n % 8) false (omega arith) ∙ ap (λ (m : ℕ). is_watched m ws) e

    -- node n is bit n mod 8 of byte n / 8
    pub bit_told : is_set (get_or (bytes_of ws) (n / 8) 0) (n % 8) ≡ is_watched n ws
    bit_told =
        let long : length (bits_at ws (n / 8)) ≡ 8 = listed_long (λ (j : ℕ). is_watched (8 * (n / 8) + j) ws) 8 in
        ap (λ (b : ℕ). is_set b (n % 8)) byte_at ∙ set_at_bit (bits_at ws (n / 8)) (n % 8) (omega arith) ∙ bit_here

    -- with the node n joined: vs
    module _ (vs : List WatchedNode) (here : is_watched n vs ≡ true) (others : (m : ℕ) → (m ≡ n → ⊥) → is_watched m vs ≡ is_watched m ws) where
      byte_other : (i : ℕ) → (i ≡ n / 8 → ⊥) → byte_of vs i ≡ byte_of ws i
      byte_other i apart =
          ap lowest_first
          (listed_same (λ (j : ℕ). is_watched (8 * i + j) vs) (λ (j : ℕ). is_watched (8 * i + j) ws) 8
          (λ j lt. others (8 * i + j) (λ e. apart (omega arith))))

      bits_here : bits_at vs (n / 8) ≡ set (bits_at ws (n / 8)) (n % 8) true
      bits_here =
          let e : 8 * (n / 8) + n % 8 ≡ n = omega arith in
          listed_set (λ (j : ℕ). is_watched (8 * (n / 8) + j) ws) (λ (j : ℕ). is_watched (8 * (n / 8) + j) vs) 8 (n % 8) (omega arith)
          (λ j apart. others (8 * (n / 8) + j) (λ q. apart (omega arith)))
          ∙ ap (set (bits_at ws (n / 8)) (n % 8)) (ap (λ (m : ℕ). is_watched m vs) e ∙ here)

      bytes_joined : bytes_of vs ≡ set (bytes_of ws) (n / 8) (lowest_first (set (bits_at ws (n / 8)) (n % 8) true))
      unfolding bytes_of
      bytes_joined =
          listed_set (byte_of ws) (byte_of vs) 32 (n / 8) (omega arith) byte_other
          ∙ ap (λ (bs : List Bool). set (listed (byte_of ws) 32) (n / 8) (lowest_first bs)) bits_here

      inside : n % 8 < length (bits_at ws (n / 8))
      inside = omega (arith, listed_long (λ (j : ℕ). is_watched (8 * (n / 8) + j) ws) 8)

      -- its byte by `|`, and all others as they were
      pub joined_by_or : bytes_of vs ≡ set (bytes_of ws) (n / 8) (bit_or (get_or (bytes_of ws) (n / 8) 0) (2 ^ (n % 8)))
      joined_by_or =
          bytes_joined
          ∙ ap (set (bytes_of ws) (n / 8)) (sym (bit_set (bits_at ws (n / 8)) (n % 8) inside) ∙ ap (λ (b : ℕ). bit_or b (2 ^ (n % 8))) (sym byte_at))

      pub joined_counts : is_watched n ws ≡ false → ones_of (bytes_of vs) ≡ suc (ones_of (bytes_of ws))
      joined_counts new =
          ap ones_of bytes_joined
          ∙ ones_more (bytes_of ws) (n / 8) (lowest_first (set (bits_at ws (n / 8)) (n % 8) true)) (omega (arith, bytes_long))
          (one_more_lem (bits_at ws (n / 8)) (n % 8) inside (bit_here ∙ new) ∙ ap (λ (b : ℕ). suc (ones b)) (sym byte_at))

some_more : {A : Type 0} (p : A → Bool) (xs : List A) (y : A) → any_of p (xs ++ (y ∷ [])) ≡ pick (p y) true (any_of p xs)
some_more p [] y = refl
some_more p (x ∷ xs) y = ap (either (p x)) (some_more p xs y) ∙ by (p x) (p y) (any_of p xs)
  where
    by : (a b c : Bool) → either a (pick b true c) ≡ pick b true (either a c)
    by true true c = refl
    by true false c = refl
    by false b c = refl

-- behind some nodes comes another: its bit is set
pub bit_joined : (ws : List WatchedNode) (w : WatchedNode) → w.node < 256 → with_bit w.node (bytes_of ws) ≡ bytes_of (ws ++ (w ∷ []))
bit_joined ws w below =
    sym (joined_by_or ws w.node below (ws ++ (w ∷ []))
    (next w.node ∙ rw (eq-eqb w.node w.node refl))
    (λ m apart. next m ∙ rw (ne_eqb w.node m (λ q. apart (sym q)))))
  where
    next : (m : ℕ) → is_watched m (ws ++ (w ∷ [])) ≡ pick (eqb w.node m) true (is_watched m ws)
    next m = some_more (λ (v : WatchedNode). eqb v.node m) ws w

-- a turn at the node n of the place i of a run
pub turn :
    (vs : List WatchedNode) (i n : ℕ) (s : List ℕ) →
    s ≡ bytes_of (watched_of vs i) → n ≡ (get_or vs i no_node).node → n < 256 → with_bit n s ≡ bytes_of (watched_of vs (i + 1))
turn vs i n s e is below =
    let w : WatchedNode = get_or vs i no_node in
    rw (e, is, add-one, listed_more (λ (j : ℕ). get_or vs j no_node) i) (bit_joined (watched_of vs i) w (omega arith))

-- the number in the words of a node that is watched is a byte
pub node_below :
    {r : NodeRecord} (ns : List ℕ) (k i : ℕ) →
    well_formed (watched_of (nodes_of ns) k) ≡ true → k ≤ 32 → i < k → node_of r ≡ node_at ns i →
    (r.node ≡ (get_or (nodes_of ns) i no_node).node) × (r.node < 256)
node_below {r = r} ns k i formed few lt e =
    let is : r.node ≡ get_or ns (3 * i) 0 = ap (λ (v : WatchedNode). v.node) e in
    let at : (get_or (nodes_of ns) i no_node).node ≡ get_or ns (3 * i) 0 = ap (λ (v : WatchedNode). v.node) (node_at_lem ns i (omega arith)) in
    (is ∙ sym at, omega (arith, is, number_small ns k few formed i lt))

-- how many bits are set
absent : (n m : ℕ) (ws : List WatchedNode) → rising n ws ≡ true → m ≤ n → is_watched m ws ≡ false
absent n m [] r h = refl
absent n m (w ∷ ws) r h =
    let first = both_first (both (ltb n w.node) (fits w)) (rising w.node ws) r in
    let above = ltb-true n w.node (both_first (ltb n w.node) (fits w) first) in
    rw (ne_eqb w.node m (λ e. omega arith))
    (absent w.node m ws (both_second (both (ltb n w.node) (fits w)) (rising w.node ws) r) (omega arith))

pub none_set : ones_of (bytes_of []) ≡ 0
unfolding bytes_of listed ones
none_set = refl

rising_counted : (n : ℕ) (ws : List WatchedNode) → rising n ws ≡ true → ones_of (bytes_of ws) ≡ length ws
rising_counted n [] r = none_set
rising_counted n (w ∷ ws) r =
    let first = both_first (both (ltb n w.node) (fits w)) (rising w.node ws) r in
    let rest = both_second (both (ltb n w.node) (fits w)) (rising w.node ws) r in
    joined_counts ws w.node (omega (arith, fits_small w (both_second (ltb n w.node) (fits w) first))) (w ∷ ws)
    (rw (eq-eqb w.node w.node refl))
    (λ m apart. rw (ne_eqb w.node m (λ q. apart (sym q))))
    (absent w.node w.node ws rest (omega arith))
    ∙ ap suc (rising_counted w.node ws rest)

-- the number of bits that are set is the number of nodes
pub counted : (ws : List WatchedNode) → well_formed ws ≡ true → ones_of (bytes_of ws) ≡ length ws
unfolding well_formed
counted ws h =
    rising_counted 0 ws
    (rising_all ws ∙ both_second (leb (length ws) 32) (both (ascending ws) (all_of fits ws)) h)

-- no byte has more than eight bits
few_ones : (s : List ℕ) → ((i : ℕ) → get_or s i 0 < 256) → ones_of s ≤ 8 * length s
few_ones [] bytes = omega arith
few_ones (b ∷ s) bytes = omega (arith, sum_by-cons ones b s, ones-le 8 b (bytes 0), few_ones s (λ i. bytes (suc i)))

-- so the number of those in 32 bytes fits
pub ones_fit : (s : List ℕ) → length s ≡ 32 → ((i : ℕ) → get_or s i 0 < 256) → sum_by ones s < 2 ^ 32
ones_fit s long bytes = omega (arith, few_ones s bytes)

-- the call, by whether the run is well formed
module _ (r : Run) (s : List ℕ) where
  pub turned_away_lem : well_lent r ≡ false → BitsWritten r s (Err WatchedNodes) s
  unfolding bitmap_reply bytes_after
  turned_away_lem h = record { said = rw h refl; bytes = rw h refl }

  pub written : (s' : List ℕ) (n : ℕ) → well_lent r ≡ true → s' ≡ bytes_of (watching r) → n ≡ ones_of s' → BitsWritten r s (Ok n) s'
  unfolding bitmap_reply bytes_after
  written s' n h e c = record { said = rw (h, ← e, c) refl; bytes = rw h e }
