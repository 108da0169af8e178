-- Places that are moved by moving their words, three a place; and what the moves of an add and a
-- removal leave.
-- Assumes nothing.
use Prim.Native.Nat.{ℕ, zero, suc, ◌+◌, ◌-◌, ◌*◌, ◌<◌, ◌≤◌}
use mathlib.Core.Path.{◌≡◌, refl, sym, ap, ap₂, ◌∙◌}
use mathlib.Core.Bool.{Bool, true, false, cond}
use mathlib.Core.List.{List, [], ◌∷◌, ◌++◌}
use native.Mathlib.Omega.{arith}
use native.Mathlib.Numerals.{add-one}
use lib.Dec.{ltb, leb}
use lib.ListN.{length, get_or, set, take, drop, replicate, length-append, length-drop, length-replicate}
use lib.Seq.{take_at, length-take-le, append_snoc, drop-cons}
use borrow.Author.Tests.{lt-ltb, le-ltb}
use borrow.Rule.Slice.PartMut.{mid_of, put_mid}
use Rattle.std.specs.List.{copy_within, prefix_len, range_with_len}
use Rattle.std.proofs.lemmas.List.{set-append_left, append_assoc, append-nil, drop_all}
use Rattle.std.proofs.lemmas.List.Folds.{length-prefix_len}
use Rattle.std.proofs.lemmas.Bool.{leb-true, leb-false}
use Rattle.types.specs.Pick.{pick}
use Rattle.entries.specs.Ring.{listed}
use Rattle.watched.specs.declared.nodes.WatchedNode.{WatchedNode}
use Rattle.watched.specs.Watched.{no_node, inserted}
use Rattle.watched.specs.Nodes.{node_at, nodes_of}
use Rattle.watched.proofs.Watching.{places, turn_read}
use Rattle.watched.proofs.Lists.{at_end}
use Rattle.partners.specs.Partners.{words_of}
use Rattle.partners.specs.Walks.{place_before, closed}
use Rattle.partners.proofs.Fixed.{same_listed, behind, words_of_lem}
use Rattle.partners.proofs.Closing.{moved_down_lem}

-- words of nodes, in part
words_append : (vs ws : List WatchedNode) → words_of (vs ++ ws) ≡ words_of vs ++ words_of ws
words_append [] ws = refl
words_append (v ∷ vs) ws = ap (λ (l : List ℕ). v.node ∷ v.timeout ∷ v.last_heard ∷ l) (words_append vs ws)

three_more : (n : ℕ) → 3 * suc n ≡ suc (suc (suc (3 * n)))
three_more n = omega arith

words_take : (n : ℕ) (vs : List WatchedNode) → n ≤ length vs → take (3 * n) (words_of vs) ≡ words_of (take n vs)
words_take zero vs h = refl
words_take (suc n) [] h = absurd (omega arith)
words_take (suc n) (v ∷ vs) h =
    ap (λ (j : ℕ). take j (words_of (v ∷ vs))) (three_more n)
    ∙ ap (λ (l : List ℕ). v.node ∷ v.timeout ∷ v.last_heard ∷ l) (words_take n vs (omega arith))

words_drop : (n : ℕ) (vs : List WatchedNode) → n ≤ length vs → drop (3 * n) (words_of vs) ≡ words_of (drop n vs)
words_drop zero vs h = refl
words_drop (suc n) [] h = absurd (omega arith)
words_drop (suc n) (v ∷ vs) h = ap (λ (j : ℕ). drop j (words_of (v ∷ vs))) (three_more n) ∙ words_drop n vs (omega arith)

nodes_listed : (vs : List WatchedNode) → listed (node_at (words_of vs)) (length vs) ≡ vs
unfolding listed
nodes_listed [] = refl
nodes_listed (v ∷ vs) =
    ap (λ (l : List WatchedNode). v ∷ l)
    (same_listed (λ i. node_at (words_of (v ∷ vs)) (suc i)) (node_at (words_of vs)) (length vs) (λ i. behind v.node v.timeout v.last_heard (words_of vs) i) ∙ nodes_listed vs)

nodes_of_words : (vs : List WatchedNode) → length vs ≡ 32 → nodes_of (words_of vs) ≡ vs
unfolding nodes_of
nodes_of_words vs e = ap (listed (node_at (words_of vs))) (sym e) ∙ nodes_listed vs

-- places a to b, moved to the places from c on
module _ (ns : List ℕ) (long : length ns ≡ 96) (a b c : ℕ) (up : a ≤ b) (end : b ≤ 32) (room : c + (b - a) ≤ 32) where
  abbrev qs : List WatchedNode
  qs = nodes_of ns

  abbrev pub moved : List WatchedNode
  moved = take c qs ++ take (b - a) (drop a qs) ++ drop (c + (b - a)) qs

  part : length (drop a qs) ≡ 32 - a
  part = length-drop a qs ∙ ap (λ (n : ℕ). n - a) (places ns)

  moved_long : length moved ≡ 32
  moved_long =
      let x : length (take c qs) ≡ c = length-take-le c qs (omega (arith, places ns, room)) in
      let y : length (take (b - a) (drop a qs)) ≡ b - a = length-take-le (b - a) (drop a qs) (omega (arith, part, up, end)) in
      let z : length (drop (c + (b - a)) qs) ≡ 32 - (c + (b - a)) = length-drop (c + (b - a)) qs ∙ ap (λ (n : ℕ). n - (c + (b - a))) (places ns) in
      length-append (take c qs ++ take (b - a) (drop a qs)) (drop (c + (b - a)) qs)
      ∙ ap (λ (n : ℕ). n + length (drop (c + (b - a)) qs)) (length-append (take c qs) (take (b - a) (drop a qs)))
      ∙ omega (arith, x, y, z, room)

  words_moved : copy_within ns (3 * a) (3 * b) (3 * c) ≡ words_of moved
  words_moved =
      let l : ns ≡ words_of qs = words_of_lem ns long in
      let x : 3 * b - 3 * a ≡ 3 * (b - a) = omega (arith, up) in
      let y : 3 * c + 3 * (b - a) ≡ 3 * (c + (b - a)) = omega arith in
      let p = places ns in
      let t : take (3 * c) ns ≡ words_of (take c qs) = ap (take (3 * c)) l ∙ words_take c qs (omega (arith, p, room)) in
      let m : take (3 * (b - a)) (drop (3 * a) ns) ≡ words_of (take (b - a) (drop a qs)) =
      ap (λ (l : List ℕ). take (3 * (b - a)) (drop (3 * a) l)) l ∙ ap (take (3 * (b - a))) (words_drop a qs (omega (arith, p, up, end)))
      ∙ words_take (b - a) (drop a qs) (omega (arith, part, up, end)) in
      let r : drop (3 * c + 3 * (b - a)) ns ≡ words_of (drop (c + (b - a)) qs) =
      ap (λ (j : ℕ). drop j ns) y ∙ ap (drop (3 * (c + (b - a)))) l ∙ words_drop (c + (b - a)) qs (omega (arith, p, room)) in
      ap (λ (n : ℕ). take (3 * c) ns ++ take n (drop (3 * a) ns) ++ drop (3 * c + n) ns) x
      ∙ (λ i. t i ++ m i ++ r i)
      ∙ sym (words_append (take c qs ++ take (b - a) (drop a qs)) (drop (c + (b - a)) qs)
      ∙ ap (λ (l : List ℕ). l ++ words_of (drop (c + (b - a)) qs)) (words_append (take c qs) (take (b - a) (drop a qs))))

  pub nodes_moved : nodes_of (copy_within ns (3 * a) (3 * b) (3 * c)) ≡ moved
  nodes_moved = ap nodes_of words_moved ∙ nodes_of_words moved moved_long

-- the words of cleared nodes are zeros
words_none : (n : ℕ) → replicate (3 * n) 0 ≡ words_of (replicate n no_node)
words_none zero = refl
words_none (suc n) = ap (λ (j : ℕ). replicate j 0) (three_more n) ∙ ap (λ (l : List ℕ). 0 ∷ 0 ∷ 0 ∷ l) (words_none n)

-- the places from one on, cleared
module _ (ns : List ℕ) (long : length ns ≡ 96) (i : ℕ) (few : i ≤ 32) where
  abbrev kept : List WatchedNode
  kept = take i (nodes_of ns)

  abbrev none : List WatchedNode
  none = replicate (32 - i) no_node

  rest : length (drop (3 * i) ns) ≡ 96 - 3 * i
  rest = length-drop (3 * i) ns ∙ ap (λ (n : ℕ). n - 3 * i) long

  kept_long : length kept ≡ i
  kept_long = length-take-le i (nodes_of ns) (omega (arith, places ns, few))

  cleared_long : length (kept ++ none) ≡ 32
  cleared_long =
      let z : length none ≡ 32 - i = length-replicate (32 - i) no_node in
      length-append kept none ∙ omega (arith, kept_long, z, few)

  pub nodes_cleared :
      {n : ℕ} {zs : List ℕ} → zs ≡ replicate (length (mid_of (3 * i) n ns)) 0 → n ≡ 96 - 3 * i →
      nodes_of (put_mid (3 * i) n ns zs) ≡ take i (nodes_of ns) ++ replicate (32 - i) no_node
  nodes_cleared {n} {zs} e f =
      let m : length (mid_of (3 * i) n ns) ≡ n = length-take-le n (drop (3 * i) ns) (omega (arith, rest, f)) in
      let l : length (mid_of (3 * i) n ns) ≡ 3 * (32 - i) = omega (arith, m, f, few) in
      let t : take (3 * i) ns ≡ words_of kept = ap (take (3 * i)) (words_of_lem ns long) ∙ words_take i (nodes_of ns) (omega (arith, places ns, few)) in
      let z : zs ≡ words_of none = e ∙ rw l (words_none (32 - i)) in
      let r : drop n (drop (3 * i) ns) ≡ [] = drop_all n (drop (3 * i) ns) (omega (arith, rest, f)) in
      let l : zs ++ drop n (drop (3 * i) ns) ≡ words_of none = (λ j. z j ++ r j) ∙ append-nil (words_of none) in
      let w : put_mid (3 * i) n ns zs ≡ words_of (kept ++ none) = (λ j. t j ++ l j) ∙ sym (words_append kept none) in
      ap nodes_of w ∙ nodes_of_words (kept ++ none) cleared_long

-- where a node is to stand: what is left gives what the whole gives
module _ (ns : List ℕ) (k : ℕ) (below : k ≤ 32) (n : ℕ) where
  abbrev left : ℕ → List WatchedNode
  left i = drop i (take k (nodes_of ns))

  module _ (i x : ℕ) (e : x ≡ i + place_before n (left i)) where
    place_ends : k ≤ i → i ≡ x
    place_ends h = let z : i + 0 ≡ i = omega arith in sym (e ∙ ap (λ (l : List WatchedNode). i + place_before n l) (at_end (nodes_of ns) k (places ns) below i h) ∙ z)

    module _ (inside : i < k) (w : WatchedNode) (is : w ≡ node_at ns i) where
      turned : (b : Bool) → ltb n w.node ≡ b → x ≡ i + pick b 0 (suc (place_before n (left (i + 1))))
      turned b f =
          e ∙ ap (λ (l : List WatchedNode). i + place_before n l) (turn_read ns k below i inside w is)
          ∙ ap (λ (b : Bool). i + pick b 0 (suc (place_before n (left (i + 1))))) f

      place_found : n < w.node → i ≡ x
      place_found h = let z : i + 0 ≡ i = omega arith in sym (turned true (lt-ltb n w.node h) ∙ z)

      place_next : w.node ≤ n → x ≡ (i + 1) + place_before n (left (i + 1))
      place_next h = let z : i + suc (place_before n (left (i + 1))) ≡ (i + 1) + place_before n (left (i + 1)) = omega arith in turned false (le-ltb n w.node h) ∙ z

  -- counted from a place on
  by_count : (m i x : ℕ) → i + m ≡ k → x ≡ i + place_before n (left i) → i + prefix_len (λ (i : ℕ). leb (node_at ns i).node n) (range_with_len i m) ≡ x
  by_count zero i x h e = let z : i + 0 ≡ i = omega arith in z ∙ place_ends i x e (omega (arith, h))
  by_count (suc m) i x h e = by (leb (node_at ns i).node n) refl (by_count m (i + 1) x (omega (arith, h)))
    where
      ahead : ℕ
      ahead = prefix_len (λ (i : ℕ). leb (node_at ns i).node n) (range_with_len (i + 1) m)

      by :
          (b : Bool) → leb (node_at ns i).node n ≡ b → (x ≡ (i + 1) + place_before n (left (i + 1)) → (i + 1) + ahead ≡ x) →
          i + cond b (1 + ahead) 0 ≡ x
      by true f more =
          let s : (i + 1) + ahead ≡ x = more (place_next i x e (omega (arith, h)) (node_at ns i) refl (leb-true (node_at ns i).node n f)) in
          let t : i + (1 + ahead) ≡ (i + 1) + ahead = omega arith in
          t ∙ s
      by false f more =
          let z : i + 0 ≡ i = omega arith in
          z ∙ place_found i x e (omega (arith, h)) (node_at ns i) refl (leb-false (node_at ns i).node n f)

-- no place past the last one
within : (n : ℕ) (vs : List WatchedNode) → place_before n vs ≤ length vs
within n [] = omega arith
within n (w ∷ ws) = by (ltb n w.node) (within n ws)
  where
    by : (b : Bool) → place_before n ws ≤ length ws → pick b 0 (suc (place_before n ws)) ≤ suc (length ws)
    by true h = omega arith
    by false h = omega (arith, h)

-- the place as a count of the nodes that are not above
pub place_counted :
    (ns : List ℕ) (k : ℕ) → k ≤ 32 → (n p : ℕ) →
    p ≡ length (take (prefix_len (λ (i : ℕ). leb (node_at ns i).node n) (range_with_len 0 k)) (range_with_len 0 k)) →
    (p ≡ place_before n (take k (nodes_of ns))) × (p ≤ k)
place_counted ns k below n p e =
    let vs : List WatchedNode = take k (nodes_of ns) in
    let q : ℕ = prefix_len (λ (i : ℕ). leb (node_at ns i).node n) (range_with_len 0 k) in
    let c : p ≡ q = e ∙ length-prefix_len (λ (i : ℕ). leb (node_at ns i).node n) (range_with_len 0 k) in
    let z : q ≡ 0 + q = omega arith in
    let s : p ≡ place_before n vs = c ∙ z ∙ by_count ns k below n k 0 (place_before n vs) (omega arith) (omega arith) in
    let long : length vs ≡ k = length-take-le k (nodes_of ns) (omega (arith, places ns, below)) in
    (s, omega (arith, s, within n vs, long))

-- a node put in its place
pub inserted_at :
    (v : WatchedNode) (k : ℕ) (ps : List WatchedNode) → k ≤ length ps → (p : ℕ) → p ≡ place_before v.node (take k ps) →
    inserted v (take k ps) ≡ take p ps ++ (v ∷ take (k - p) (drop p ps))
inserted_at v zero ps h p e = ap (λ (p : ℕ). take p ps ++ (v ∷ take (0 - p) (drop p ps))) (sym e)
inserted_at v (suc k) [] h p e = absurd (omega arith)
inserted_at v (suc k) (w ∷ ws) h p e = by (ltb v.node w.node) p (λ q e. inserted_at v k ws (omega arith) q e) e
  where
    by :
        (b : Bool) (p : ℕ) → ((q : ℕ) → q ≡ place_before v.node (take k ws) → inserted v (take k ws) ≡ take q ws ++ (v ∷ take (k - q) (drop q ws))) →
        p ≡ pick b 0 (suc (place_before v.node (take k ws))) →
        pick b (v ∷ w ∷ take k ws) (w ∷ inserted v (take k ws)) ≡ take p (w ∷ ws) ++ (v ∷ take (suc k - p) (drop p (w ∷ ws)))
    by true zero more e = let z : suc k ≡ suc k - 0 = omega arith in ap (λ (j : ℕ). v ∷ take j (w ∷ ws)) z
    by true (suc p) more e = absurd (omega arith)
    by false zero more e = absurd (omega arith)
    by false (suc p) more e =
        let z : k - p ≡ suc k - suc p = omega arith in
        ap (λ (l : List WatchedNode). w ∷ l) (more p (omega arith) ∙ ap (λ (j : ℕ). take p ws ++ (v ∷ take j (drop p ws))) z)

set_last : (v : WatchedNode) (p : ℕ) (ps : List WatchedNode) → p < length ps → set (take (p + 1) ps) p v ≡ take p ps ++ (v ∷ [])
set_last v p ps h = ap (λ (j : ℕ). set (take j ps) p v) (add-one p) ∙ by p ps h
  where
    by : (p : ℕ) (ps : List WatchedNode) → p < length ps → set (take (suc p) ps) p v ≡ take p ps ++ (v ∷ [])
    by p [] h = absurd (omega arith)
    by zero (w ∷ ws) h = refl
    by (suc p) (w ∷ ws) h = ap (λ (l : List WatchedNode). w ∷ l) (by p ws (omega arith))

-- an add: the places moved up, the node put, and the rest cleared
pub opened :
    (ps : List WatchedNode) → length ps ≡ 32 → (k : ℕ) → k < 32 → (v : WatchedNode) (p : ℕ) → p ≡ place_before v.node (take k ps) → p ≤ k →
    take (k + 1) (set (take (p + 1) ps ++ take (k - p) (drop p ps) ++ drop (p + 1 + (k - p)) ps) p v) ≡ inserted v (take k ps)
opened ps all k room v p e few =
    let A : List WatchedNode = take (p + 1) ps in
    let B : List WatchedNode = take (k - p) (drop p ps) in
    let C : List WatchedNode = drop (p + 1 + (k - p)) ps in
    let a : length A ≡ p + 1 = length-take-le (p + 1) ps (omega (arith, all, few, room)) in
    let d : length (drop p ps) ≡ 32 - p = length-drop p ps ∙ ap (λ (n : ℕ). n - p) all in
    let b : length B ≡ k - p = length-take-le (k - p) (drop p ps) (omega (arith, d, few, room)) in
    let ab : length (A ++ B) ≡ length A + length B = length-append A B in
    let last : set A p v ≡ take p ps ++ (v ∷ []) = set_last v p ps (omega (arith, all, few, room)) in
    let s : set (A ++ B ++ C) p v ≡ (take p ps ++ (v ∷ [])) ++ B ++ C =
    set-append_left (A ++ B) C p v (omega (arith, ab, a)) ∙ ap (λ (l : List WatchedNode). l ++ C) (set-append_left A B p v (omega (arith, a)) ∙ ap (λ (l : List WatchedNode). l ++ B) last) in
    let t : length (take p ps) ≡ p = length-take-le p ps (omega (arith, all, few, room)) in
    let u : length (take p ps ++ (v ∷ [])) ≡ length (take p ps) + 1 = length-append (take p ps) (v ∷ []) in
    let f : length ((take p ps ++ (v ∷ [])) ++ B) ≡ k + 1 = length-append (take p ps ++ (v ∷ [])) B ∙ omega (arith, t, u, b, few) in
    ap (take (k + 1)) s ∙ take_at ((take p ps ++ (v ∷ [])) ++ B) C (k + 1) f ∙ append_snoc (take p ps) v B
    ∙ sym (inserted_at v k ps (omega (arith, all, room)) p e)

-- a removal: the places moved down, and the rest cleared
pub shut :
    (ps : List WatchedNode) → length ps ≡ 32 → (k p : ℕ) → p < k → k ≤ 32 →
    take (k - 1) (take p ps ++ take (k - (p + 1)) (drop (p + 1) ps) ++ drop (p + (k - (p + 1))) ps) ++ replicate (32 - (k - 1)) no_node
    ≡ take p ps ++ closed (k - p) (drop p ps)
shut ps all k p inside few =
    let A : List WatchedNode = take p ps in
    let B : List WatchedNode = take (k - (p + 1)) (drop (p + 1) ps) in
    let C : List WatchedNode = drop (p + (k - (p + 1))) ps in
    let a : length A ≡ p = length-take-le p ps (omega (arith, all, inside, few)) in
    let d : length (drop (p + 1) ps) ≡ 32 - (p + 1) = length-drop (p + 1) ps ∙ ap (λ (n : ℕ). n - (p + 1)) all in
    let b : length B ≡ k - (p + 1) = length-take-le (k - (p + 1)) (drop (p + 1) ps) (omega (arith, d, few)) in
    let f : length (A ++ B) ≡ k - 1 = length-append A B ∙ omega (arith, a, b, inside) in
    let n : suc (k - (p + 1)) ≡ k - p = omega (arith, inside) in
    let h : drop p ps ≡ get_or ps p no_node ∷ drop (p + 1) ps = drop-cons ps p no_node (omega (arith, all, inside, few)) ∙ ap (λ (j : ℕ). get_or ps p no_node ∷ drop j ps) (sym (add-one p)) in
    let down : closed (suc (k - (p + 1))) (get_or ps p no_node ∷ drop (p + 1) ps) ≡ B ++ replicate (32 - (k - 1)) no_node =
    moved_down_lem (get_or ps p no_node) (k - (p + 1)) (32 - (k - 1)) (drop (p + 1) ps) (omega (arith, d, inside, few)) (omega (arith, d, few)) in
    ap (λ (l : List WatchedNode). l ++ replicate (32 - (k - 1)) no_node) (take_at (A ++ B) C (k - 1) f)
    ∙ append_assoc A B (replicate (32 - (k - 1)) no_node)
    ∙ ap (λ (l : List WatchedNode). A ++ l) (sym down ∙ ap₂ closed n (sym h))
