-- A run that watches one node and holds nothing else, place by place.
-- Assumes nothing.
use Prim.Native.Nat.{ℕ, zero, suc, ◌+◌, ◌<◌}
use mathlib.Core.Path.{◌≡◌, refl, sym, ap, ◌∙◌}
use mathlib.Core.Bool.{Bool, true, false, ◌&&◌}
use mathlib.Core.List.{List, [], ◌∷◌}
use native.Mathlib.Numerals.{add-one}
use native.Mathlib.Omega.{arith}
use lib.Dec.{eqb}
use lib.ListN.{length, get_or, drop, replicate, drop_of_length-le}
use lib.Seq.{drop-cons}
use Rattle.std.specs.List.{list_all, range_with_len}
use Rattle.types.specs.Pick.{both, all_of}
use Rattle.types.proofs.Cases.{first_same, rest_same}
use Rattle.entries.specs.Ring.{listed}
use Rattle.watched.specs.declared.nodes.WatchedNode.{WatchedNode}
use Rattle.watched.specs.Watched.{watched_node, no_node, Run, run, holding}
use Rattle.watched.specs.Nodes.{node_at, nodes_of}
use Rattle.watched.proofs.Watching.{places, node_at_lem}
use Rattle.examples.specs.Same.{Exactly, blank}
use Rattle.examples.proofs.Exact.{exact_number, exact_by, exact_and, exact_is, no}

-- a node by its three numbers
pub exact_node : (x y : WatchedNode) → Exactly (eqb x.node y.node && (eqb x.timeout y.timeout && eqb x.last_heard y.last_heard)) (x ≡ y)
exact_node x y =
    exact_by (exact_and (exact_number _ _) (exact_and (exact_number _ _) (exact_number _ _)))
    (λ h. λ i. watched_node (h.0 i) (h.1.0 i) (h.1.1 i))
    (λ e. (ap (λ (w : WatchedNode). w.node) e, (ap (λ (w : WatchedNode). w.timeout) e, ap (λ (w : WatchedNode). w.last_heard) e)))

exact_both : {r s : Bool} {P Q : Type 0} → Exactly r P → Exactly s Q → Exactly (both r s) (P × Q)
exact_both {r} {s} {P} {Q} x y = by r x
  where
    by : (r : Bool) → Exactly r P → Exactly (both r s) (P × Q)
    by true x = record { says = λ e. (x.says refl, y.says e); holds = λ h. y.holds h.1 }
    by false x = record { says = λ e. no e; holds = λ h. x.holds h.0 }

exact_blank : (l : List WatchedNode) → Exactly (all_of blank l) (l ≡ replicate (length l) no_node)
exact_blank [] = record { says = λ e. refl; holds = λ e. refl }
exact_blank (w ∷ l) =
    exact_by (exact_both (exact_node w no_node) (exact_blank l))
    (λ h. λ i. h.0 i ∷ h.1 i)
    (λ e. (first_same e, rest_same e))

-- the run that watches one node, by that node and the places behind
exact_one :
    (l r : List WatchedNode) (v w : WatchedNode) {a b : Bool} →
    l ≡ v ∷ r → length r ≡ 31 → Exactly a (v ≡ w) → b ≡ all_of blank r → Exactly (a && b) (run l 1 ≡ holding (w ∷ []))
exact_one l r v w split long x e =
    let rest = ap (λ (k : ℕ). replicate k no_node) long in
    exact_by (exact_and x (exact_is e (exact_blank r)))
    (λ h. ap (λ (z : List WatchedNode). run z 1) (split ∙ (λ i. h.0 i ∷ (h.1 ∙ rest) i)))
    (λ h. let f = sym split ∙ ap (λ (z : Run). z.places) h in (first_same f, rest_same f ∙ sym rest))

module _ (ns : List ℕ) where
  node_here : (i : ℕ) → i < 32 → drop i (nodes_of ns) ≡ node_at ns i ∷ drop (i + 1) (nodes_of ns)
  node_here i h =
      let d : drop i (nodes_of ns) ≡ get_or (nodes_of ns) i no_node ∷ drop (i + 1) (nodes_of ns) = rw add-one (drop-cons (nodes_of ns) i no_node (omega (arith, places ns))) in
      d ∙ ap (λ (w : WatchedNode). w ∷ drop (i + 1) (nodes_of ns)) (node_at_lem ns i h)

  by_both : (a : Bool) {b c : Bool} → b ≡ c → (a && b) ≡ both a c
  by_both true e = e
  by_both false e = refl

  -- the places from one on, asked one by one
  pub blank_from : (n i : ℕ) → i + n ≡ 32 → list_all (λ (j : ℕ). blank (node_at ns j)) (range_with_len i n) ≡ all_of blank (drop i (nodes_of ns))
  blank_from zero i h = sym (ap (all_of blank) (drop_of_length-le (nodes_of ns) {i = i} (omega (arith, places ns, h))))
  blank_from (suc n) i h =
      by_both (blank (node_at ns i)) (blank_from n (i + 1) (omega arith))
      ∙ sym (ap (all_of blank) (node_here i (omega arith)))

  pub exact_watching :
      (w : WatchedNode) {a b : Bool} → Exactly a (node_at ns 0 ≡ w) → b ≡ all_of blank (drop 1 (nodes_of ns)) → Exactly (a && b) (run (nodes_of ns) 1 ≡ holding (w ∷ []))
  unfolding nodes_of listed
  exact_watching w x e = exact_one (nodes_of ns) (drop 1 (nodes_of ns)) (node_at ns 0) w refl refl x e
