-- The first so many places as a loop over that part of them sets them.
-- Assumes nothing.
use Prim.Native.Nat.{ℕ, min, ◌≤◌}
use mathlib.Core.Path.{◌≡◌, refl, sym, ap, ◌∙◌}
use mathlib.Core.Bool.{Bool, true, false}
use mathlib.Core.List.{List, ◌++◌, map}
use native.Mathlib.Omega.{arith}
use lib.Dec.{ltb}
use lib.ListN.{length, take, drop}
use Rattle.std.proofs.Common.{append-nil}
use Rattle.std.proofs.lemmas.List.{take_all, drop_all}
use borrow.Author.Tests.{ltb-true, ltb-false}
use Rattle.watched.specs.declared.nodes.WatchedNode.{WatchedNode}
use Rattle.watched.specs.Watched.{first}

module _ (f : WatchedNode → WatchedNode) (ns : List WatchedNode) (n : ℕ) where
  cut : first (map f) (min n (length ns)) ns ≡ first (map f) n ns
  cut = by (ltb n (length ns)) refl
    where
      by : (b : Bool) → ltb n (length ns) ≡ b → first (map f) (min n (length ns)) ns ≡ first (map f) n ns
      by true e =
          let h = ltb-true n (length ns) e in
          let s : min n (length ns) ≡ n = omega (arith, h) in
          ap (λ (m : ℕ). first (map f) m ns) s
      by false e =
          let h : length ns ≤ n = ltb-false n (length ns) e in
          let s : length ns ≤ min n (length ns) = omega (arith, h) in
          rw (take_all (min n (length ns)) ns s, drop_all (min n (length ns)) ns s, take_all n ns h, drop_all n ns h) refl

  -- behind the loop, of a part that is so long
  pub set_part :
      (vs : List WatchedNode) {m i : ℕ} →
      m ≡ min n (length ns) →
      length vs ≤ i →
      take i vs ++ map f (drop i vs) ≡ map f (take m ns) →
      vs ++ drop m ns ≡ first (map f) n ns
  set_part vs {m = m} {i = i} e l h =
      let all : take i vs ++ map f (drop i vs) ≡ vs = rw (take_all i vs l, drop_all i vs l, append-nil) refl in
      ap (λ (l : List WatchedNode). l ++ drop m ns) (sym all ∙ h) ∙ ap (λ (k : ℕ). first (map f) k ns) e ∙ cut
