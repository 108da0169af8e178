-- A place of a run in words, written.
-- Assumes nothing.
use Prim.Native.Nat.{ℕ, ◌+◌, ◌*◌, ◌<◌}
use mathlib.Core.Path.{◌≡◌, ap, ◌∙◌}
use mathlib.Core.List.{List}
use native.Mathlib.Omega.{arith}
use lib.ListN.{length, get_or, set, length-set}
use lib.Seq.{get_or-set_same, get_or-set_other}
use Rattle.entries.specs.Ring.{listed}
use Rattle.watched.specs.Watched.{watched_node}
use Rattle.watched.specs.Nodes.{node_at, nodes_of}
use Rattle.watched.proofs.Watching.{listed_set}

-- three words written are one place
module _ (ns : List ℕ) (long : length ns ≡ 96) (p : ℕ) (inside : p < 32) (a b c : ℕ) where
  abbrev n₁ : List ℕ
  n₁ = set ns (3 * p) a

  abbrev n₂ : List ℕ
  n₂ = set n₁ (3 * p + 1) b

  abbrev n₃ : List ℕ
  n₃ = set n₂ (3 * p + 2) c

  other : (k : ℕ) → (k ≡ 3 * p → ⊥) → (k ≡ 3 * p + 1 → ⊥) → (k ≡ 3 * p + 2 → ⊥) → get_or n₃ k 0 ≡ get_or ns k 0
  other k x y z = get_or-set_other n₂ (3 * p + 2) k c 0 z ∙ get_or-set_other n₁ (3 * p + 1) k b 0 y ∙ get_or-set_other ns (3 * p) k a 0 x

  l₁ : length n₁ ≡ 96
  l₁ = length-set ns (3 * p) a ∙ long

  l₂ : length n₂ ≡ 96
  l₂ = length-set n₁ (3 * p + 1) b ∙ l₁

  first : get_or n₃ (3 * p) 0 ≡ a
  first =
      get_or-set_other n₂ (3 * p + 2) (3 * p) c 0 (λ e. omega arith) ∙ get_or-set_other n₁ (3 * p + 1) (3 * p) b 0 (λ e. omega arith)
      ∙ get_or-set_same ns (3 * p) a 0 (omega arith)

  second : get_or n₃ (3 * p + 1) 0 ≡ b
  second = get_or-set_other n₂ (3 * p + 2) (3 * p + 1) c 0 (λ e. omega arith) ∙ get_or-set_same n₁ (3 * p + 1) b 0 (omega (arith, l₁))

  third : get_or n₃ (3 * p + 2) 0 ≡ c
  third = get_or-set_same n₂ (3 * p + 2) c 0 (omega (arith, l₂))

  pub place_written : nodes_of n₃ ≡ set (nodes_of ns) p (watched_node a b c)
  unfolding nodes_of
  place_written =
      listed_set (node_at ns) (node_at n₃) 32 p inside
      (λ j apart i. watched_node (other (3 * j) (λ e. apart (omega arith)) (λ e. omega arith) (λ e. omega arith) i) (other (3 * j + 1) (λ e. omega arith) (λ e. apart (omega arith)) (λ e. omega arith) i) (other (3 * j + 2) (λ e. omega arith) (λ e. omega arith) (λ e. apart (omega arith)) i))
      ∙ ap (set (listed (node_at ns) 32) p) (λ i. watched_node (first i) (second i) (third i))
