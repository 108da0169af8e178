-- Where a node stands among others, or is to stand, as a count of those before it.
-- Assumes nothing.
use Prim.Native.Nat.{ℕ, zero, suc, ◌+◌, ◌-◌, ◌≤◌}
use mathlib.Core.Path.{◌≡◌, refl, sym, ap, ◌∙◌}
use mathlib.Core.Bool.{Bool, true, false, not, cond}
use mathlib.Core.List.{List, [], ◌∷◌}
use native.Mathlib.Omega.{arith}
use lib.Dec.{eqb, ltb, leb}
use lib.ListN.{length, take}
use borrow.Author.Tests.{lt-ltb, le-ltb}
use Rattle.std.specs.List.{prefix_len}
use Rattle.std.proofs.lemmas.List.Folds.{length-prefix_len}
use Rattle.std.proofs.lemmas.Bool.{leb-true, leb-false}
use Rattle.types.specs.Pick.{pick}
use Rattle.watched.specs.declared.nodes.WatchedNode.{WatchedNode}
use Rattle.watched.specs.Watched.{place_of}
use Rattle.partners.specs.Walks.{place_before}

module _ (n : ℕ) where
  abbrev low : WatchedNode → Bool
  low w = leb w.node n

  counted : (ws : List WatchedNode) → prefix_len low ws ≡ place_before n ws
  counted [] = refl
  counted (w ∷ ws) = by (leb w.node n) refl (counted ws)
    where
      by : (b : Bool) → leb w.node n ≡ b → prefix_len low ws ≡ place_before n ws → cond b (1 + prefix_len low ws) 0 ≡ pick (ltb n w.node) 0 (suc (place_before n ws))
      by true e more =
          let s : 1 + prefix_len low ws ≡ suc (place_before n ws) = omega (arith, more) in
          s ∙ ap (λ (b : Bool). pick b 0 (suc (place_before n ws))) (sym (le-ltb n w.node (leb-true w.node n e)))
      by false e more = ap (λ (b : Bool). pick b 0 (suc (place_before n ws))) (sym (lt-ltb n w.node (leb-false w.node n e)))

  within : (ws : List WatchedNode) → place_before n ws ≤ length ws
  within [] = omega arith
  within (w ∷ ws) = by (ltb n w.node) (within ws)
    where
      by : (b : Bool) → place_before n ws ≤ length ws → pick b 0 (suc (place_before n ws)) ≤ suc (length ws)
      by true h = omega arith
      by false h = omega (arith, h)

  pub place_counted : (ws : List WatchedNode) (p : ℕ) → p ≡ length (take (prefix_len low ws) ws) → (p ≡ place_before n ws) × (p ≤ length ws)
  place_counted ws p e =
      let s : p ≡ place_before n ws = e ∙ length-prefix_len low ws ∙ counted ws in
      (s, omega (arith, s, within ws))

  -- the place of the node, as a count of those before it
  abbrev other : WatchedNode → Bool
  other w = not (eqb w.node n)

  counted_others : (ws : List WatchedNode) → prefix_len other ws ≡ place_of n ws
  counted_others [] = refl
  counted_others (w ∷ ws) = by (eqb w.node n) (counted_others ws)
    where
      by : (b : Bool) → prefix_len other ws ≡ place_of n ws → cond (not b) (1 + prefix_len other ws) 0 ≡ pick b 0 (suc (place_of n ws))
      by true more = refl
      by false more = omega (arith, more)

  place_within : (ws : List WatchedNode) → place_of n ws ≤ length ws
  place_within [] = omega arith
  place_within (w ∷ ws) = by (eqb w.node n) (place_within ws)
    where
      by : (b : Bool) → place_of n ws ≤ length ws → pick b 0 (suc (place_of n ws)) ≤ suc (length ws)
      by true h = omega arith
      by false h = omega (arith, h)

  pub place_of_counted : (ws : List WatchedNode) (p : ℕ) → p ≡ length (take (prefix_len other ws) ws) → (p ≡ place_of n ws) × (p ≤ length ws)
  place_of_counted ws p e =
      let s : p ≡ place_of n ws = e ∙ length-prefix_len other ws ∙ counted_others ws in
      (s, omega (arith, s, place_within ws))
