-- What a closed place leaves.
-- Assumes nothing.
use Prim.Native.Nat.{ℕ, zero, suc, ◌+◌, ◌-◌, ◌<◌, ◌≤◌}
use mathlib.Core.Path.{◌≡◌, refl, ap, ap₂, ◌∙◌}
use mathlib.Core.Bool.{Bool, true, false}
use mathlib.Core.List.{List, [], ◌∷◌, ◌++◌}
use native.Mathlib.Omega.{arith}
use lib.Dec.{eqb, ltb}
use lib.ListN.{length, get_or, take, drop, replicate}
use borrow.Author.Tests.{lt-ltb}
use Rattle.types.specs.Pick.{pick}
use Rattle.watched.specs.declared.nodes.WatchedNode.{WatchedNode}
use Rattle.watched.specs.Watched.{place_of, no_node, without}
use Rattle.partners.specs.Walks.{closed}

-- what it leaves: behind the watched nodes, zeros
cleared : (ps : List WatchedNode) → closed 0 ps ≡ replicate (length ps) no_node
cleared [] = refl
cleared (p ∷ ps) = ap (λ (l : List WatchedNode). no_node ∷ l) (cleared ps)

closed_step : (k : ℕ) (w : WatchedNode) (ps : List WatchedNode) → closed (suc k) (w ∷ ps) ≡ pick (ltb 1 (suc k)) (get_or ps 0 no_node) no_node ∷ closed k ps
closed_step k w ps = let e : suc k - 1 ≡ k = omega arith in ap (λ (j : ℕ). pick (ltb 1 (suc k)) (get_or ps 0 no_node) no_node ∷ closed j ps) e

pub moved_down_lem : (w : WatchedNode) (k m : ℕ) (ps : List WatchedNode) → m + k ≡ suc (length ps) → k ≤ length ps → closed (suc k) (w ∷ ps) ≡ take k ps ++ replicate m no_node
moved_down_lem w zero m ps h l =
    let e : suc (length ps) ≡ m = omega arith in
    closed_step zero w ps ∙ ap (λ (l : List WatchedNode). no_node ∷ l) (cleared ps) ∙ ap (λ (j : ℕ). replicate j no_node) e
moved_down_lem w (suc k) m [] h l = absurd (omega arith)
moved_down_lem w (suc k) m (p ∷ ps) h l =
    closed_step (suc k) w (p ∷ ps)
    ∙ ap₂ (λ (b : Bool) (l : List WatchedNode). pick b p no_node ∷ l) (lt-ltb 1 (suc (suc k)) (omega arith)) (moved_down_lem p k m ps (omega arith) (omega arith))

pub closed_without :
    (n k m p : ℕ) (ps : List WatchedNode) → m + k ≡ suc (length ps) → k ≤ length ps → p ≡ place_of n (take k ps) → p < k →
    take p ps ++ closed (k - p) (drop p ps) ≡ without n (take k ps) ++ replicate m no_node
closed_without n zero m p ps h l e i = absurd (omega arith)
closed_without n (suc k) m p [] h l e i = absurd (omega arith)
closed_without n (suc k) m p (w ∷ ps) h l e i = by (eqb w.node n) p (λ q e i. closed_without n k m q ps (omega arith) (omega arith) e i) e i
  where
    by :
        (b : Bool) (p : ℕ) → ((q : ℕ) → q ≡ place_of n (take k ps) → q < k → take q ps ++ closed (k - q) (drop q ps) ≡ without n (take k ps) ++ replicate m no_node) →
        p ≡ pick b 0 (suc (place_of n (take k ps))) → p < suc k →
        take p (w ∷ ps) ++ closed (suc k - p) (drop p (w ∷ ps)) ≡ pick b (take k ps) (w ∷ without n (take k ps)) ++ replicate m no_node
    by true zero more e i = let z : suc k - 0 ≡ suc k = omega arith in ap (λ (j : ℕ). closed j (w ∷ ps)) z ∙ moved_down_lem w k m ps (omega arith) (omega arith)
    by true (suc p) more e i = absurd (omega arith)
    by false zero more e i = absurd (omega arith)
    by false (suc p) more e i =
        let z : suc k - suc p ≡ k - p = omega arith in
        ap (λ (l : List WatchedNode). w ∷ l) (ap (λ (j : ℕ). take p ps ++ closed j (drop p ps)) z ∙ more p (omega arith) (omega arith))

pub without_long : (n : ℕ) (ws : List WatchedNode) → place_of n ws < length ws → suc (length (without n ws)) ≡ length ws
without_long n [] l = absurd (omega arith)
without_long n (w ∷ ws) l = by (eqb w.node n) (without_long n ws) l
  where
    by :
        (b : Bool) → (place_of n ws < length ws → suc (length (without n ws)) ≡ length ws) → pick b 0 (suc (place_of n ws)) < suc (length ws) →
        suc (length (pick b ws (w ∷ without n ws))) ≡ suc (length ws)
    by true more l = refl
    by false more l = ap suc (more (omega arith))
