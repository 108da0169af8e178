-- What a node that is carried along leaves of ascending nodes.
-- Assumes nothing.
use Prim.Native.Nat.{ℕ, zero, suc, ◌+◌}
use mathlib.Core.Path.{◌≡◌, refl, ap, ◌∙◌}
use mathlib.Core.Bool.{Bool, true, false}
use mathlib.Core.List.{List, [], ◌∷◌, ◌++◌}
use native.Mathlib.Omega.{arith}
use lib.Dec.{ltb}
use lib.ListN.{length, take, replicate}
use Rattle.types.specs.Pick.{pick}
use Rattle.types.proofs.Tests.{both_first, both_second}
use Rattle.watched.specs.declared.nodes.WatchedNode.{WatchedNode}
use Rattle.watched.specs.Watched.{ascending, no_node, inserted}
use Rattle.partners.specs.Walks.{carried}

-- what it leaves: behind the watched nodes, zeros
cleared : (ps : List WatchedNode) → carried zero no_node ps ≡ replicate (length ps) no_node
cleared [] = refl
cleared (p ∷ ps) = ap (λ (l : List WatchedNode). no_node ∷ l) (cleared ps)

-- of ascending nodes all above v
moved_up :
    (v : WatchedNode) (k m : ℕ) (ps : List WatchedNode) → m + suc k ≡ length ps → ascending (v ∷ take k ps) ≡ true →
    carried k v ps ≡ (v ∷ take k ps) ++ replicate m no_node
moved_up v k m [] h a = absurd (omega arith)
moved_up v zero m (p ∷ ps) h a =
    let e : length ps ≡ m = omega arith in
    ap (λ (l : List WatchedNode). v ∷ l) (cleared ps ∙ ap (λ (j : ℕ). replicate j no_node) e)
moved_up v (suc k) m (p ∷ ps) h a =
    ap (λ (b : Bool). pick b (v ∷ carried k p ps) (p ∷ carried k v ps)) (both_first (ltb v.node p.node) (ascending (p ∷ take k ps)) a)
    ∙ ap (λ (l : List WatchedNode). v ∷ l) (moved_up p k m ps (omega arith) (both_second (ltb v.node p.node) (ascending (p ∷ take k ps)) a))

rest_ascends : (w : WatchedNode) (ws : List WatchedNode) → ascending (w ∷ ws) ≡ true → ascending ws ≡ true
rest_ascends w [] a = refl
rest_ascends w (v ∷ vs) a = both_second (ltb w.node v.node) (ascending (v ∷ vs)) a

pub carried_inserted :
    (v : WatchedNode) (k m : ℕ) (ps : List WatchedNode) → m + suc k ≡ length ps → ascending (take k ps) ≡ true →
    carried k v ps ≡ inserted v (take k ps) ++ replicate m no_node
carried_inserted v k m [] h a = absurd (omega arith)
carried_inserted v zero m (p ∷ ps) h a =
    let e : length ps ≡ m = omega arith in
    ap (λ (l : List WatchedNode). v ∷ l) (cleared ps ∙ ap (λ (j : ℕ). replicate j no_node) e)
carried_inserted v (suc k) m (p ∷ ps) h a =
    by (ltb v.node p.node) (moved_up p k m ps (omega arith) a) (carried_inserted v k m ps (omega arith) (rest_ascends p (take k ps) a))
  where
    by :
        (b : Bool) →
        carried k p ps ≡ (p ∷ take k ps) ++ replicate m no_node →
        carried k v ps ≡ inserted v (take k ps) ++ replicate m no_node →
        pick b (v ∷ carried k p ps) (p ∷ carried k v ps) ≡ pick b (v ∷ p ∷ take k ps) (p ∷ inserted v (take k ps)) ++ replicate m no_node
    by true x y = ap (λ (l : List WatchedNode). v ∷ l) x
    by false x y = ap (λ (l : List WatchedNode). p ∷ l) y

pub inserted_long : (v : WatchedNode) (ws : List WatchedNode) → length (inserted v ws) ≡ suc (length ws)
inserted_long v [] = refl
inserted_long v (w ∷ ws) = by (ltb v.node w.node) (inserted_long v ws)
  where
    by : (b : Bool) → length (inserted v ws) ≡ suc (length ws) → length (pick b (v ∷ w ∷ ws) (w ∷ inserted v ws)) ≡ suc (suc (length ws))
    by true x = refl
    by false x = ap suc x
