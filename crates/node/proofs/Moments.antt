-- The earliest moment at which a watched node would be late, as a walk's number and as the plain
-- head has it.
-- Assumes nothing.
use Prim.Native.Nat.{ℕ, ◌+◌, ◌≤◌, ◌<◌, min}
use mathlib.Core.Path.{◌≡◌, refl, ap, ap₂, ◌∙◌}
use mathlib.Core.Bool.{Bool, true, false}
use mathlib.Core.List.{List, [], ◌∷◌}
use native.Mathlib.Omega.{arith}
use lib.Dec.{eqb, leb, ltb}
use lib.ListN.{length}
use borrow.Author.Tests.{eqb-true, ne_eqb}
use Rattle.types.specs.Pick.{pick, both, all_of}
use Rattle.types.specs.Types.{is_node}
use Rattle.types.proofs.Tests.{both_first, both_second}
use Rattle.std.specs.declared.option.Option.{Option}
use Rattle.std.specs.declared.option.Option.TheVariants.{Some, None}
use Rattle.watched.specs.declared.nodes.WatchedNode.{WatchedNode}
use Rattle.watched.specs.Watched.{latest, in_time, ascending, fits, well_formed, heard_now, heard_at}
use Rattle.watched.specs.Nodes.{never, sooner_by, soonest, moment_of}
use Rattle.watched.proofs.Watching.{times_fit}
use Rattle.node.specs.Steps.{late_from, smaller, earliest}

smaller_then : (a b c : Option ℕ) → smaller (smaller a b) c ≡ smaller a (smaller b c)
smaller_then None b c = refl
smaller_then (Some a) None c = refl
smaller_then (Some a) (Some b) None = refl
smaller_then (Some a) (Some b) (Some c) = let e : min (min a b) c ≡ min a (min b c) = omega arith in ap Some e

none_smaller : (d : Option ℕ) → d ≡ smaller d None
none_smaller None = refl
none_smaller (Some a) = refl

-- a number that is a moment is not the one for none
moment_at : (n : ℕ) → n < never → moment_of n ≡ Some n
moment_at n h = ap (λ (b : Bool). pick b None (Some n)) (ne_eqb n never (λ e. omega arith))

moment_min : (s m : ℕ) → m < never → moment_of (min s m) ≡ smaller (moment_of s) (Some m)
moment_min s m h = by (eqb s never) refl
  where
    by : (b : Bool) → eqb s never ≡ b → moment_of (min s m) ≡ smaller (pick b None (Some s)) (Some m)
    by true e =
        let z : s ≡ never = eqb-true s never e in
        let x : min s m ≡ m = omega (arith, z, h) in
        ap moment_of x ∙ moment_at m h
    by false e = moment_at (min s m) (omega arith)

-- one more node
sooner_moment : (s : ℕ) (w : WatchedNode) → fits w ≡ true → moment_of (sooner_by s w) ≡ smaller (moment_of s) (late_from w)
sooner_moment s w f = by (both (ltb 0 w.timeout) (ltb 0 w.last_heard))
  where
    t : (w.timeout ≤ latest) × (w.last_heard ≤ latest)
    t = times_fit w f

    by :
        (b : Bool) →
        moment_of (pick b (min s (w.last_heard + w.timeout + 1)) s) ≡ smaller (moment_of s) (pick b (Some (w.last_heard + w.timeout + 1)) None)
    by true = moment_min s (w.last_heard + w.timeout + 1) (omega (arith, t.0, t.1))
    by false = none_smaller (moment_of s)

soonest_moment : (s : ℕ) (ws : List WatchedNode) → all_of fits ws ≡ true → moment_of (soonest s ws) ≡ smaller (moment_of s) (earliest ws)
unfolding earliest
soonest_moment s [] f = none_smaller (moment_of s)
soonest_moment s (w ∷ ws) f =
    soonest_moment (sooner_by s w) ws (both_second (fits w) (all_of fits ws) f)
    ∙ ap (λ (d : Option ℕ). smaller d (earliest ws)) (sooner_moment s w (both_first (fits w) (all_of fits ws) f))
    ∙ smaller_then (moment_of s) (late_from w) (earliest ws)

-- the number that a walk over nodes within their limits ends with
pub moment_of_lem : (ws : List WatchedNode) → all_of fits ws ≡ true → moment_of (soonest never ws) ≡ earliest ws
moment_of_lem ws f = soonest_moment never ws f

-- nodes that are well formed are within their limits, and so they are with one heard at a time that
-- a call takes
pub all_fit : (ws : List WatchedNode) → well_formed ws ≡ true → all_of fits ws ≡ true
unfolding well_formed
all_fit ws h = both_second (ascending ws) (all_of fits ws) (both_second (leb (length ws) 32) (both (ascending ws) (all_of fits ws)) h)

pub now_fits : (t : ℕ) (w : WatchedNode) → in_time t ≡ true → fits w ≡ true → fits (heard_now t w) ≡ true
now_fits t w i f =
    let b : both (in_time w.timeout) (in_time w.last_heard) ≡ true = both_second (is_node w.node) _ f in
    ap₂ both (both_first (is_node w.node) _ f) (ap₂ both (both_first (in_time w.timeout) _ b) i)

pub heard_fits : (n t : ℕ) (ws : List WatchedNode) → in_time t ≡ true → all_of fits ws ≡ true → all_of fits (heard_at n t ws) ≡ true
heard_fits n t [] i f = refl
heard_fits n t (w ∷ ws) i f = by (eqb w.node n) (heard_fits n t ws i (both_second (fits w) (all_of fits ws) f))
  where
    here : fits w ≡ true
    here = both_first (fits w) (all_of fits ws) f

    more : all_of fits ws ≡ true
    more = both_second (fits w) (all_of fits ws) f

    by : (b : Bool) → all_of fits (heard_at n t ws) ≡ true → all_of fits (pick b (heard_now t w ∷ ws) (w ∷ heard_at n t ws)) ≡ true
    by true x = ap₂ both (now_fits t w i here) more
    by false x = ap₂ both here x
