-- The run that an add or a removal leaves: what it watches, and its earliest moment, which is that
-- of the nodes with the one added or removed not heard.
-- Assumes nothing.
use Prim.Native.Nat.{ℕ, ◌+◌, ◌-◌}
use mathlib.Core.Path.{◌≡◌, refl, sym, ap, ◌∙◌}
use mathlib.Core.Bool.{Bool, true, false}
use mathlib.Core.List.{List, [], ◌∷◌, ◌++◌}
use native.Mathlib.Omega.{arith}
use lib.Dec.{eqb, ltb}
use lib.ListN.{length, replicate, length-append}
use lib.Seq.{take_at}
use Rattle.types.specs.Pick.{pick, both, either}
use Rattle.types.proofs.Tests.{both_second}
use Rattle.std.specs.declared.option.Option.{Option}
use Rattle.std.specs.declared.option.Option.TheVariants.{Some, None}
use Rattle.watched.specs.declared.nodes.WatchedNode.{WatchedNode}
use Rattle.watched.specs.Watched.{well_formed, no_node, watched_node, is_watched, heard_now, heard_at, Run, watching, well_lent, inserted, without, holding}
use Rattle.watched.specs.Nodes.{never, soonest, moment_of}
use Rattle.watched.proofs.Lists.{watched_take}
use Rattle.node.specs.Steps.{late_from, smaller, earliest, added, removed}
use Rattle.node.proofs.Moments.{moment_of_lem, all_fit, heard_fits}

pub held : (ws : List WatchedNode) → watching (holding ws) ≡ ws
held ws =
    let rest : List WatchedNode = replicate (32 - length ws) no_node in
    watched_take (ws ++ rest) (length ws) (rw length-append (omega arith)) ∙ take_at ws rest (length ws) refl

-- a node that was not heard is late at no moment
unheard_late : (n o : ℕ) → late_from (watched_node n o 0) ≡ None
unheard_late n o = by (ltb 0 o)
  where
    by : (b : Bool) → pick (both b false) (Some (0 + o + 1)) None ≡ None
    by true = refl
    by false = refl

inserted_earliest : (v : WatchedNode) → late_from v ≡ None → (ws : List WatchedNode) → earliest (inserted v ws) ≡ earliest ws
unfolding earliest
inserted_earliest v e [] = ap (λ (d : Option ℕ). smaller d None) e
inserted_earliest v e (w ∷ ws) = by (ltb v.node w.node) (inserted_earliest v e ws)
  where
    by : (b : Bool) → earliest (inserted v ws) ≡ earliest ws → earliest (pick b (v ∷ w ∷ ws) (w ∷ inserted v ws)) ≡ earliest (w ∷ ws)
    by true x = ap (λ (d : Option ℕ). smaller d (earliest (w ∷ ws))) e
    by false x = ap (smaller (late_from w)) x

without_earliest : (n : ℕ) (ws : List WatchedNode) → earliest (heard_at n 0 ws) ≡ earliest (without n ws)
unfolding earliest
without_earliest n [] = refl
without_earliest n (w ∷ ws) = by (eqb w.node n) (without_earliest n ws)
  where
    by :
        (b : Bool) → earliest (heard_at n 0 ws) ≡ earliest (without n ws) →
        earliest (pick b (heard_now 0 w ∷ ws) (w ∷ heard_at n 0 ws)) ≡ earliest (pick b ws (w ∷ without n ws))
    by true x = ap (λ (d : Option ℕ). smaller d (earliest ws)) (unheard_late w.node w.timeout)
    by false x = ap (smaller (late_from w)) x

nowhere_heard : (n t : ℕ) (ws : List WatchedNode) → is_watched n ws ≡ false → heard_at n t ws ≡ ws
nowhere_heard n t [] e = refl
nowhere_heard n t (w ∷ ws) e = by (eqb w.node n) (nowhere_heard n t ws) e
  where
    by : (b : Bool) → (is_watched n ws ≡ false → heard_at n t ws ≡ ws) → either b (is_watched n ws) ≡ false → pick b (heard_now t w ∷ ws) (w ∷ heard_at n t ws) ≡ w ∷ ws
    by true more e = cc
    by false more e = ap (λ (l : List WatchedNode). w ∷ l) (more e)

-- a walk's number over the nodes as they were lent, with n not heard, is the earliest moment of the
-- run that is left
module _ (r : Run) (n : ℕ) (f : well_lent r ≡ true) where
  abbrev vs : List WatchedNode
  vs = watching r

  walked : moment_of (soonest never (heard_at n 0 vs)) ≡ earliest (heard_at n 0 vs)
  walked = moment_of_lem (heard_at n 0 vs) (heard_fits n 0 vs refl (all_fit vs (both_second (eqb (length r.places) 32) (well_formed vs) f)))

  pub added_moment : (o : ℕ) → is_watched n vs ≡ false → moment_of (soonest never (heard_at n 0 vs)) ≡ earliest (watching (added n o r))
  added_moment o w =
      walked ∙ ap earliest (nowhere_heard n 0 vs w) ∙ sym (inserted_earliest (watched_node n o 0) (unheard_late n o) vs)
      ∙ ap earliest (sym (held (inserted (watched_node n o 0) vs)))

  pub removed_moment : moment_of (soonest never (heard_at n 0 vs)) ≡ earliest (watching (removed n r))
  removed_moment = walked ∙ without_earliest n vs ∙ ap earliest (sym (held (without n vs)))
