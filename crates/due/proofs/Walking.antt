-- The walk over the watched nodes: what is left gives what the whole gives, and what it gives is what the definition says of the run.
-- Assumes nothing.
use Prim.Native.Nat.{ℕ, ◌+◌, ◌≤◌, ◌<◌}
use mathlib.Core.Path.{◌≡◌, refl, sym, ap, ap₂, ◌∙◌}
use mathlib.Core.Bool.{Bool, true, false}
use mathlib.Core.List.{List, [], ◌∷◌}
use lib.Dec.{eqb, leb, ltb}
use native.Mathlib.Numerals.{add-one}
use lib.ListN.{length, get_or, take, drop}
use lib.Seq.{drop-cons}
use borrow.Author.Tests.{eqb-true, eq-eqb, leb-true, leb-false, le-leb}
use Rattle.std.specs.declared.option.Option.{Option}
use Rattle.std.specs.declared.option.Option.TheVariants.{Some, None}
use Rattle.std.specs.declared.result.Result.{Result}
use Rattle.std.specs.declared.result.Result.TheVariants.{Ok, Err}
use Rattle.types.specs.Pick.{pick, both, all_of}
use Rattle.types.proofs.Tests.{both_true}
use Rattle.types.specs.declared.refusals.Refusal.{Refusal}
use Rattle.types.specs.declared.refusals.Refusal.TheVariants.{WatchedNodes}
use Rattle.head.specs.Words.{nmt_of, soc_of, head_of}
use Rattle.watched.specs.declared.nodes.WatchedNode.{WatchedNode}
use Rattle.watched.specs.Watched.{fits, well_formed, run, watched_of}
use Rattle.watched.specs.Nodes.{rising, never, soonest, moment_of}
use Rattle.watched.proofs.Lists.{tests_begin, too_many, whole}
use Rattle.watched.proofs.Watching.{tried_unformed, tried_formed}
use Rattle.node.proofs.Moments.{moment_of_lem, all_fit}
use Rattle.node.specs.Steps.{smaller}
use Rattle.node.specs.Heartbeats.{checks_heartbeats}
use Rattle.node.specs.Due.{deadline_due, was_heard, due}
use Rattle.tick.specs.TickWords.{unlent}
use Rattle.due.specs.declared.moment.Walk.{Walk}
use Rattle.due.specs.Walk.{start, with_node, over, walked, walked_run, walk_due, due_found}
use Rattle.due.specs.Moment.{next_due}

-- a turn at the node w, with the others behind it
module _ (a : Walk) (w : WatchedNode) (ws rest : List WatchedNode) (e : ws ≡ w ∷ rest) (o : Option Walk) (f : o ≡ over a w) where
  turned : walked a ws ≡ pick (both (ltb a.last w.node) (fits w)) (walked (with_node a w) rest) None
  unfolding walked
  turned = ap (walked a) e

  pub walk_stops : o ≡ None → walked a ws ≡ None
  walk_stops h =
      turned
      ∙ ap (λ (b : Bool). pick b (walked (with_node a w) rest) None) (tried_unformed (both (ltb a.last w.node) (fits w)) (with_node a w) o f h)

  pub walk_next : (b : Walk) → o ≡ Some b → walked a ws ≡ walked b rest
  walk_next b h =
      let x = tried_formed (both (ltb a.last w.node) (fits w)) (with_node a w) o f b h in
      turned ∙ ap (λ (c : Bool). pick c (walked (with_node a w) rest) None) x.0 ∙ ap (λ (b : Walk). walked b rest) (sym x.1)

-- the node that was read at its place, and those behind it
pub read_there :
    (xs : List WatchedNode) (i : ℕ) (d : WatchedNode) → i < length xs → (w : WatchedNode) → w ≡ get_or xs i d → drop i xs ≡ w ∷ drop (i + 1) xs
read_there xs i d h w e = rw (add-one, e) (drop-cons xs i d h)

pub walk_ends : (a : Walk) (ws : List WatchedNode) → ws ≡ [] → walked a ws ≡ Some a
unfolding walked
walk_ends a ws e = ap (walked a) e

-- a run of 32 places, at most as many of them watched
pub run_begins : (vs : List WatchedNode) (k : ℕ) → length vs ≡ 32 → k ≤ 32 → walked_run (run vs k) ≡ walked start (take k vs)
run_begins vs k long few =
    ap₂ (λ (a b : Bool). pick (both a b) (walked start (take k vs)) None) (eq-eqb (length vs) 32 long) (le-leb k 32 few)

-- what the walk gives
abbrev dues : Option Walk → Option (Option ℕ)
dues None = None
dues (Some a) = Some (walk_due a)

abbrev given : Bool → Bool → ℕ → Option (Option ℕ)
given formed heard soon = pick formed (Some (pick heard (moment_of soon) (Some 0))) None

both_again : (a b c : Bool) → both (both a b) c ≡ both a (both b c)
both_again true b c = refl
both_again false b c = refl

walked_gives : (a : Walk) (ws : List WatchedNode) → dues (walked a ws) ≡ given (rising a.last ws) (both a.heard (all_of was_heard ws)) (soonest a.soonest ws)
unfolding walked
walked_gives a [] = ap (λ (b : Bool). given true b a.soonest) (sym (both_true a.heard))
walked_gives a (w ∷ ws) = by (both (ltb a.last w.node) (fits w)) (walked_gives (with_node a w) ws)
  where
    by :
        (b : Bool) →
        dues (walked (with_node a w) ws) ≡
        given (rising w.node ws) (both (both a.heard (was_heard w)) (all_of was_heard ws)) (soonest a.soonest (w ∷ ws)) →
        dues (pick b (walked (with_node a w) ws) None) ≡
        given (both b (rising w.node ws)) (both a.heard (all_of was_heard (w ∷ ws))) (soonest a.soonest (w ∷ ws))
    by true x =
        x
        ∙ ap (λ (b : Bool). given (rising w.node ws) b (soonest a.soonest (w ∷ ws))) (both_again a.heard (was_heard w) (all_of was_heard ws))
    by false x = refl

-- so it gives what the definition says of the run
module _ (ws : List ℕ) (vs : List WatchedNode) (k : ℕ) where
  abbrev answer : Option (Option ℕ) → Result (Option ℕ) Refusal
  answer None = Err WatchedNodes
  answer (Some d) = Ok (smaller (deadline_due (unlent ws) (soc_of ws).next_tick_us) (pick (checks_heartbeats (nmt_of ws).current_state) d None))

  by_dues : (o : Option Walk) → due_found ws o ≡ answer (dues o)
  by_dues None = refl
  by_dues (Some a) = refl

  abbrev nodes : List WatchedNode
  nodes = watched_of vs k

  formed : (b : Bool) → well_formed nodes ≡ b → answer (given b (all_of was_heard nodes) (soonest never nodes)) ≡ pick b (Ok (due (unlent ws) nodes)) (Err WatchedNodes)
  unfolding due head_of
  formed true h =
      ap (λ (m : Option ℕ). answer (Some (pick (all_of was_heard nodes) m (Some 0)))) (moment_of_lem nodes (all_fit nodes h))
  formed false h = refl

  of_run : (a b : Bool) → eqb (length vs) 32 ≡ a → leb k 32 ≡ b → answer (dues (pick (both a b) (walked start (take k vs)) None)) ≡ pick (both a (well_formed nodes)) (Ok (due (unlent ws) nodes)) (Err WatchedNodes)
  of_run false b e f = refl
  of_run true false e f =
      ap (λ (c : Bool). pick c (Ok (due (unlent ws) nodes)) (Err WatchedNodes)) (too_many vs k (leb-false k 32 f))
  of_run true true e f =
      let long = eqb-true (length vs) 32 e in
      let few = leb-true k 32 f in
      let same : nodes ≡ take k vs = whole vs k long few in
      ap answer
      (walked_gives start (take k vs)
      ∙ (λ i. given (sym (tests_begin vs k long few) i) (all_of was_heard (sym same i)) (soonest never (sym same i))))
      ∙ formed (well_formed nodes) refl

  pub gives_next_due : (o : Option Walk) → o ≡ walked_run (run vs k) → due_found ws o ≡ next_due ws (run vs k)
  gives_next_due o e = ap (due_found ws) e ∙ by_dues (walked_run (run vs k)) ∙ of_run (eqb (length vs) 32) (leb k 32) refl refl
