-- The question is the plain head's, whatever lies in its memory.
-- Assumes nothing.
use Prim.Native.Nat.{ℕ}
use mathlib.Core.Path.{◌≡◌, refl, sym, ap, ◌∙◌}
use mathlib.Core.Bool.{Bool, true, false}
use mathlib.Core.List.{List}
use Rattle.std.specs.declared.option.Option.{Option}
use Rattle.std.specs.declared.option.Option.TheVariants.{None}
use Rattle.std.specs.declared.result.Result.{Result}
use Rattle.std.specs.declared.result.Result.TheVariants.{Ok, Err}
use Rattle.types.specs.Pick.{pick}
use Rattle.types.specs.declared.refusals.Refusal.{Refusal}
use Rattle.types.specs.declared.refusals.Refusal.TheVariants.{WatchedNodes}
use Rattle.head.specs.Words.{nmt_of, soc_of, head_of}
use Rattle.head.specs.declared.state.Deadline.{Deadline}
use Rattle.head.specs.declared.state.Deadline.TheVariants.{At, Nothing}
use Rattle.watched.specs.declared.nodes.WatchedNode.{WatchedNode}
use Rattle.watched.specs.Watched.{Run, watching, well_lent}
use Rattle.node.specs.Plain.{Plain, Call, due_answer}
use Rattle.node.specs.Steps.{smaller, answers, declines}
use Rattle.node.specs.Heartbeats.{checks_heartbeats}
use Rattle.node.specs.Due.{deadline_due, nodes_due, due}
use Rattle.node.specs.Run.{step}
use Rattle.node.specs.InPlace.{answered}
use Rattle.node.specs.Refines.{plain}
use Rattle.tick.specs.TickWords.{unlent}
use Rattle.due.specs.Moment.{next_due}

-- the moment is that of the head, whatever lies in its memory
pub due_same : (ws q m : List ℕ) (vs : List WatchedNode) → due (unlent ws) vs ≡ due (plain (head_of ws) q m) vs
unfolding due head_of
due_same ws q m vs = by (soc_of ws).next_tick_us
  where
    c : Bool
    c = checks_heartbeats (nmt_of ws).current_state

    by :
        (d : Deadline) →
        smaller (deadline_due (unlent ws) d) (pick c (nodes_due vs) None) ≡ smaller (deadline_due (plain (head_of ws) q m) d) (pick c (nodes_due vs) None)
    by (At d) = refl
    by Nothing = refl

pub next_due_steps :
    (ws : List ℕ) (r : Run) (a : Result (Option ℕ) Refusal) → a ≡ next_due ws r → (q m : List ℕ) →
    step (plain (head_of ws) q m) (Call.next_due r) ≡ answers (plain (head_of ws) q m) (answered due_answer a) r
next_due_steps ws r a e q m =
    by (well_lent r) ∙ ap (λ (a : Result (Option ℕ) Refusal). answers p (answered due_answer a) r) (sym e)
  where
    p : Plain
    p = plain (head_of ws) q m

    vs : List WatchedNode
    vs = watching r

    by :
        (b : Bool) →
        pick b (answers p (due_answer (due p vs)) r) (declines p r 3) ≡ answers p (answered due_answer (pick b (Ok (due (unlent ws) vs)) (Err WatchedNodes))) r
    by true = ap (λ (d : Option ℕ). answers p (due_answer d) r) (sym (due_same ws q m vs))
    by false = refl
