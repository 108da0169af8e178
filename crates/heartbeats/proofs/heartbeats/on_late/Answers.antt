-- `heartbeats::heartbeats::on_late` meets its contract: counted, and registered on a signal.
-- Assumes nothing.
use Prim.Native.Nat.{ℕ}
use mathlib.Core.Path.{subst}
use mathlib.Core.List.{List}
use Rattle.phases.specs.PartsIn.{FinishesIn}
use Rattle.heartbeats.proofs.LateWalk.{on_late_loud, on_late_quiet}
use Rattle.heartbeats.proofs.heartbeats.on_late.Goals as goal
use Rattle.heartbeats.proofs.heartbeats.on_late.Goals.{then-answer, else-answer}

pub returns : goal.returns
returns c =
    let a = c.args in
    λ w x. elim c.if-answer.branch [
      | then-answer y ↦
          on_late_loud a.head.now c.told-head a.node c.handled-answer.result c.handled-answer.ensures.0 _ c.handled-answer.ensures.1 c.acts.result c.acts.ensures c.finish.result _ w x
          y.if-answer.true _ y.signal.ensures (subst (λ (ws : List ℕ). FinishesIn ws c.handled-answer.result.logged c.acts.result c.finish.result c.finish.new.head) y.head-is c.finish.ensures)
      | else-answer y ↦
          on_late_quiet a.head.now c.told-head a.node c.handled-answer.result c.handled-answer.ensures.0 _ c.handled-answer.ensures.1 c.acts.result c.acts.ensures c.finish.result _ w x
          y.if-answer.false (subst (λ (ws : List ℕ). FinishesIn ws c.handled-answer.result.logged c.acts.result c.finish.result c.finish.new.head) y.head-is c.finish.ensures)
    ]
