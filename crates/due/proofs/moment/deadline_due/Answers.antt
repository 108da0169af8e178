-- `due::moment::deadline_due` meets its contract: by what stands, and by the test where nothing does.
-- Assumes nothing.
use mathlib.Core.Path.{◌≡◌, refl, sym, ap, ap₂, ◌∙◌}
use mathlib.Core.Bool.{Bool, true, false}
use Prim.Native.Nat.{ℕ}
use lib.Dec.{ltb}
use Rattle.std.specs.Bool.{then_some}
use Rattle.std.specs.Option.{option_or}
use Rattle.std.specs.declared.option.Option.TheVariants.{Some, None}
use Rattle.types.specs.Pick.{pick, both}
use Rattle.head.specs.Head.{moment_in}
use Rattle.head.specs.Words.{head_of}
use Rattle.head.specs.declared.state.Deadline.{Deadline}
use Rattle.head.specs.declared.state.Deadline.TheVariants.{At, Nothing}
use Rattle.node.specs.Plain.{Plain}
use Rattle.node.specs.Deadline.{at_not_active, basic_timeout}
use Rattle.node.specs.Due.{deadline_due}
use Rattle.tick.specs.TickWords.{unlent}
use Rattle.due.proofs.moment.deadline_due.Goals as goal
use Rattle.due.proofs.moment.deadline_due.Goals.{then-at_not_active, else-at_not_active}

by_test :
    (p : Plain) (d : Deadline) (b : Bool) → b ≡ both (at_not_active p) (ltb 0 (basic_timeout p)) →
    option_or (moment_in d) (then_some {T = ℕ} b 0) ≡ deadline_due p d
by_test p (At d) b e = refl
by_test p Nothing b e = chosen b ∙ ap (λ (b : Bool). pick b (Some 0) None) e
  where
    chosen : (b : Bool) → then_some {T = ℕ} b 0 ≡ pick b (Some 0) None
    chosen true = refl
    chosen false = refl

pub returns : goal.returns
unfolding head_of
returns c =
    let p = unlent c.args.head.now in
    let e : c.if-at_not_active.sets_one ≡ both (at_not_active p) (ltb 0 (basic_timeout p)) =
    elim c.if-at_not_active.branch [
      | then-at_not_active w ↦
          w.sets_one-is ∙ ap (ltb 0) w.timeout_of.ensures
          ∙ ap (λ (b : Bool). both b (ltb 0 (basic_timeout p))) (sym w.if-at_not_active.true ∙ c.at_not_active.ensures)
      | else-at_not_active w ↦
          w.sets_one-is ∙ w.if-at_not_active.false
          ∙ ap (λ (b : Bool). both b (ltb 0 (basic_timeout p))) (sym w.if-at_not_active.false ∙ c.at_not_active.ensures)
    ] in
    c.or.ensures ∙ ap₂ option_or (c.moment.ensures ∙ ap moment_in c.deadline_at.ensures) c.then_some.ensures ∙ by_test p _ c.if-at_not_active.sets_one e
