-- `tick::deadline::next_deadline` meets its contract: every sum fits.
-- Assumes nothing.
use mathlib.Core.Path.{ap, ◌∙◌}
use Rattle.head.specs.declared.state.Dictionary.{Dictionary}
use Rattle.head.specs.declared.state.SocWatch.{SocWatch}
use Prim.Native.Nat.{◌/◌, min}
use Rattle.node.specs.Steps.{cycle_of, tolerance_of}
use Rattle.tick.proofs.DeadlineLaws.{next_is}
use Rattle.head.specs.Words.{head_of}
use Rattle.tick.proofs.deadline.next_deadline.Goals as goal

pub returns : goal.returns
unfolding head_of
returns c =
    next_is (head_of c.args.head.now) c.args.time.us c.last_soc-last.result c.cycle-cycle_us.result c.time_since-elapsed.result c.tolerance_us.result
    (c.last_soc-last.ensures ∙ ap (λ (s : SocWatch). min s.last_soc_reception_time_us 4611686018427387903) c.soc_of.ensures)
    (c.cycle-cycle_us.ensures.0 ∙ ap cycle_of c.od_of-od.ensures) c.time_since-elapsed.ensures
    (c.tolerance_us.ensures.0 ∙ ap (λ (o : Dictionary). tolerance_of o / 1000) c.od_of-od.ensures)
