-- `node::calls::on_cycle_complete` meets its contract: the counters by value decide.
-- Assumes nothing.
use mathlib.Core.Path.{ap, ◌∙◌}
use Rattle.counters.specs.Counters.{CompletedCycle, completed}
use Rattle.node.proofs.Refining.{cycle_yes}
use Rattle.node.proofs.calls.on_cycle_complete.Goals as goal

pub returns : goal.returns
returns c =
    let done = c.on_cycle_complete-cleared in
    let h = ap completed c.errors_of-errors.ensures in
    cycle_yes c.args.head.now c.told-head _ (record { counters = done.new.self; cleared = done.result })
    (λ i. record {
      counters = (done.ensures.counters ∙ ap (λ (r : CompletedCycle). r.counters) h) i;
      cleared = (done.ensures.cleared ∙ ap (λ (r : CompletedCycle). r.cleared) h) i;
    })
    c.set_levels.ensures
