-- `node::calls::nmt_event` meets its contract: the number is read, and the event processed.
-- Assumes nothing.
use mathlib.Core.Path.{sym, ◌∙◌}
use Rattle.node.proofs.Refining.{nmt_yes}
use Rattle.node.proofs.calls.nmt_event.Goals as goal

pub returns : goal.returns
returns c =
    let a = c.args in
    nmt_yes a.head.now c.told-head _ a.event _ c.process_event.result (sym c.try_from.ensures ∙ c.in_ok-event.was) c.process_event.ensures
