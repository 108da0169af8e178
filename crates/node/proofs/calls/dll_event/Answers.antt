-- `node::calls::dll_event` meets its contract: the number is read, and the event processed.
-- Assumes nothing.
use mathlib.Core.Path.{sym, ◌∙◌}
use Rattle.node.proofs.Refining.{dll_yes}
use Rattle.node.proofs.calls.dll_event.Goals as goal

pub returns : goal.returns
returns c =
    let a = c.args in
    dll_yes a.head.now c.told-head _ a.event a.expect_preq _ c.process_dll_event.result (sym c.try_from.ensures ∙ c.in_ok-event.was) c.process_dll_event.ensures
