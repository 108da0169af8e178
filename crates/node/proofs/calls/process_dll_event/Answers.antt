-- `node::calls::process_dll_event` meets its contract: the machine by value decides.
-- Assumes nothing.
use mathlib.Core.Path.{◌∙◌}
use Rattle.dll.specs.Dll as Dll
use Rattle.node.proofs.Refining.{dll_processed}
use Rattle.node.proofs.calls.process_dll_event.Goals as goal

pub returns : goal.returns
returns c =
    let a = c.args in
    dll_processed a.head.now a.event a.expect_preq c.process_event-answer.result _
    (c.process_event-answer.ensures ∙ (λ i. Dll.cs_processed (c.dll_of.ensures i).state a.event (c.state_at.ensures i) a.expect_preq))
    c.set_dll.ensures
