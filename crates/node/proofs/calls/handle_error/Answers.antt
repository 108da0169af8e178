-- `node::calls::handle_error` meets its contract: the kind is read, and the error handled.
-- Assumes nothing.
use mathlib.Core.Path.{sym, ◌∙◌}
use Rattle.node.proofs.Refining.{error_yes}
use Rattle.node.proofs.calls.handle_error.Goals as goal

pub returns : goal.returns
returns c =
    let a = c.args in
    error_yes a.head.now c.told-head _ a.kind a.a a.b _ c.handled.result
    (sym c.try_from.ensures ∙ c.in_ok-error.was) c.handled.ensures.0 c.handled.ensures.1
