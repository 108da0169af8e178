-- `start::start::begin` meets its contract: what it answers is what the tests say, in whatever
-- order the code makes them.
-- Assumes nothing.
use mathlib.Core.Path.{◌≡◌, sym, ◌∙◌}
use Rattle.std.proofs.Common.{rules, tests, Err}
use Rattle.start.proofs.Starting.{read_is, no_node, begins_declined, begins_taken}
use Rattle.start.proofs.start.begin.Goals as goal

pub returns-then-setup-gt-QUEUE_PLACES : goal.returns-then-setup-gt-QUEUE_PLACES
returns-then-setup-gt-QUEUE_PLACES c =
    let known = (read_is c.args.setup.node _ (sym c.try_from.ensures ∙ c.in_ok-node_id.was)).0 in
    begins_declined _ _ _ _ (search (rules, tests, known))

pub returns-then-not-formed : goal.returns-then-not-formed
returns-then-not-formed c =
    let known = (read_is c.args.setup.node _ (sym c.try_from.ensures ∙ c.in_ok-node_id.was)).0 in
    begins_declined _ _ _ _ (search (rules, tests, known))

pub returns-then-not-limited : goal.returns-then-not-limited
returns-then-not-limited c =
    let known = (read_is c.args.setup.node _ (sym c.try_from.ensures ∙ c.in_ok-node_id.was)).0 in
    begins_declined _ _ _ _ (search (rules, tests, known))

pub returns : goal.returns
returns c =
    let read = read_is c.args.setup.node _ (sym c.try_from.ensures ∙ c.in_ok-node_id.was) in
    let known = read.0 in
    begins_taken _ _ _ (search (rules, tests, known)) _ (rw read.1 c.fresh.ensures)

pub returns-in_err-node_id : goal.returns-in_err-node_id
returns-in_err-node_id c =
    let r : c.from_residual.result ≡ Err c.in_err-node_id.field-0.0 = search rules in
    let none = no_node c.args.setup.node _ (sym c.try_from.ensures ∙ c.in_err-node_id.was) in
    rw r (begins_declined _ _ _ _ (rw (← none.1, none.0)))
