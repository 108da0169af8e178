-- `lent::ticks::still` meets its contract: by one walk where heartbeats are checked, by another
-- where not.
-- Assumes nothing.
use mathlib.Core.Path.{◌∙◌}
use Rattle.std.proofs.Common.{rules, ◌≡◌, Some, None}
use Rattle.lent.proofs.Ticking.{still_checked, still_none, still_some}
use Rattle.lent.proofs.ticks.still.Goals as goal

pub returns-then-checks : goal.returns-then-checks
returns-then-checks c =
    let a = c.args in
    still_checked a.time a.number a.nodes.now a.checks c.if-checks.true c.at_rest.result c.at_rest.ensures

pub returns-in_err-soonest : goal.returns-in_err-soonest
returns-in_err-soonest c =
    let a = c.args in
    let r : c.from_residual.result ≡ None = search rules in
    let n : c.find.result ≡ None = search rules in
    r ∙ still_none a.time a.number a.nodes.now a.checks c.if-checks.false c.find.result c.find.ensures n

pub returns : goal.returns
returns c =
    let a = c.args in
    let s : c.find.result ≡ Some (c.in_ok-soonest.field-0-0, c.in_ok-soonest.soonest) = search rules in
    still_some a.time a.number a.nodes.now a.checks c.if-checks.false c.find.result c.find.ensures _ _ s
