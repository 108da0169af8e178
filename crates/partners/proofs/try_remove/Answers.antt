-- `partners::try_remove` meets its contract: its tests in turn.
-- Assumes nothing.
use mathlib.Core.Path.{◌≡◌, ◌∙◌}
use Rattle.std.proofs.Common.{rules, Err, Some, None}
use Rattle.types.specs.declared.refusals.Refusal.TheVariants.{WatchedNodes}
use Rattle.node.proofs.Hearing.{found_none, found_some}
use Rattle.partners.proofs.try_remove.Goals as goal

pub returns-in_err-watched : goal.returns-in_err-watched
returns-in_err-watched c f w e =
    let r : c.from_residual.result ≡ Err WatchedNodes = search rules in
    let n : c.args.watched ≡ None = search rules in
    rw (r, found_none c.args.watched f w e n)

pub returns-then-not-watched : goal.returns-then-not-watched
returns-then-not-watched c f w e =
    let s : c.args.watched ≡ Some c.in_ok-watched.watched = search rules in
    let x = found_some c.args.watched f w e _ s in
    rw (x.0, x.1 ∙ c.if-not-watched.true)

pub returns : goal.returns
returns c f w e =
    let s : c.args.watched ≡ Some c.in_ok-watched.watched = search rules in
    let x = found_some c.args.watched f w e _ s in
    rw (x.0, x.1 ∙ c.if-not-watched.false)
