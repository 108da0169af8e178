-- `node::heard::try_heard` meets its contract: its tests in turn.
-- Assumes nothing.
use mathlib.Core.Path.{◌≡◌, sym, ◌∙◌}
use Rattle.std.proofs.Common.{rules, Err, Some, None}
use Rattle.types.specs.declared.refusals.Refusal.TheVariants.{WatchedNodes}
use Rattle.node.proofs.Hearing.{found_none, found_some}
use Rattle.node.proofs.heard.try_heard.Goals as goal

pub returns-in_err-watched : goal.returns-in_err-watched
returns-in_err-watched c f w e =
    let n : c.args.watched ≡ None = search rules in
    let r : c.from_residual.result ≡ Err WatchedNodes = search rules in
    rw (r, found_none c.args.watched f w e n)

pub returns-then-not-in_time : goal.returns-then-not-in_time
returns-then-not-in_time c f w e =
    let s : c.args.watched ≡ Some c.in_ok-watched.watched = search rules in
    rw ((found_some c.args.watched f w e _ s).0, sym c.in_time.ensures ∙ c.if-not-in_time.true)

pub returns-then-not-watched : goal.returns-then-not-watched
returns-then-not-watched c f w e =
    let s : c.args.watched ≡ Some c.in_ok-watched.watched = search rules in
    let x = found_some c.args.watched f w e _ s in
    rw (x.0, sym c.in_time.ensures ∙ c.if-not-in_time.false, x.1 ∙ c.if-not-watched.true)

pub returns : goal.returns
returns c f w e =
    let s : c.args.watched ≡ Some c.in_ok-watched.watched = search rules in
    let x = found_some c.args.watched f w e _ s in
    rw (x.0, sym c.in_time.ensures ∙ c.if-not-in_time.false, x.1 ∙ c.if-not-watched.false)
