-- `partners::try_place` meets its contract: its tests, in whatever order the code makes them.
-- Assumes nothing.
use mathlib.Core.Path.{◌≡◌}
use Rattle.std.proofs.Common.{rules, tests, Err, Some, None}
use Rattle.types.specs.declared.refusals.Refusal.TheVariants.{WatchedNodes}
use Rattle.node.proofs.Hearing.{found_none, found_some}
use Rattle.partners.proofs.try_place.Goals as goal

pub returns-in_err-watched : goal.returns-in_err-watched
returns-in_err-watched c f w e =
    let r : c.from_residual.result ≡ Err WatchedNodes = search rules in
    let n : c.args.watched ≡ None = search rules in
    rw (r, found_none c.args.watched f w e n)

pub returns-then-not-in_time : goal.returns-then-not-in_time
returns-then-not-in_time c f w e =
    let s : c.args.watched ≡ Some c.in_ok-watched.watched = search rules in
    let x = found_some c.args.watched f w e _ s in
    search (rules, tests, x)

pub returns-then-watched : goal.returns-then-watched
returns-then-watched c f w e =
    let s : c.args.watched ≡ Some c.in_ok-watched.watched = search rules in
    let x = found_some c.args.watched f w e _ s in
    search (rules, tests, x)

pub returns-then-number-ge-WATCHED_PLACES : goal.returns-then-number-ge-WATCHED_PLACES
returns-then-number-ge-WATCHED_PLACES c f w e =
    let s : c.args.watched ≡ Some c.in_ok-watched.watched = search rules in
    let x = found_some c.args.watched f w e _ s in
    search (rules, tests, x)

pub returns : goal.returns
returns c f w e =
    let s : c.args.watched ≡ Some c.in_ok-watched.watched = search rules in
    let x = found_some c.args.watched f w e _ s in
    search (rules, tests, x)
