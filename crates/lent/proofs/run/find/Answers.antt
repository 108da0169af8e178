-- `lent::run::find` meets its contract: node by node as long as the numbers climb, then all times
-- together, and the numbers.
-- Assumes nothing.
use Prim.Native.Nat.{min}
use mathlib.Core.Path.{◌≡◌, refl, sym, ap, ◌∙◌}
use native.Mathlib.Omega.{arith}
use Rattle.watched.specs.Nodes.{node_of}
use Rattle.watched.specs.Scan.{sum_of, three_before}
use Rattle.lent.proofs.Walks.{find_none, find_long, find_few, begins, heard_next, climb_stops, climb_next, numbers_next, numbers_end, find_unordered, find_late, find_unnumbered, find_ends}
use Rattle.lent.proofs.run.find.Goals.{then-nodes-ne-WATCHED_PLACES-via-then-nodes-ne-WATCHED_PLACES, then-nodes-ne-WATCHED_PLACES-via-else-nodes-ne-WATCHED_PLACES+then-number-gt-WATCHED_PLACES}
use Rattle.lent.proofs.run.find.Goals as goal

pub returns-then-nodes-ne-WATCHED_PLACES : goal.returns-then-nodes-ne-WATCHED_PLACES
returns-then-nodes-ne-WATCHED_PLACES c =
    let a = c.args in
    elim c.then-nodes-ne-WATCHED_PLACES.branch [
      | then-nodes-ne-WATCHED_PLACES-via-then-nodes-ne-WATCHED_PLACES w ↦ find_long a.nodes.now a.number a.node a.time w.if-nodes-ne-WATCHED_PLACES.true
      | then-nodes-ne-WATCHED_PLACES-via-else-nodes-ne-WATCHED_PLACES+then-number-gt-WATCHED_PLACES w ↦ find_few a.nodes.now a.number a.node a.time w.if-number-gt-WATCHED_PLACES.true
    ]

pub loop-i-init : goal.loop-i-init
loop-i-init c = (refl, refl, λ h. refl)

pub returns-then-w-last : goal.returns-then-w-last
returns-then-w-last c =
    let a = c.args in
    let l = c.loop-i in
    let long = c.if-nodes-ne-WATCHED_PLACES.false in
    let few = c.if-number-gt-WATCHED_PLACES.false in
    find_unordered a.nodes.now a.number long few a.node a.time
    (climb_stops a.nodes.now a.number long few l.i c.loop-i-test.true (node_of c.from-w.result) c.from-w.ensures _ l.last l.times l.invariant.0 c.if-w-last.true)

pub loop-i-preserved : goal.loop-i-preserved
loop-i-preserved c =
    let a = c.args in
    let l = c.loop-i in
    let vs = a.nodes.now in
    let k = a.number in
    let long = c.if-nodes-ne-WATCHED_PLACES.false in
    let few = c.if-number-gt-WATCHED_PLACES.false in
    let w = node_of c.from-w.result in
    let e : c.min-early.result ≡ min l.early (three_before (node_of c.heard_if.result)) = c.min-early.ensures ∙ ap (min l.early) c.three_before.ensures in (
      climb_next vs k long few l.i c.loop-i-test.true w c.from-w.ensures _ l.last l.times l.invariant.0 c.if-w-last.false _ refl,
      heard_next vs k long few l.i c.loop-i-test.true w c.from-w.ensures a.node a.time _ l.early l.invariant.1 c.min-early.result (e ∙ ap (λ w. min l.early (three_before w)) c.heard_if.ensures),
      λ h. numbers_next vs k long few l.i c.loop-i-test.true w c.from-w.ensures _ l.last l.invariant.2 c.if-w-last.false h,
    )

pub returns-then-not-in_time : goal.returns-then-not-in_time
returns-then-not-in_time c =
    let a = c.args in
    let l = c.loop-i in
    find_late a.nodes.now a.number c.if-nodes-ne-WATCHED_PLACES.false c.if-number-gt-WATCHED_PLACES.false l.i c.loop-i-test.false
    a.node a.time l.last l.times l.invariant.0 (sym c.in_time.ensures ∙ c.if-not-in_time.true)

pub have_numbers-requires : goal.have_numbers-requires
have_numbers-requires c =
    let a = c.args in
    let l = c.loop-i in
    λ h. numbers_end a.nodes.now a.number c.if-nodes-ne-WATCHED_PLACES.false c.if-number-gt-WATCHED_PLACES.false l.i c.loop-i-test.false l.last l.invariant.2 h

pub returns-then-not-have_numbers : goal.returns-then-not-have_numbers
returns-then-not-have_numbers c =
    let a = c.args in
    let l = c.loop-i in
    find_unnumbered a.nodes.now a.number c.if-nodes-ne-WATCHED_PLACES.false c.if-number-gt-WATCHED_PLACES.false l.i c.loop-i-test.false
    a.node a.time l.last l.times l.invariant.0 (sym c.in_time.ensures ∙ c.if-not-in_time.false) c.have_numbers.result c.have_numbers.ensures c.if-not-have_numbers.true

pub returns : goal.returns
returns c =
    let a = c.args in
    let l = c.loop-i in
    let s : c.saturating_add.result ≡ sum_of l.early 3 = omega (arith, c.saturating_add.ensures) in
    find_ends a.nodes.now a.number c.if-nodes-ne-WATCHED_PLACES.false c.if-number-gt-WATCHED_PLACES.false l.i c.loop-i-test.false
    a.node a.time l.last l.times l.invariant.0 (sym c.in_time.ensures ∙ c.if-not-in_time.false) c.have_numbers.result c.have_numbers.ensures c.if-not-have_numbers.false
    l.early c.saturating_add.result l.invariant.1 s c.place_of.result c.place_of.ensures.0
