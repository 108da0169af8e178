-- `watched::nodes::Ahead::scan_from` meets its contract: one walk over all, then the times of all.
-- Assumes nothing.
use mathlib.Core.Path.{sym, ◌∙◌}
use native.Mathlib.Omega.{arith}
use Rattle.watched.proofs.Watching.{by_test}
use Rattle.watched.proofs.Walk.{scanned_short, scanned_late, scanned_all}
use Rattle.watched.proofs.nodes.Ahead.scan_from.Goals as goal

pub returns-then-scanned-self : goal.returns-then-scanned-self
returns-then-scanned-self c =
    let s = c.args.self in
    scanned_short s.nodes.now s.count s.few s.place s.last c.scan-scanned.result c.scan-scanned.ensures c.args.«before» c.if-scanned-self.true

pub returns : goal.returns
returns c =
    let s = c.args.self in
    c.then_some.ensures
    ∙ by_test c.in_time.result _ _
    (λ h. scanned_all s.nodes.now s.count s.few 0 s.place s.last c.scan-scanned.result c.scan-scanned.ensures c.args.«before» (omega (arith, c.ranges.«before»))
    (sym c.in_time.ensures ∙ h) c.if-scanned-self.false c.min.result (omega (arith, c.min.ensures, c.saturating_add.ensures)))
    (λ h. scanned_late s.nodes.now s.count s.few s.place s.last c.scan-scanned.result c.scan-scanned.ensures c.args.«before» (sym c.in_time.ensures ∙ h))
