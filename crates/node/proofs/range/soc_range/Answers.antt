-- `node::range::soc_range` meets its contract: the readings are tried, and the ends say the rest.
-- Assumes nothing.
use Prim.Native.Nat.{◌≤◌}
use mathlib.Core.Path.{ap, sym, ◌∙◌}
use native.Mathlib.Omega.{arith}
use Rattle.node.specs.Deadline.{is_loss}
use Rattle.node.proofs.Ranging.{head_in, lost_end, kept_ends, open_ends, range_taken}
use Rattle.node.proofs.range.soc_range.Goals as goal

pub returns-then-is_loss : goal.returns-then-is_loss
returns-then-is_loss c =
    let a = c.args in
    let h : a.earliest ≤ a.latest = grind (arith, c.in_ok-earliest.ensures.0, c.in_ok-latest.ensures.0, c.lt.ensures, c.if-lt.false) in
    range_taken a.head.now a.earliest a.latest c.in_ok-earliest.ensures.1 c.in_ok-latest.ensures.1 _ h
    (lost_end (head_in a.head.now) a.earliest a.latest h (ap (is_loss (head_in a.head.now)) (sym c.in_ok-earliest.ensures.0) ∙ sym c.is_loss.ensures ∙ c.if-is_loss.true))

pub returns-then-is_loss-2 : goal.returns-then-is_loss-2
returns-then-is_loss-2 c =
    let a = c.args in
    let h : a.earliest ≤ a.latest = grind (arith, c.in_ok-earliest.ensures.0, c.in_ok-latest.ensures.0, c.lt.ensures, c.if-lt.false) in
    range_taken a.head.now a.earliest a.latest c.in_ok-earliest.ensures.1 c.in_ok-latest.ensures.1 _ h
    (open_ends (head_in a.head.now) a.earliest a.latest h (ap (is_loss (head_in a.head.now)) (sym c.in_ok-earliest.ensures.0) ∙ sym c.is_loss.ensures ∙ c.if-is_loss.false)
    (ap (is_loss (head_in a.head.now)) (sym c.in_ok-latest.ensures.0) ∙ sym c.is_loss-2.ensures ∙ c.if-is_loss-2.true))

pub returns : goal.returns
returns c =
    let a = c.args in
    let h : a.earliest ≤ a.latest = grind (arith, c.in_ok-earliest.ensures.0, c.in_ok-latest.ensures.0, c.lt.ensures, c.if-lt.false) in
    range_taken a.head.now a.earliest a.latest c.in_ok-earliest.ensures.1 c.in_ok-latest.ensures.1 _ h
    (kept_ends (head_in a.head.now) a.earliest a.latest h (ap (is_loss (head_in a.head.now)) (sym c.in_ok-earliest.ensures.0) ∙ sym c.is_loss.ensures ∙ c.if-is_loss.false)
    (ap (is_loss (head_in a.head.now)) (sym c.in_ok-latest.ensures.0) ∙ sym c.is_loss-2.ensures ∙ c.if-is_loss-2.false))
