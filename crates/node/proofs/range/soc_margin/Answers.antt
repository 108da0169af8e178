-- `node::range::soc_margin` meets its contract: the time is tried, and the elapsed time taken from
-- the limit.
-- Assumes nothing.
use Prim.Native.Nat.{ℕ}
use mathlib.Core.Path.{◌≡◌, ap, ◌∙◌}
use native.Mathlib.Omega.{arith}
use mir.Syntax.{w64}
use mir.Val.{to_z, of_z}
use lib.IntN.{◌-ℤ◌}
use Rattle.node.specs.Deadline.{elapsed}
use Rattle.node.specs.Range.{margin_of}
use Rattle.node.proofs.Signed.{difference_fits, difference_is}
use Rattle.node.proofs.Ranging.{head_in, margin_taken, margin_read}
use Rattle.node.proofs.range.soc_margin.Goals as goal

pub overflow_sub-result : goal.overflow_sub-result
overflow_sub-result c = search (arith, difference_fits, c.limit-limit.ensures.1, c.elapsed.ensures.1)

pub returns : goal.returns
returns c =
    let a = c.args in
    let l = c.limit-limit.result in
    let e : c.elapsed.result ≡ elapsed (head_in a.head.now) a.time = c.elapsed.ensures.0 ∙ ap (elapsed (head_in a.head.now)) c.in_ok-time.ensures.0 in
    let shown : (x : ℕ) → x ≡ c.elapsed.result → to_z w64 (of_z w64 (to_z w64 l -ℤ to_z w64 x)) ≡ margin_of (head_in a.head.now) a.time =
    λ x same. margin_read a.head.now a.time c.od_of.result l x _ c.od_of.ensures c.limit-limit.ensures.0 (same ∙ e)
    (difference_is l x (omega (arith, c.limit-limit.ensures.1)) (omega (arith, same, c.elapsed.ensures.1))) in
    margin_taken a.head.now a.time _ c.in_ok-time.ensures.1 (search (arith, shown))
