-- `lent::bits::bitmap` meets its contract: WatchedNodes first, then the bits of the nodes in turn,
-- then the count of the bits.
-- Assumes nothing.
use mathlib.Core.Path.{sym}
use Rattle.std.proofs.Common.{arith, ◌≡◌, true, refl, take, length, ◌∙◌, ◌<◌}
use Rattle.entries.specs.Ring.{listed}
use Rattle.watched.specs.Watched.{run, well_lent, no_node}
use Rattle.watched.proofs.Lists.{taken_long}
use Rattle.bitmap.specs.Bitmap.{bytes_of}
use Rattle.bitmap.proofs.Bitmaps.{turn, turned_away_lem, written}
use Rattle.lent.proofs.Found.{long, below, small, all_set}
use Rattle.lent.proofs.bits.bitmap.Goals as goal

pub returns-then-not-is_formed : goal.returns-then-not-is_formed
returns-then-not-is_formed c =
    let a = c.args in
    turned_away_lem (run a.nodes.now a.number) a.bytes.now (sym c.is_formed.ensures ∙ c.if-not-is_formed.true)

pub slice_bounds-w-items-end : goal.slice_bounds-w-items-end
slice_bounds-w-items-end c =
    let a = c.args in
    let f = sym c.is_formed.ensures ∙ c.if-not-is_formed.false in
    sym (taken_long a.nodes.now a.number (long a.nodes.now a.number f) (below a.nodes.now a.number f))

pub loop-w-init : goal.loop-w-init
unfolding bytes_of listed
loop-w-init c = refl

pub overflow_cast-w : goal.overflow_cast-w
overflow_cast-w c =
    let a = c.args in
    let f = sym c.is_formed.ensures ∙ c.if-not-is_formed.false in
    let n : length (take a.number a.nodes.now) ≡ a.number = taken_long a.nodes.now a.number (long a.nodes.now a.number f) (below a.nodes.now a.number f) in
    let i : c.loop-w.w-index < a.number = omega (arith, n, c.loop-w-test.true) in
    omega (arith, small a.nodes.now a.number f c.loop-w.w-index no_node i)

pub loop-w-preserved : goal.loop-w-preserved
loop-w-preserved c =
    let l = c.loop-w in
    let a = c.args in
    let f = sym c.is_formed.ensures ∙ c.if-not-is_formed.false in
    let n : length (take a.number a.nodes.now) ≡ a.number = taken_long a.nodes.now a.number (long a.nodes.now a.number f) (below a.nodes.now a.number f) in
    let i : l.w-index < a.number = omega (arith, n, c.loop-w-test.true) in
    c.set_bit.ensures
    ∙ turn (take a.number a.nodes.now) l.w-index _ l.bytes l.invariant (omega (arith, n, i)) (omega (arith, small a.nodes.now a.number f l.w-index no_node i))

pub returns : goal.returns
returns c =
    let l = c.loop-w in
    let a = c.args in
    let f : well_lent (run a.nodes.now a.number) ≡ true = sym c.is_formed.ensures ∙ c.if-not-is_formed.false in
    written (run a.nodes.now a.number) a.bytes.now _ c.count_bits.result f
    (all_set a.nodes.now a.number f (take a.number a.nodes.now) l.w-index l.bytes refl (omega arith) l.invariant)
    c.count_bits.ensures
