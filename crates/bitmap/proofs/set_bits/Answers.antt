-- `bitmap::set_bits` meets its contract: after i turns the bytes are those of the first i nodes.
-- Assumes nothing.
use mathlib.Core.Path.{refl, sym, ◌∙◌}
use native.Mathlib.Omega.{arith}
use Rattle.entries.specs.Ring.{listed}
use Rattle.watched.specs.Nodes.{nodes_of}
use Rattle.watched.proofs.Lists.{few}
use Rattle.bitmap.specs.Bitmap.{bytes_of}
use Rattle.bitmap.proofs.Bitmaps.{node_below, turn}
use Rattle.bitmap.proofs.set_bits.Goals as goal

pub loop-i-init : goal.loop-i-init
unfolding bytes_of listed
loop-i-init c =
    let f = c.args.formed in
    (refl, omega arith, few (nodes_of f.nodes.now) f.count _ (sym f.formed) refl)

pub overflow_cast-at : goal.overflow_cast-at
overflow_cast-at c =
    let l = c.loop-i in
    let f = c.args.formed in
    omega (arith, (node_below f.nodes.now f.count l.i f.formed l.invariant.2 (omega arith) c.at.ensures).1)

pub loop-i-preserved : goal.loop-i-preserved
loop-i-preserved c =
    let l = c.loop-i in
    let f = c.args.formed in
    let b = node_below f.nodes.now f.count l.i f.formed l.invariant.2 (omega arith) c.at.ensures in
    (c.set_bit.ensures ∙ turn (nodes_of f.nodes.now) l.i _ l.bytes l.invariant.0 b.0 b.1, omega arith, l.invariant.2)
