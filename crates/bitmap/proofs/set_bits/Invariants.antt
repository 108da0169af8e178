-- `bitmap::set_bits` meets its contract: after i turns the bytes are those of the first i nodes.
-- Assumes nothing.
use Prim.Native.Nat.{◌≤◌}
use mathlib.Core.Path.{◌≡◌}
use Rattle.watched.specs.Watched.{watched_of}
use Rattle.watched.specs.Nodes.{nodes_of}
use Rattle.bitmap.specs.Bitmap.{bytes_of}
use Rattle.bitmap.proofs.set_bits.Given as goal

abbrev pub invariant-loop-i : goal.invariant-loop-i
invariant-loop-i l =
    (l.bytes ≡ bytes_of (watched_of (nodes_of l.formed.nodes.now) l.i)) × (l.i ≤ l.formed.count) × (l.formed.count ≤ 32)
