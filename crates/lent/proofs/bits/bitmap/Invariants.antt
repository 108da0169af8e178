-- `lent::bits::bitmap` meets its contract: after each turn the bytes are those of the nodes before
-- this one.
-- Assumes nothing.
use Rattle.std.proofs.Common.{◌≡◌}
use Rattle.watched.specs.Watched.{watched_of}
use Rattle.bitmap.specs.Bitmap.{bytes_of}
use Rattle.lent.proofs.bits.bitmap.Given as goal

abbrev pub invariant-loop-w : goal.invariant-loop-w
invariant-loop-w l = l.bytes ≡ bytes_of (watched_of l.w-items l.w-index)
