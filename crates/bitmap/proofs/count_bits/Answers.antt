-- `bitmap::count_bits` meets its contract: 32 bytes have so few bits that their number fits.
-- Assumes nothing.
use Rattle.std.proofs.Common.{rules, ◌<◌, ◌^◌}
use Rattle.std.specs.Prelude.{sum_by}
use Rattle.std.specs.Int.Count.{ones}
use Rattle.bitmap.proofs.Bitmaps.{ones_fit}
use Rattle.bitmap.proofs.count_bits.Goals as goal

pub sum-requires-clause-fits : goal.sum-requires-clause-fits
sum-requires-clause-fits c =
    let h : sum_by ones c.args.bytes.now < 2 ^ 32 = ones_fit c.args.bytes.now c.told-bytes c.fits-bytes in
    search rules
