-- The numbers of a recording, in either order of their bytes.
-- Assumes nothing.
use Rattle.std.specs.Prelude.{ℕ, ◌+◌, ◌*◌, List, slice_index}
use Rattle.pcap.specs.declared.order.Order.{Order}
use Rattle.pcap.specs.declared.order.Order.TheVariants.{LowestFirst, HighestFirst}

-- the number in the two bytes from a place on
abbrev pub two_at : Order → List ℕ → ℕ → ℕ
two_at LowestFirst xs i = slice_index xs i + 256 * slice_index xs (i + 1)
two_at HighestFirst xs i = 256 * slice_index xs i + slice_index xs (i + 1)

-- the number in the four bytes from a place on
abbrev pub four_at : Order → List ℕ → ℕ → ℕ
four_at LowestFirst xs i =
    slice_index xs i + 256 * slice_index xs (i + 1) + 65536 * slice_index xs (i + 2) + 16777216 * slice_index xs (i + 3)
four_at HighestFirst xs i =
    16777216 * slice_index xs i + 65536 * slice_index xs (i + 1) + 256 * slice_index xs (i + 2) + slice_index xs (i + 3)

-- the number in the eight bytes from a place on
abbrev pub eight_at : Order → List ℕ → ℕ → ℕ
eight_at LowestFirst xs i = four_at LowestFirst xs i + 4294967296 * four_at LowestFirst xs (i + 4)
eight_at HighestFirst xs i = 4294967296 * four_at HighestFirst xs i + four_at HighestFirst xs (i + 4)
