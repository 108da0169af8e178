-- A frame with a VLAN tag (IEEE 802.1Q).
-- Assumes nothing.
use Rattle.std.specs.Prelude.{ℕ, List, Bool, length, drop, slice_index, nat_le, ◌==◌, ◌&&◌, if◌then◌else◌}

-- behind the two addresses, which are 12 bytes, stand 0x8100 and two bytes more
abbrev pub is_tagged : List ℕ → Bool
is_tagged xs = nat_le 16 (length xs) && (slice_index xs 12 == 0x81 && slice_index xs 13 == 0)

-- what stands behind the addresses and a tag
abbrev pub behind_tag : List ℕ → List ℕ
behind_tag xs = if is_tagged xs then drop 16 xs else drop 12 xs
