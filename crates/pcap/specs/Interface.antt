-- The interfaces of a section, and the times that their clocks tell.
-- Assumes nothing.
use Rattle.std.specs.Prelude.{ℕ, ◌+◌, ◌-◌, ◌*◌, ◌/◌, ◌^◌, slice_get, slice_set, nat_lt, nat_le, ◌==◌, if◌then◌else◌}
use Rattle.std.specs.declared.option.Option.{Option}
use Rattle.std.specs.declared.option.Option.TheVariants.{Some, None}
use Rattle.pcap.specs.declared.interface.Offset.{Offset}
use Rattle.pcap.specs.declared.interface.Offset.TheVariants.{Later, Earlier}
use Rattle.pcap.specs.declared.interface.Interface.{Interface}
use Rattle.pcap.specs.declared.interface.Interfaces.{Interfaces}

-- a number that 64 bits hold
abbrev pub of_64_bits : ℕ → Option ℕ
of_64_bits n = if nat_lt n (2 ^ 64) then Some n else None

-- if_tsresol: where the highest bit is 0, the rest is a power of 10, else a power of 2; so many
-- units make a second
abbrev pub per_second_of : ℕ → Option ℕ
per_second_of byte = if nat_lt byte 128 then of_64_bits (10 ^ byte) else of_64_bits (2 ^ (byte - 128))

-- if_tsoffset: seconds that are added to each time, a signed number in two's complement
abbrev pub offset_of : ℕ → Offset
offset_of n = if nat_lt n (2 ^ 63) then Later n else Earlier (2 ^ 64 - n)

-- nanoseconds, moved by an offset
abbrev pub moved : Offset → ℕ → Option ℕ
moved (Later seconds) time = of_64_bits (time + seconds * 1000000000)
moved (Earlier seconds) time =
    if nat_le (seconds * 1000000000) time then of_64_bits (time - seconds * 1000000000) else None

-- the nanoseconds since 1970 at so many units of an interface's clock
unfoldable pub time_of : Interface → ℕ → Option ℕ
time_of i units = if i.per_second == 0 then None else moved i.offset (units * 1000000000 / i.per_second)

-- the interface with a number
abbrev pub interface_of : Interfaces → ℕ → Option Interface
interface_of is id = if nat_lt id is.count then slice_get is.items id else None

-- the interfaces and one more, of at most 64
abbrev pub added : Interfaces → Interface → Interfaces
added is i = if nat_lt is.count 64 then record { items = slice_set is.items is.count i; count = is.count + 1 } else is
