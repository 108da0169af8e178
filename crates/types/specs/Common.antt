-- NetTime: seconds and nanoseconds, each in 32 bits.
-- Assumes nothing.
use Rattle.std.specs.Prelude.{ℕ, ◌+◌, ◌*◌, ◌-◌, ◌/◌, ◌%◌, ltb, ℤ, pos, ◌-ℤ◌}
use Rattle.types.specs.Pick.{pick}
use Rattle.types.specs.declared.common.NetTime.{NetTime}

-- the time of s seconds and n nanoseconds
abbrev pub net_time : ℕ → ℕ → NetTime
net_time s n = record { seconds = s; nanoseconds = n }

-- the time of t µs, its seconds modulo 2^32
abbrev pub from_micros : ℕ → NetTime
from_micros t = net_time (t / 1000000 % 4294967296) (t % 1000000 * 1000)

-- a time as one number of nanoseconds
abbrev pub as_nanos : NetTime → ℕ
as_nanos t = t.seconds * 1000000000 + t.nanoseconds

-- the time later by d nanoseconds, its seconds modulo 2^32: whole seconds of d are added to the
-- seconds, the rest to the nanoseconds, and one second is carried where these come to a second or
-- more
unfoldable pub add_nanos : NetTime → ℕ → NetTime
add_nanos t d =
    pick (ltb (t.nanoseconds + d % 1000000000) 1000000000)
    (net_time ((t.seconds + d / 1000000000) % 4294967296) (t.nanoseconds + d % 1000000000))
    (net_time ((t.seconds + d / 1000000000 + 1) % 4294967296) (t.nanoseconds + d % 1000000000 - 1000000000))

-- the first time less the second, in nanoseconds
abbrev pub sub_net_time : NetTime → NetTime → ℤ
sub_net_time s t = pos (as_nanos s) -ℤ pos (as_nanos t)
