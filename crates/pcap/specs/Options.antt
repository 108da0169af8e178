-- The options of an interface's block.
-- Assumes nothing.
use Rattle.std.specs.Prelude.{ℕ, zero, suc, ◌+◌, ◌-◌, ◌*◌, ◌/◌, List, length, take, drop, slice_index, nat_lt, ◌==◌, if◌then◌else◌}
use Rattle.std.specs.declared.option.Option.{Option}
use Rattle.std.specs.declared.option.Option.TheVariants.{Some, None}
use Rattle.std.specs.declared.result.Result.{Result}
use Rattle.std.specs.declared.result.Result.TheVariants.{Ok, Err}
use Rattle.pcap.specs.declared.order.Order.{Order}
use Rattle.pcap.specs.declared.fault.Flaw.{Flaw}
use Rattle.pcap.specs.declared.fault.Wrong.TheVariants.{LengthLies, UnknownResolution}
use Rattle.pcap.specs.declared.interface.Interface.{Interface}
use Rattle.pcap.specs.Bind.{◌>>=◌, flaw}
use Rattle.pcap.specs.Order.{two_at, eight_at}
use Rattle.pcap.specs.Interface.{per_second_of, offset_of}

-- an interface with a resolution, if it is known
abbrev pub resolved : ℕ → Interface → ℕ → Option ℕ → Result Interface Flaw
resolved at i byte (Some n) = Ok (record i { per_second = n })
resolved at i byte None = Err (flaw at (UnknownResolution byte))

-- an interface with an option: 9 is if_tsresol, of one byte, and 14 if_tsoffset, of eight; others
-- change nothing
unfoldable pub with_option : Order → ℕ → Interface → ℕ → List ℕ → Result Interface Flaw
with_option o at i code value =
    if code == 9 then
    (if length value == 1 then resolved at i (slice_index value 0) (per_second_of (slice_index value 0))
    else Err (flaw at (LengthLies (length value))))
    else if code == 14 then
    (if length value == 8 then Ok (record i { offset = offset_of (eight_at o value 0) })
    else Err (flaw at (LengthLies (length value))))
    else Ok i

-- a length filled up to a multiple of four
abbrev pub filled : ℕ → ℕ
filled n = (n + 3) / 4 * 4

-- the option at the front: a code and the length of the value, each of two bytes, and the value,
-- filled up; none where the options end, by a code of 0 or with their block. It answers the
-- interface with the option, and the option's length
unfoldable pub option_at : Order → ℕ → Interface → List ℕ → Result (Option (Interface × ℕ)) Flaw
option_at o end i xs =
    if length xs == 0 then Ok None
    else if nat_lt (length xs) 4 then Err (flaw (end - length xs) (LengthLies (length xs)))
    else if two_at o xs 0 == 0 then Ok None
    else if nat_lt (length xs) (4 + filled (two_at o xs 2)) then Err (flaw (end - length xs) (LengthLies (two_at o xs 2)))
    else with_option o (end - length xs) i (two_at o xs 0) (take (two_at o xs 2) (drop 4 xs)) >>= λ j.
    Ok (Some (j, 4 + filled (two_at o xs 2)))

-- an interface with options, at most so many
abbrev pub options_in : ℕ → Order → ℕ → Interface → List ℕ → Result Interface Flaw
options_in zero o end i xs = Ok i
options_in (suc n) o end i xs =
    option_at o end i xs >>= λ found. elim found [ None ↦ Ok i | Some x ↦ options_in n o end x.0 (drop x.1 xs) ]

-- an interface with all its options: each takes four bytes at least
unfoldable pub with_options : Order → ℕ → Interface → List ℕ → Result Interface Flaw
with_options o end i xs = options_in (length xs) o end i xs
