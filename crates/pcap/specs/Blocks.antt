-- The blocks of a pcapng.
-- Assumes nothing.
use Rattle.std.specs.Prelude.{ℕ, ◌+◌, ◌-◌, ◌*◌, ◌%◌, min, List, length, take, drop, nat_lt, nat_le, ◌==◌, if◌then◌else◌}
use Rattle.std.specs.declared.option.Option.{Option}
use Rattle.std.specs.declared.option.Option.TheVariants.{Some, None}
use Rattle.std.specs.declared.result.Result.{Result}
use Rattle.std.specs.declared.result.Result.TheVariants.{Ok, Err}
use Rattle.pcap.specs.declared.order.Order.{Order}
use Rattle.pcap.specs.declared.order.Order.TheVariants.{LowestFirst, HighestFirst}
use Rattle.pcap.specs.declared.fault.Flaw.{Flaw}
use Rattle.pcap.specs.declared.fault.Halt.{Halt}
use Rattle.pcap.specs.declared.fault.Halt.TheVariants.{More}
use Rattle.pcap.specs.declared.fault.Wrong.TheVariants.{NotARecording, UnknownVersion, LinkTypeNotEthernet, LengthLies, TooLong, UnknownInterface, TooManyInterfaces, TimeOutOfRange}
use Rattle.pcap.specs.declared.interface.Offset.TheVariants.{Later}
use Rattle.pcap.specs.declared.interface.Interface.{Interface}
use Rattle.pcap.specs.declared.interface.Interfaces.{Interfaces}
use Rattle.pcap.specs.declared.blocks.Kind.{Kind}
use Rattle.pcap.specs.declared.blocks.Kind.TheVariants as kind
use Rattle.pcap.specs.declared.blocks.Extent.{Extent}
use Rattle.pcap.specs.declared.records.Data.{Data}
use Rattle.pcap.specs.declared.records.Record.{Record}
use Rattle.pcap.specs.declared.records.Record.TheVariants as record'
use Rattle.pcap.specs.Bind.{◌>>=◌, flaw, raised}
use Rattle.pcap.specs.Order.{two_at, four_at}
use Rattle.pcap.specs.Interface.{interface_of, time_of}
use Rattle.pcap.specs.Options.{with_options}

-- the kind of a block, by its type
abbrev pub kind_of : ℕ → Kind
kind_of n =
    if n == 0x0A0D0D0A then kind.Section
    else if n == 1 then kind.Interface
    else if n == 2 then kind.Packet
    else if n == 3 then kind.Simple
    else if n == 6 then kind.Enhanced
    else kind.Other

-- the fewest bytes that a block of a kind has: the type, the two lengths and the fixed numbers of
-- its body, each of two, four or eight bytes
abbrev pub least : Kind → ℕ
least kind.Section = 28
least kind.Interface = 20
least kind.Packet = 32
least kind.Simple = 16
least kind.Enhanced = 32
least kind.Other = 12

-- the fewest bytes that are read of it at once: of one that is passed over type and length
abbrev pub kind_least : Kind → ℕ
kind_least kind.Other = 8
kind_least k = least k

-- the order of a section, by its byte-order magic 0x1A2B3C4D, read lowest byte first
abbrev pub order_of_magic : ℕ → Option Order
order_of_magic n =
    if n == 0x1A2B3C4D then Some LowestFirst else if n == 0x4D3C2B1A then Some HighestFirst else None

-- a section's order, if it is known
abbrev pub known_order : Option Order → Result Order Flaw
known_order (Some o) = Ok o
known_order None = Err (flaw 8 NotARecording)

-- the order of the numbers of a block: that of its section, or of the section that it begins
unfoldable pub order_of_block : Order → List ℕ → Result Order Flaw
order_of_block o xs =
    if four_at LowestFirst xs 0 == 0x0A0D0D0A then known_order (order_of_magic (four_at LowestFirst xs 8)) else Ok o

-- how much is read at once of a block of a kind with a length
abbrev pub sized : Order → Kind → ℕ → Result Extent Flaw
sized o kind.Other total = Ok (record { order = o; kind = kind.Other; bytes = 8 })
sized o k total =
    if nat_lt 1048576 total then Err (flaw 4 (TooLong total)) else Ok (record { order = o; kind = k; bytes = total })

-- the same, by a length that is none where it is too small or no multiple of four
abbrev pub extent_by : Order → Kind → ℕ → Result Extent Flaw
extent_by o k total =
    if nat_lt total (least k) then Err (flaw 4 (LengthLies total))
    else if total % 4 == 0 then sized o k total
    else Err (flaw 4 (LengthLies total))

-- how much is read at once of the block at the front: its type and its length stand first
unfoldable pub extent_of : Order → List ℕ → Result Extent Flaw
extent_of o xs = order_of_block o xs >>= λ p. extent_by p (kind_of (four_at p xs 0)) (four_at p xs 4)

-- the same, if the first 12 bytes of the block are there
unfoldable pub block_extent : Order → List ℕ → Result Extent Halt
block_extent o xs = if nat_lt (length xs) 12 then Err (More (12 - length xs)) else raised (extent_of o xs)

-- an interface that is Ethernet's
abbrev pub if_ethernet : ℕ → Option Interface → Result Interface Flaw
if_ethernet id (Some i) = if i.link == 1 then Ok i else Err (flaw 8 (LinkTypeNotEthernet i.link))
if_ethernet id None = Err (flaw 8 (UnknownInterface id))

-- the interface with a number, which is Ethernet's
unfoldable pub ethernet : Interfaces → ℕ → Result Interface Flaw
ethernet is id = if_ethernet id (interface_of is id)

-- a Section Header Block: the major version in two bytes, 1; version, length and options of the
-- section are passed over
unfoldable pub read_section : Order → List ℕ → Result Order Flaw
read_section o xs = if two_at o xs 12 == 1 then Ok o else Err (flaw 12 (UnknownVersion (two_at o xs 12)))

-- an Interface Description Block: the link type, two bytes, the most bytes that are kept of a
-- packet, and options; without them its clock counts microseconds
unfoldable pub read_interface : Order → Interfaces → List ℕ → Result Interface Flaw
read_interface o is xs =
    if nat_le 64 is.count then Err (flaw 0 TooManyInterfaces)
    else with_options o (length xs - 4)
    (record { link = two_at o xs 8; kept = four_at o xs 12; per_second = 1000000; offset = Later 0 })
    (take (length xs - 20) (drop 16 xs))

-- a packet with a time, if that is in range
abbrev pub timed : Data → Option ℕ → Result Data Flaw
timed d (Some time) = Ok (record d { time = Some time })
timed d None = Err (flaw 12 TimeOutOfRange)

-- an Enhanced Packet Block or a Packet Block behind the number of its interface: the time in two
-- halves, the higher first, how many bytes were kept, how many were on the line, and the packet
unfoldable pub read_stamped : Order → Interfaces → ℕ → List ℕ → Result Data Flaw
read_stamped o is id xs =
    if nat_lt (length xs - 32) (four_at o xs 20) then Err (flaw 20 (LengthLies (four_at o xs 20)))
    else ethernet is id >>= λ i.
    timed (record { time = None; start = 28; captured = four_at o xs 20; wire = four_at o xs 24; interface = id })
    (time_of i (four_at o xs 12 * 4294967296 + four_at o xs 16))

-- how many bytes were kept of a packet, by its interface's limit; 0 is none
abbrev pub kept_of : ℕ → ℕ → ℕ
kept_of kept wire = if kept == 0 then wire else min wire kept

-- a Simple Packet Block: the length on the line, and the packet of the section's first interface
unfoldable pub read_simple : Order → Interfaces → List ℕ → Result Data Flaw
read_simple o is xs =
    ethernet is 0 >>= λ i.
    if nat_lt (length xs - 16) (kept_of i.kept (four_at o xs 8)) then Err (flaw 8 (LengthLies (kept_of i.kept (four_at o xs 8))))
    else Ok (record { time = None; start = 12; captured = kept_of i.kept (four_at o xs 8); wire = four_at o xs 8; interface = 0 })

-- what stands between the lengths of a block, by its kind
unfoldable pub read_body : Order → Kind → Interfaces → List ℕ → Result Record Flaw
read_body o kind.Section is xs = read_section o xs >>= λ p. Ok (record'.Section p)
read_body o kind.Interface is xs = read_interface o is xs >>= λ i. Ok (record'.Interface i)
read_body o kind.Packet is xs = read_stamped o is (two_at o xs 8) xs >>= λ d. Ok (record'.Packet d)
read_body o kind.Enhanced is xs = read_stamped o is (four_at o xs 8) xs >>= λ d. Ok (record'.Packet d)
read_body o kind.Simple is xs = read_simple o is xs >>= λ d. Ok (record'.Packet d)
read_body o kind.Other is xs = Ok (record'.Other o (four_at o xs 4))

-- a whole block, whose last four bytes are its length again
abbrev pub read_whole : Order → Kind → Interfaces → List ℕ → Result Record Flaw
read_whole o k is xs =
    if four_at o xs (length xs - 4) == four_at o xs 4 then read_body o k is xs
    else Err (flaw (length xs - 4) (LengthLies (four_at o xs (length xs - 4))))

-- a block, from as many bytes as are read at once
unfoldable pub read_block : Order → Kind → Interfaces → List ℕ → Result Record Flaw
read_block o kind.Other is xs = Ok (record'.Other o (four_at o xs 4))
read_block o k is xs = read_whole o k is xs
