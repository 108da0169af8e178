-- The classic pcap.
-- Assumes nothing.
use Rattle.std.specs.Prelude.{ℕ, ◌+◌, ◌-◌, ◌*◌, ◌%◌, List, length, nat_lt, ◌==◌, if◌then◌else◌}
use Rattle.std.specs.declared.option.Option.{Option}
use Rattle.std.specs.declared.option.Option.TheVariants.{Some, None}
use Rattle.std.specs.declared.result.Result.{Result}
use Rattle.std.specs.declared.result.Result.TheVariants.{Ok, Err}
use Rattle.pcap.specs.declared.order.Order.TheVariants.{LowestFirst, HighestFirst}
use Rattle.pcap.specs.declared.fault.Flaw as flaws
use Rattle.pcap.specs.declared.fault.Halt.{Halt}
use Rattle.pcap.specs.declared.fault.Halt.TheVariants.{More, Flaw}
use Rattle.pcap.specs.declared.fault.Wrong.TheVariants.{UnknownVersion, LinkTypeNotEthernet, TooLong}
use Rattle.pcap.specs.declared.classic.Fraction.{Fraction}
use Rattle.pcap.specs.declared.classic.Fraction.TheVariants.{Microseconds, Nanoseconds}
use Rattle.pcap.specs.declared.classic.Classic.{Classic}
use Rattle.pcap.specs.declared.records.Data.{Data}
use Rattle.pcap.specs.Bind.{flaw}
use Rattle.pcap.specs.Order.{two_at, four_at}

-- the magic number, read lowest byte first: 0xA1B2C3D4, or 0xA1B23C4D with nanoseconds, in the
-- order of the machine that wrote the recording
abbrev pub classic_of : ℕ → Option Classic
classic_of n =
    if n == 0xA1B2C3D4 then Some (record { order = LowestFirst; fraction = Microseconds })
    else if n == 0xA1B23C4D then Some (record { order = LowestFirst; fraction = Nanoseconds })
    else if n == 0xD4C3B2A1 then Some (record { order = HighestFirst; fraction = Microseconds })
    else if n == 0x4D3CB2A1 then Some (record { order = HighestFirst; fraction = Nanoseconds })
    else None

-- the header: the magic number, the major version in two bytes, 2, and in the lowest two of the
-- last four the link type, 1 for Ethernet
unfoldable pub read_header : Classic → List ℕ → Result Classic flaws.Flaw
read_header c xs =
    if two_at c.order xs 4 == 2 then
    (if four_at c.order xs 20 % 65536 == 1 then Ok c else Err (flaw 20 (LinkTypeNotEthernet (four_at c.order xs 20 % 65536))))
    else Err (flaw 4 (UnknownVersion (two_at c.order xs 4)))

-- the length of a record: 16 bytes of numbers, the third of which is the length of the packet
unfoldable pub record_size : Classic → List ℕ → Result ℕ Halt
record_size c xs =
    if nat_lt (length xs) 16 then Err (More (16 - length xs))
    else if nat_lt 1048560 (four_at c.order xs 8) then Err (Flaw (flaw 8 (TooLong (four_at c.order xs 8))))
    else Ok (16 + four_at c.order xs 8)

-- a fraction of a second, in nanoseconds
abbrev pub nanoseconds : Fraction → ℕ → ℕ
nanoseconds Microseconds n = n * 1000
nanoseconds Nanoseconds n = n

-- a record: seconds since 1970, the fraction, the length of the packet, its length on the line, and
-- the packet
unfoldable pub read_packet : Classic → List ℕ → Data
read_packet c xs =
    record {
      time = Some (four_at c.order xs 0 * 1000000000 + nanoseconds c.fraction (four_at c.order xs 4));
      start = 16;
      captured = length xs - 16;
      wire = four_at c.order xs 12;
      interface = 0;
    }
