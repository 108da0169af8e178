-- A recording, record by record, and the packets of a whole one.
-- Assumes nothing.
use Rattle.std.specs.Prelude.{ℕ, zero, suc, ⊤, ◌≤◌, ◌+◌, ◌-◌, ◌%◌, ◌^◌, min, List, [], ◌∷◌, ◌++◌, length, take, drop, replicate, nat_lt, ◌==◌, if◌then◌else◌}
use Rattle.std.specs.declared.option.Option.{Option}
use Rattle.std.specs.declared.option.Option.TheVariants.{Some, None}
use Rattle.std.specs.declared.result.Result.{Result}
use Rattle.std.specs.declared.result.Result.TheVariants.{Ok, Err}
use Rattle.pcap.specs.declared.order.Order.{Order}
use Rattle.pcap.specs.declared.order.Order.TheVariants.{LowestFirst}
use Rattle.pcap.specs.declared.fault.Flaw as flaws
use Rattle.pcap.specs.declared.fault.Halt.{Halt}
use Rattle.pcap.specs.declared.fault.Halt.TheVariants.{More, Flaw}
use Rattle.pcap.specs.declared.fault.Wrong.TheVariants.{NotARecording, LengthLies, CutInRecord}
use Rattle.pcap.specs.declared.fault.Wrong as wrong
use Rattle.pcap.specs.declared.fault.Fault.{Fault}
use Rattle.pcap.specs.declared.interface.Offset.TheVariants.{Later}
use Rattle.pcap.specs.declared.interface.Interfaces.{Interfaces}
use Rattle.pcap.specs.declared.classic.Classic.{Classic}
use Rattle.pcap.specs.declared.records.Data.{Data}
use Rattle.pcap.specs.declared.records.Record.{Record}
use Rattle.pcap.specs.declared.records.Record.TheVariants as record'
use Rattle.pcap.specs.declared.reader.Stage.{Stage}
use Rattle.pcap.specs.declared.reader.Stage.TheVariants as stage
use Rattle.pcap.specs.declared.reader.Part.{Part}
use Rattle.pcap.specs.declared.reader.Part.TheVariants as part
use Rattle.pcap.specs.declared.reader.State.{State}
use Rattle.pcap.specs.declared.reader.Packet.{Packet}
use Rattle.pcap.specs.declared.reader.Step.{Step}
use Rattle.pcap.specs.declared.reader.Step.TheVariants as step
use Rattle.pcap.specs.declared.reader.Reader.{Reader}
use Rattle.pcap.specs.Bind.{◌>>=◌, flaw, raised}
use Rattle.pcap.specs.Order.{four_at}
use Rattle.pcap.specs.Interface.{added}
use Rattle.pcap.specs.Classic.{classic_of, record_size, read_header, read_packet}
use Rattle.pcap.specs.Blocks.{kind_least, block_extent, read_block}

-- the fewest bytes of a part
abbrev pub part_least : Part → ℕ
part_least (part.Header c) = 24
part_least (part.Record c) = 16
part_least (part.Block o k) = kind_least k
part_least (part.Trailer o total) = 4

-- a block at the front, and how many bytes are read of it at once
unfoldable pub block_part : Order → List ℕ → Result (Part × ℕ) Halt
block_part o xs = block_extent o xs >>= λ e. Ok (part.Block e.order e.kind, e.bytes)

-- the header of a pcap, if its magic number is known
abbrev pub header_part : Option Classic → Result (Part × ℕ) Halt
header_part (Some c) = Ok (part.Header c, 24)
header_part None = Err (Flaw (flaw 0 NotARecording))

-- the front of a recording: a section of a pcapng, or the header of a pcap
unfoldable pub first_part : List ℕ → Result (Part × ℕ) Halt
first_part xs =
    if nat_lt (length xs) 4 then Err (More (4 - length xs))
    else if four_at LowestFirst xs 0 == 0x0A0D0D0A then block_part LowestFirst xs
    else header_part (classic_of (four_at LowestFirst xs 0))

-- what is at the front, and how many bytes it has, by its first bytes
unfoldable pub part_of : Stage → List ℕ → Result (Part × ℕ) Halt
part_of stage.Start xs = first_part xs
part_of (stage.Records c) xs = record_size c xs >>= λ n. Ok (part.Record c, n)
part_of (stage.Blocks o) xs = block_part o xs
part_of (stage.Trailer o total) xs = Ok (part.Trailer o total, 4)

-- the length behind a block that was passed over: that before it
unfoldable pub read_trailer : Order → ℕ → List ℕ → Result Record flaws.Flaw
read_trailer o total xs =
    if four_at o xs 0 == total then Ok (record'.Trailer o) else Err (flaw 0 (LengthLies (four_at o xs 0)))

-- what is read of a part, from all its bytes
unfoldable pub read_part : Part → Interfaces → List ℕ → Result Record flaws.Flaw
read_part (part.Header c) is xs = read_header c xs >>= λ d. Ok (record'.Header d)
read_part (part.Record c) is xs = Ok (record'.Packet (read_packet c xs))
read_part (part.Block o k) is xs = read_block o k is xs
read_part (part.Trailer o total) is xs = read_trailer o total xs

-- so many bytes at the front, if they are there
abbrev pub whole : ℕ → List ℕ → Result (List ℕ) Halt
whole n xs = if nat_lt (length xs) n then Err (More (n - length xs)) else Ok (take n xs)

-- the record at the front, and how many bytes it has
unfoldable pub record_of : State → List ℕ → Result (Record × ℕ) Halt
record_of s xs =
    part_of s.stage xs >>= λ p.
    whole p.1 xs >>= λ ys.
    raised (read_part p.0 s.interfaces ys) >>= λ r.
    Ok (r, p.1)

-- what is known behind a record: what stands next, how many bytes are passed over before it, and
-- the interfaces of the section
unfoldable pub after : State → Record → State
after s (record'.Header c) = record s { stage = stage.Records c; due = 0 }
after s (record'.Section o) =
    record { stage = stage.Blocks o; due = 0; interfaces = record s.interfaces { count = 0 } }
after s (record'.Interface i) = record s { due = 0; interfaces = added s.interfaces i }
after s (record'.Packet d) = record s { due = 0 }
after s (record'.Other o total) = record s { stage = stage.Trailer o total; due = total - 12 }
after s (record'.Trailer o) = record s { stage = stage.Blocks o; due = 0 }

-- a packet as it is seen, apart from where its bytes lie
pub record Seen : Type 0 where
  pub time : Option ℕ
  pub bytes : List ℕ
  pub wire : ℕ
  pub interface : ℕ

-- a packet that is lent, as it is seen
abbrev pub seen : Packet → Seen
seen p = record { time = p.time; bytes = p.bytes.now; wire = p.length; interface = p.interface }

-- a packet within the bytes of its record
abbrev pub packet_of : Data → List ℕ → Seen
packet_of d xs = record { time = d.time; bytes = take d.captured (drop d.start xs); wire = d.wire; interface = d.interface }

-- the packet of a record, if it is one
abbrev pub packets_in : Record → List ℕ → List Seen
packets_in (record'.Packet d) xs = packet_of d xs ∷ []
packets_in other xs = []

-- so many bytes further in a recording, counted modulo 2^64
abbrev pub further : ℕ → ℕ → ℕ
further place n = (place + n) % 2 ^ 64

-- the reader behind so many of the bytes that are due
abbrev pub passed : Reader → ℕ → Reader
passed r n = record { place = further r.place n; state = record r.state { due = r.state.due - n } }

-- the reader behind a record of so many bytes, and behind those that were due before it
abbrev pub behind : Reader → Record × ℕ → Reader
behind r x = record { place = further r.place (r.state.due + x.1); state = after r.state x.0 }

-- what is read of some bytes: their packets, the reader behind the last record that is whole, and
-- the bytes that are left
pub record Read : Type 0 where
  pub packets : List Seen
  pub last : Reader
  pub left : List ℕ

-- packets, and what is read behind them
abbrev pub with_packets : List Seen → Read → Read
with_packets ps w = record w { packets = ps ++ w.packets }

-- what is read of some bytes, at most so many records; bytes that are due are passed over first
abbrev pub read_in : ℕ → Reader → List ℕ → Read
read_in zero r xs = record { packets = []; last = passed r (min r.state.due (length xs)); left = drop r.state.due xs }
read_in (suc n) r xs =
    elim (record_of r.state (drop r.state.due xs)) [
      | Err e ↦ record { packets = []; last = passed r (min r.state.due (length xs)); left = drop r.state.due xs }
      | Ok x ↦ with_packets (packets_in x.0 (take x.1 (drop r.state.due xs))) (read_in n (behind r x) (drop x.1 (drop r.state.due xs)))
    ]

-- what is read of some bytes: each record has a byte at least
unfoldable pub read_of : Reader → List ℕ → Read
read_of r xs = read_in (length xs) r xs

-- a step reads a byte at least, of so many that are there, or asks for a byte at least, and for no
-- more than make the longest record
abbrev pub Reads : ℕ → Step → Type 0
Reads k (step.More n) = (1 ≤ n) × (n + k ≤ 1048576)
Reads k (step.Passed n) = (1 ≤ n) × (n ≤ k)
Reads k (step.Packet n p) = (1 ≤ n) × (n ≤ k)
Reads k (step.Fault f) = ⊤

-- what a step answers, as it is seen
pub data Answer : Type 0 where
  more : ℕ → Answer
  passed_over : ℕ → Answer
  packet : ℕ → Seen → Answer
  fault : Fault → Answer

-- the answer of a step
abbrev pub shown : Step → Answer
shown (step.More n) = more n
shown (step.Passed n) = passed_over n
shown (step.Packet n p) = packet n (seen p)
shown (step.Fault f) = fault f

-- why no record is read
abbrev pub halted : ℕ → Halt → Answer
halted place (More n) = more n
halted place (Flaw f) = fault (record { place = further place f.at; wrong = f.wrong })

-- a record that is read, from so many bytes
abbrev pub found : Record × ℕ → List ℕ → Answer
found x xs =
    elim (x.0) [
      | record'.Packet d ↦ packet x.1 (packet_of d (take x.1 xs))
      | _ ↦ passed_over x.1
    ]

-- what a step answers where no bytes are due
abbrev pub answered : ℕ → Result (Record × ℕ) Halt → List ℕ → Answer
answered place (Ok x) xs = found x xs
answered place (Err e) xs = halted place e

-- where it leaves the reader
abbrev pub left_at : Reader → Result (Record × ℕ) Halt → Reader
left_at r (Ok x) = behind r x
left_at r (Err e) = r

-- what a step answers
unfoldable pub answer_of : Reader → List ℕ → Answer
answer_of r xs =
    if r.state.due == 0 then answered r.place (record_of r.state xs) xs
    else if length xs == 0 then more 1
    else passed_over (min (length xs) r.state.due)

-- where a step leaves the reader
unfoldable pub behind_step : Reader → List ℕ → Reader
behind_step r xs =
    if r.state.due == 0 then left_at r (record_of r.state xs)
    else if length xs == 0 then r
    else passed r (min (length xs) r.state.due)

-- the reader at the first byte of a recording
unfoldable pub at_start : Reader
at_start =
    record {
      place = 0;
      state =
          record {
            stage = stage.Start;
            due = 0;
            interfaces =
                record {
                  items = replicate 64 (record { link = 0; kept = 0; per_second = 1; offset = Later 0 });
                  count = 0;
                };
          };
    }

-- what is wrong where a recording ends with so many bytes left: nothing before a record or a block
abbrev pub cut : Stage → ℕ → Option wrong.Wrong
cut stage.Start n = if nat_lt n 4 then Some NotARecording else Some CutInRecord
cut (stage.Records c) n = if n == 0 then None else Some CutInRecord
cut (stage.Blocks o) n = if n == 0 then None else Some CutInRecord
cut (stage.Trailer o total) n = Some CutInRecord

-- what is wrong at a place
abbrev pub wrong_at : ℕ → Option wrong.Wrong → Option Fault
wrong_at place (Some w) = Some (record { place = place; wrong = w })
wrong_at place None = None

-- the fault of a recording that ends with so many bytes left
unfoldable pub end_of : Reader → ℕ → Option Fault
end_of r n = wrong_at r.place (cut r.state.stage n)

-- how many bytes a step read
abbrev pub used : Answer → ℕ
used (more n) = 0
used (passed_over n) = n
used (packet n p) = n
used (fault f) = 0

-- the packets that it gave
abbrev pub given : Answer → List Seen
given (packet n p) = p ∷ []
given other = []

-- it read nothing
abbrev pub Halts : Answer → Type 0
Halts (more n) = ⊤
Halts (fault f) = ⊤
Halts other = ⊥

-- what is read, and then what is read of what it left with more bytes behind
abbrev pub joined : Read → List ℕ → Read
joined w ys = with_packets w.packets (read_of w.last (w.left ++ ys))

-- the fault of a recording that ends behind a step
abbrev pub fault_by : Answer → Reader → ℕ → Option Fault
fault_by (fault f) r n = Some f
fault_by other r n = end_of r n

-- what is read of a whole recording
unfoldable pub recording : List ℕ → Read
recording xs = read_of at_start xs

-- the packets of a whole recording
unfoldable pub packets_of : List ℕ → List Seen
packets_of xs = (recording xs).packets

-- what is wrong with a whole recording, if anything is
unfoldable pub fault_of : List ℕ → Option Fault
fault_of xs =
    fault_by (answer_of (recording xs).last (recording xs).left) (recording xs).last (length (recording xs).left)
