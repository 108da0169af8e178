-- What is read at the front of a recording.
-- Assumes nothing.
use Rattle.std.specs.Prelude.{ℕ, ◌+◌, ◌≤◌, ⊤}
use Rattle.pcap.specs.declared.fault.Halt.{Halt}
use Rattle.pcap.specs.declared.fault.Halt.TheVariants.{More, Flaw}
use Rattle.pcap.specs.declared.records.Record.{Record}
use Rattle.pcap.specs.declared.records.Record.TheVariants.{Packet}

-- why nothing is read of so many bytes at the front: at least a byte more is needed, and at most as
-- many as make the longest record
abbrev pub Asks : Halt → ℕ → Type 0
Asks (More n) k = (1 ≤ n) × (n + k ≤ 1048576)
Asks (Flaw f) k = ⊤

-- a packet lies within a record of n bytes
abbrev pub Within : Record → ℕ → Type 0
Within (Packet d) n = d.start + d.captured ≤ n
Within other n = ⊤
