-- What is left of the digits, read from here, is the whole.
use Rattle.std.proofs.Common.{◌≡◌, ◌+◌, ◌/◌, ◌≤◌, length}
use Rattle.script.specs.Bytes.{bytes_at}
use Rattle.script.proofs.bytes.read_bytes.Given as goal

abbrev pub invariant-loop-pair : goal.invariant-loop-pair
invariant-loop-pair l =
    (bytes_at l.pair-iterator.rest.now l.bytes.items ≡ bytes_at l.digits l.initial.bytes.items) × (length l.bytes.items + length l.pair-iterator.rest.now / 2 ≤ length l.initial.bytes.items + length l.digits / 2) × (l.pair-iterator.size ≡ 2)
