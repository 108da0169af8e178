-- What is left of the text, read from here, is the whole.
use Rattle.std.proofs.Common.{◌≡◌, ◌+◌, ◌*◌, ◌/◌, ◌≤◌, length}
use Rattle.script.specs.Bytes.{entries_at}
use Rattle.script.proofs.bytes.read_entries.Given as goal

abbrev pub invariant-loop-word : goal.invariant-loop-word
invariant-loop-word l =
    (entries_at (length l.word-iterator.rest.now / 41) l.word-iterator.rest.now l.bytes.items ≡ entries_at (length l.text / 41) l.text l.initial.bytes.items) × (length l.bytes.items + length l.word-iterator.rest.now / 41 * 20 ≤ 6000) × (l.word-iterator.size ≡ 41)
