-- `entry_bytes::fill` meets its contract. The loop's invariant: what is left to fill gives the same as the whole.
-- Assumes nothing.
use Rattle.entry_bytes.proofs.Filling.{Left}
use Rattle.entry_bytes.proofs.fill.Given as goal

abbrev pub invariant-loop-byte : goal.invariant-loop-byte
invariant-loop-byte l = Left l.initial.pattern l.initial.generator.x l.pattern l.generator.x l.byte-index
