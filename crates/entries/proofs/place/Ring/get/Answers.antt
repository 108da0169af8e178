-- `entries::place::Ring::get` meets its contract: the test says whether the list has an entry at the index.
-- Assumes nothing.
use Prim.Native.Nat.{◌+◌, ◌%◌, min}
use mathlib.Core.Path.{sym}
use native.Mathlib.Omega.{arith}
use Rattle.entries.specs.Ring.{entry_at}
use Rattle.entries.proofs.Rings.{nth_in, nth_out}
use Rattle.entries.proofs.place.Ring.get.Goals as goal

pub returns-then-index-len : goal.returns-then-index-len
returns-then-index-len g c =
    let a = c.args in
    rw (c.read_entry.ensures, c.place.ensures)
    (sym (nth_in (λ j. entry_at a.memory.now ((a.self.first + j) % g.row.PLACES)) (min a.self.count g.row.PLACES) a.index (omega arith)))

pub returns-else-index-len : goal.returns-else-index-len
returns-else-index-len g c =
    let a = c.args in
    sym (nth_out (λ j. entry_at a.memory.now ((a.self.first + j) % g.row.PLACES)) (min a.self.count g.row.PLACES) a.index (omega arith))
