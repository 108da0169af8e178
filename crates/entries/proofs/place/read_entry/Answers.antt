-- `entries::place::read_entry` meets its contract: each number is read at its place behind the entry's.
-- Assumes nothing.
use Prim.Native.Nat.{ℕ, ◌+◌}
use mathlib.Core.Path.{◌≡◌}
use mathlib.Core.List.{List}
use lib.ListN.{drop}
use lib.Seq.{drop-drop}
use Rattle.entries.specs.Entry.{entry_in}
use Rattle.entries.proofs.Numbers.{number_2, number_4, number_8}
use Rattle.entries.proofs.place.read_entry.Goals as goal

pub returns : goal.returns
unfolding entry_in
returns c =
    let a = c.args in
    let d : (k : ℕ) → drop k (drop a.at a.s.now) ≡ drop (a.at + k) a.s.now =
    λ k. drop-drop k a.at a.s.now in
    let n : (k : ℕ) → List ℕ = λ k. drop (a.at + k) a.s.now in
    rw (d 2, d 4, d 8, d 12, c.from-entry_type.ensures, c.from_le_bytes.ensures, c.get_bytes.ensures, number_2 (drop a.at a.s.now))
    (rw (c.from_le_bytes-error_code.ensures, c.get_bytes-2.ensures, number_2 (n 2))
    (rw (c.from_le_bytes-seconds.ensures, c.get_bytes-3.ensures, number_4 (n 4))
    (rw (c.from_le_bytes-nanoseconds.ensures, c.get_bytes-4.ensures, number_4 (n 8))
    (rw (c.from_le_bytes-additional_information.ensures, c.get_bytes-5.ensures, number_8 (n 12))))))
