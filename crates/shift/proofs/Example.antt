-- The page of three entries, 0x8245, 0x8244 and 0x8245, and of other short inputs, computed from the
-- definition.
-- Assumes nothing.
use Rattle.std.proofs.Common.{◌≡◌, ℕ, List, [], ◌∷◌, ◌++◌, replicate, refl}
use Rattle.types.specs.Kinds.{kind_behind}
use Rattle.entries.specs.Entry.{number_in, entry_in}
use Rattle.entries.specs.Ring.{listed}
use Rattle.entries.specs.History.{entries_in}
use Rattle.std.specs.Fmt.{digits}
use Rattle.std.specs.Prelude.{codes}
use Rattle.shift.specs.Report.{codes_in, named_codes, entries_line, code_line, other_line, total_line, code_lines, page, report}

-- an entry with the code 0x82.., and zeros
abbrev entry_of : ℕ → List ℕ
entry_of low = 0 ∷ 0 ∷ low ∷ 0x82 ∷ replicate 16 0

pub three_entries :
    report (entry_of 0x45 ++ (entry_of 0x44 ++ entry_of 0x45)) ≡
    codes "(report (entries 3))\n(code 0x8244 (count 1))\n(code 0x8245 (count 2))\n(total (count 3) (left 0))\n"
unfolding report page code_lines entries_line code_line other_line total_line digits codes_in named_codes kind_behind entries_in listed entry_in number_in
three_entries = refl

-- no input, and 19 bytes
pub no_input : report [] ≡ codes "(report (entries 0))\n(total (count 0) (left 0))\n"
unfolding report page code_lines entries_line code_line other_line total_line digits codes_in named_codes kind_behind entries_in listed entry_in number_in
no_input = refl

pub nineteen : report (replicate 19 0) ≡ codes "(report (entries 0))\n(total (count 0) (left 19))\n"
unfolding report page code_lines entries_line code_line other_line total_line digits codes_in named_codes kind_behind entries_in listed entry_in number_in
nineteen = refl

-- 0x8000, and a code of no kind
pub two_others : report (0 ∷ 0 ∷ 0 ∷ 0x80 ∷ replicate 36 0) ≡ codes "(report (entries 2))\n(other (count 2))\n(total (count 2) (left 0))\n"
unfolding report page code_lines entries_line code_line other_line total_line digits codes_in named_codes kind_behind entries_in listed entry_in number_in
two_others = refl
