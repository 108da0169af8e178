-- Shift totals (RULES 11.2): the page for a run of bytes.
-- Assumes nothing.
use Rattle.std.specs.Prelude.{ℕ, ◌+◌, ◌%◌, Bool, true, false, List, [], ◌∷◌, ◌++◌, map, length, ◌==◌, nat_lt, decimal, codes}
use Rattle.types.specs.Pick.{pick}
use Rattle.types.specs.Kinds.{kind_code, error_kinds, CodeAnswer, kind_number, refused_by, kind_behind}
use Rattle.types.specs.declared.frame.error.kinds.DllErrorKind.{DllErrorKind}
use Rattle.entries.specs.Entry.{bit}
use Rattle.entries.specs.History.{entries_in}
use Rattle.entries.specs.declared.status_response.ErrorEntry.{ErrorEntry}
use Rattle.forms.specs.Hex.{hex_form}

-- the codes of the whole entries in a run of bytes, in their order
unfoldable pub codes_in : List ℕ → List ℕ
codes_in s = map (λ (e : ErrorEntry). e.error_code) (entries_in s)

-- how often a code is among some codes
abbrev pub occurrences : List ℕ → ℕ → ℕ
occurrences [] c = 0
occurrences (d ∷ ds) c = bit (c == d) + occurrences ds c

-- the answer for a code names a kind
abbrev pub names_one : CodeAnswer → Bool
names_one (kind_number k) = true
names_one (refused_by n) = false

-- a code names a single kind (RULES 6.7)
abbrev pub named : ℕ → Bool
named c = names_one (kind_behind c)

-- a code put in its place among codes that ascend
abbrev pub among_codes : ℕ → List ℕ → List ℕ
among_codes c [] = c ∷ []
among_codes c (d ∷ ds) = pick (nat_lt c d) (c ∷ d ∷ ds) (d ∷ among_codes c ds)

-- the codes that some kinds have and that name a single kind, ascending
abbrev pub named_among : List DllErrorKind → List ℕ
named_among [] = []
named_among (k ∷ ks) = pick (named (kind_code k)) (among_codes (kind_code k) (named_among ks)) (named_among ks)

-- the codes that name a single kind, ascending
unfoldable pub named_codes : List ℕ
named_codes = named_among error_kinds

-- how many of some codes name no single kind
abbrev pub others_in : List ℕ → ℕ
others_in [] = 0
others_in (c ∷ cs) = pick (named c) 0 1 + others_in cs

-- the line with the number of whole entries
unfoldable pub entries_line : ℕ → List ℕ
entries_line n = codes "(report (entries " ++ (decimal n ++ codes "))\n")

-- the line of the code c, which occurred n times
unfoldable pub code_line : ℕ → ℕ → List ℕ
code_line c n = codes "(code " ++ (hex_form 4 c ++ (codes " (count " ++ (decimal n ++ codes "))\n")))

-- the line of the codes that name no single kind, which occurred n times
unfoldable pub other_line : ℕ → List ℕ
other_line n = codes "(other (count " ++ (decimal n ++ codes "))\n")

-- the line of the total n, with l bytes left at the end
unfoldable pub total_line : ℕ → ℕ → List ℕ
total_line n l = (codes "(total (count " ++ (decimal n ++ codes ")")) ++ (codes " (left " ++ (decimal l ++ codes "))\n"))

-- a line with a count, where there is something to count
abbrev pub if_any : ℕ → List ℕ → List ℕ
if_any n line = pick (n == 0) [] line

-- the lines of the codes that occurred among some codes; f says how often each did
unfoldable pub code_lines : (ℕ → ℕ) → List ℕ → List ℕ
code_lines f [] = []
code_lines f (c ∷ cs) = if_any (f c) (code_line c (f c)) ++ code_lines f cs

-- the page: the whole entries read; each code that names a single kind and occurred, ascending,
-- with its count; where others occurred, their count; the total, and the bytes left at the end
unfoldable pub page : ℕ → (ℕ → ℕ) → ℕ → ℕ → List ℕ
page entries f others left =
    entries_line entries ++ (code_lines f named_codes ++ (if_any others (other_line others) ++ total_line entries left))

-- the page for the input s
unfoldable pub report : List ℕ → List ℕ
report s = page (length (codes_in s)) (occurrences (codes_in s)) (others_in (codes_in s)) (length s % 20)
