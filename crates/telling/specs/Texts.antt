-- What is printed of bytes, entries and marks.
-- Assumes nothing.
use Rattle.std.specs.Prelude.{ℕ, Bool, true, false, List, [], ◌∷◌, ◌++◌, codes}
use Rattle.std.specs.List.{flat_map}
use Rattle.entries.specs.Entry.{entry_bytes}
use Rattle.entries.specs.declared.status_response.ErrorEntry.{ErrorEntry}
use Rattle.forms.specs.Hex.{hex_digits}

-- a text of parts, one behind another
abbrev pub joined : List (List ℕ) → List ℕ
joined [] = []
joined (part ∷ []) = part
joined (part ∷ next ∷ parts) = part ++ joined (next ∷ parts)

-- a flag: 1 for yes, 0 for no
abbrev pub flag_text : Bool → List ℕ
flag_text true = codes "1"
flag_text false = codes "0"

-- bytes as two hexadecimal digits each, in capitals
abbrev pub digits_text : List ℕ → List ℕ
digits_text bs = flat_map (hex_digits 2) bs

-- bytes behind a space, as two hexadecimal digits each
abbrev pub bytes_text : List ℕ → List ℕ
bytes_text bs = joined (codes " " ∷ digits_text bs ∷ [])

-- an entry as its 20 bytes, behind a space
abbrev pub entry_text : ErrorEntry → List ℕ
entry_text e = bytes_text (entry_bytes e)

-- some entries, one behind another
abbrev pub entries_text : List ErrorEntry → List ℕ
entries_text es = flat_map entry_text es
