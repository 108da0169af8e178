-- Bytes that stand in a line as two hexadecimal digits each.
-- Assumes nothing.
use Rattle.std.specs.Prelude.{ℕ, zero, suc, ◌+◌, ◌*◌, ◌/◌, ◌%◌, ◌&&◌, ◌==◌, nat_lt, nat_le, if◌then◌else◌, Option, Some, None, option_map, option_and_then, List, [], ◌∷◌, ◌++◌, length, take, drop, codes}
use Rattle.std.specs.Char.{digit_value}
use Rattle.std.specs.Str.{bytes_eq}
use Rattle.script.specs.Reads.{Reads, ◌>>=◌, only, word, next_is, behind_next}

-- the value of a hexadecimal digit, of either case; none of another character
abbrev pub digit_of : ℕ → Option ℕ
digit_of c = if nat_lt (digit_value c) 16 then Some (digit_value c) else None

-- the byte of two hexadecimal digits, the high one first
abbrev pub byte_of : ℕ → ℕ → Option ℕ
byte_of high low = option_and_then (λ h. option_map (λ l. 16 * h + l) (digit_of low)) (digit_of high)

-- the bytes bs with those of all digits behind them; none where a character is no digit or the last
-- digit has no second
unfoldable pub bytes_at : List ℕ → List ℕ → Option (List ℕ)
bytes_at [] bs = Some bs
bytes_at (c ∷ []) bs = None
bytes_at (high ∷ low ∷ digits) bs = option_and_then (λ b. bytes_at digits (bs ++ (b ∷ []))) (byte_of high low)

-- the bytes bs with those of the digits behind a space
abbrev pub word_at : List ℕ → List ℕ → Option (List ℕ)
word_at [] bs = None
word_at (c ∷ digits) bs = if c == 32 then bytes_at digits bs else None

-- the bytes bs with those of the first so many entries of a line, of 41 characters each: a space,
-- and 40 digits
unfoldable pub entries_at : ℕ → List ℕ → List ℕ → Option (List ℕ)
entries_at zero line bs = Some bs
entries_at (suc k) line bs = option_and_then (entries_at k (drop 41 line)) (word_at (take 41 line) bs)

-- what was read, where all could be
abbrev pub filled : Option (Unit {0}) → List ℕ → Option (List ℕ)
filled None bs = None
filled (Some u) bs = Some bs

-- the bytes of a history's entries, up to the line's end: at most 300
unfoldable pub entries_of : List ℕ → Option (List ℕ)
entries_of line =
    if length line % 41 == 0 && nat_le (length line / 41) 300 then entries_at (length line / 41) line [] else None

-- a history that a load may name, or none where it does not
unfoldable pub history : Reads (Option (List ℕ))
history rest =
    if next_is (codes "history") rest
    then option_map (λ bs. (Some bs, [])) (entries_of (behind_next (codes "history") rest))
    else Some (None, rest)

-- bytes by their digits, from 1 up to so many; or no bytes, by `-`
unfoldable pub bytes_of : ℕ → List ℕ → Option (List ℕ)
bytes_of most digits =
    if bytes_eq digits (codes "-") then Some []
    else (if nat_lt 0 (length digits) && nat_le (length digits / 2) most then bytes_at digits [] else None)

-- a word with up to so many bytes
abbrev pub up_to_bytes : ℕ → Reads (List ℕ)
up_to_bytes most = word >>= λ digits. only (bytes_of most digits)

-- a word with the bytes of the desk
abbrev pub desk_bytes : Reads (List ℕ)
desk_bytes = up_to_bytes 100

-- a word with the bytes of a frame
abbrev pub frame_bytes : Reads (List ℕ)
frame_bytes = up_to_bytes 1518

-- the 20 bytes of an entry, of their 40 digits
unfoldable pub entry_of : List ℕ → Option (List ℕ)
entry_of digits = if length digits == 40 then bytes_at digits [] else None

-- a word with the 20 bytes of an entry
abbrev pub entry_bytes : Reads (List ℕ)
entry_bytes = word >>= λ digits. only (entry_of digits)
