-- The words of a line, each behind one space, and the numbers that they are.
-- Assumes nothing.
use Rattle.std.specs.Prelude.{ℕ, suc, ◌+◌, ◌*◌, Bool, false, ◌&&◌, ◌==◌, nat_lt, nat_le, if◌then◌else◌, Option, Some, None, option_and_then, option_map, List, [], ◌∷◌, length, get_or, take, drop, codes}
use Rattle.std.specs.Option.{option_map_or}
use Rattle.std.specs.Char.{digit_value}
use Rattle.std.specs.Str.{bytes_eq}

-- What reads a value off the words that are left: the value, and what is left behind it; nothing
-- where they do not begin with one.
abbrev pub Reads : Type 0 → Type 0
Reads A = List ℕ → Option (A × List ℕ)

-- the value, where there is one, with what is left behind it
abbrev pub gives : {S A : Type 0} → Option A → S → Option (A × S)
gives None rest = None
gives (Some a) rest = Some (a, rest)

-- a value that needs no word
abbrev pub just : {S A : Type 0} → A → S → Option (A × S)
just a rest = Some (a, rest)

-- a value that needs no word, or none
abbrev pub only : {A : Type 0} → Option A → Reads A
only o rest = option_map (λ a. (a, rest)) o

-- one value behind another: the first by p, the second by what f makes of the first
infixl 10 ◌>>=◌
abbrev pub ◌>>=◌ : {S A B : Type 0} → (S → Option (A × S)) → (A → S → Option (B × S)) → S → Option (B × S)
◌>>=◌ p f = λ rest. option_and_then (λ x. f x.0 x.1) (p rest)

-- how many characters stand before the first space
unfoldable pub word_length : List ℕ → ℕ
word_length [] = 0
word_length (c ∷ cs) = if c == 32 then 0 else suc (word_length cs)

-- the word that a line begins with
abbrev pub first_word : List ℕ → List ℕ
first_word line = take (word_length line) line

-- what stands behind the word that a line begins with
abbrev pub behind_word : List ℕ → List ℕ
behind_word line = drop (word_length line) line

-- the next word, behind its space
abbrev pub word : Reads (List ℕ)
word [] = None
word (c ∷ line) = if c == 32 then Some (first_word line, behind_word line) else None

-- whether the next word is this one
abbrev pub next_is : List ℕ → List ℕ → Bool
next_is w rest = option_map_or (λ x. bytes_eq x.0 w) (word rest) false

-- what is left behind the next word, where it is this one; else all
abbrev pub behind_next : List ℕ → List ℕ → List ℕ
behind_next w rest = option_map_or (λ x. if bytes_eq x.0 w then x.1 else rest) (word rest) rest

-- a value that stands behind a name, or is left out with it
abbrev pub optional : {A : Type 0} → List ℕ → Reads A → Reads (Option A)
optional w p rest = if next_is w rest then (p >>= λ a. just (Some a)) (behind_next w rest) else Some (None, rest)

-- no word is left
abbrev pub ends : List ℕ → Option (Unit {0})
ends [] = Some tt
ends (c ∷ cs) = None

-- the number with a digit of a base behind it, where it fits 64 bits: `0` to `9`, `A` to `F`, `a`
-- to `f`
abbrev pub digit_behind : ℕ → ℕ → ℕ → Option ℕ
digit_behind base n c =
    if nat_lt (digit_value c) base
    then (if nat_le (n * base + digit_value c) 18446744073709551615 then Some (n * base + digit_value c) else None)
    else None

-- the number n with digits of a base behind it, where it fits 64 bits
unfoldable pub value_from : ℕ → ℕ → List ℕ → Option ℕ
value_from base n [] = Some n
value_from base n (c ∷ cs) = option_and_then (λ m. value_from base m cs) (digit_behind base n c)

-- the number of digits of a base, of which there has to be one
abbrev pub value_of : ℕ → List ℕ → Option ℕ
value_of base digits = if nat_lt 0 (length digits) then value_from base 0 digits else None

-- a word begins with `0x`
abbrev pub is_hex : List ℕ → Bool
is_hex w = nat_lt 1 (length w) && (get_or w 0 0 == 48 && get_or w 1 0 == 120)

-- the number that a word is: hexadecimal behind `0x`, or decimal
unfoldable pub number_of : List ℕ → Option ℕ
number_of w = if is_hex w then value_of 16 (drop 2 w) else value_of 10 w

-- the number n, where it is at most so much
abbrev pub at_most : ℕ → ℕ → Option ℕ
at_most most n = if nat_le n most then Some n else None

-- the number that a word is, of at most so much
unfoldable pub number_within : ℕ → List ℕ → Option ℕ
number_within most w = option_and_then (at_most most) (number_of w)

-- a word with a number of at most so much
unfoldable pub up_to : ℕ → Reads ℕ
up_to most = word >>= λ w. only (number_within most w)

-- a number of 8 bits
abbrev pub bits8 : Reads ℕ
bits8 = up_to 255

-- a number of 16 bits
abbrev pub bits16 : Reads ℕ
bits16 = up_to 65535

-- a number of 32 bits
abbrev pub bits32 : Reads ℕ
bits32 = up_to 4294967295

-- a number of 64 bits
abbrev pub bits64 : Reads ℕ
bits64 = up_to 18446744073709551615

-- a mark, 0 or 1
abbrev pub flag : Reads Bool
flag = up_to 1 >>= λ n. just (n == 1)

-- a value of 32 bits, or `-`, a missing one
unfoldable pub object : Reads (Option ℕ)
object rest = if next_is (codes "-") rest then Some (None, behind_next (codes "-") rest) else (bits32 >>= λ n. just (Some n)) rest
