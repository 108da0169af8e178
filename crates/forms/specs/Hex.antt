-- A number in hexadecimal, with capitals and a fixed number of digits.
-- Assumes nothing.
use Rattle.std.specs.Prelude.{ℕ, zero, suc, ◌+◌, ◌/◌, ◌%◌, List, [], ◌∷◌, ◌++◌, ltb}
use Rattle.types.specs.Pick.{pick}

-- the ASCII code of a digit below 16: `0` to `9`, then `A` to `F`
abbrev pub glyph : ℕ → ℕ
glyph d = pick (ltb d 10) (48 + d) (55 + d)

-- the last k digits of n, the most significant first
abbrev pub hex_digits : ℕ → ℕ → List ℕ
hex_digits zero n = []
hex_digits (suc k) n = hex_digits k (n / 16) ++ (glyph (n % 16) ∷ [])

-- `0x` and the last k digits of n
abbrev pub hex_form : ℕ → ℕ → List ℕ
hex_form k n = 48 ∷ 120 ∷ hex_digits k n
