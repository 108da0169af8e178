-- The bytes of a line, as `(at 0x19 (enabled 0) (ready 1) (steps 0))`.
-- Assumes nothing.
use Rattle.std.specs.Prelude.{ℕ, ◌%◌, Bool, true, List, [], ◌∷◌, ◌++◌, ltb, codes}
use Rattle.types.specs.Pick.{both}
use Rattle.types.specs.States.{state_number}
use Rattle.forms.specs.Hex.{glyph, hex_form}
use Rattle.head.specs.Words.{one}
use Rattle.reach.specs.declared.Line.{Line}
use Rattle.reach.specs.Positions.{named, steps_to}

-- a flag as a digit: 1 for yes, 0 for no
abbrev pub flag : Bool → List ℕ
flag b = glyph (one b) ∷ []

-- the last decimal digit of a number, which is all of it below 10
abbrev pub digit : ℕ → List ℕ
digit n = glyph (n % 10) ∷ []

-- a line as it is printed
unfoldable pub line_form : Line → List ℕ
line_form l =
    codes "(at " ++ hex_form 2 (state_number (named l).state) ++ codes " (enabled " ++ flag (named l).enabled ++ codes ") (ready " ++ flag (named l).ready ++ codes ") (steps " ++ digit (steps_to l) ++ codes "))\n"

-- each line has fewer than 10 steps
abbrev pub one_digit : List Line → Bool
one_digit [] = true
one_digit (l ∷ ls) = both (ltb (steps_to l) 10) (one_digit ls)
