-- Texts made of parts.
-- Assumes nothing.
use Rattle.std.specs.Prelude.{ℕ, Bool, List, [], ◌∷◌, ◌++◌}
use Rattle.types.specs.Pick.{pick}

-- a text of parts, one behind another
abbrev pub joined : List (List ℕ) → List ℕ
joined [] = []
joined (part ∷ []) = part
joined (part ∷ next ∷ parts) = part ++ joined (next ∷ parts)

-- a text where a flag is on
abbrev pub text_if : Bool → List ℕ → List ℕ
text_if b text = pick b text []
