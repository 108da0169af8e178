-- Where a byte stands.
-- Assumes nothing.
use Rattle.std.specs.Prelude.{ℕ, List, Option, ◌==◌}
use Rattle.std.specs.List.{position}

-- the first place of x in a list, counted from 0
abbrev pub index_of : ℕ → List ℕ → Option ℕ
index_of x xs = position (λ y. y == x) xs
