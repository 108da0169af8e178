-- Sums of counts.
-- Assumes nothing.
use Rattle.std.specs.Prelude.{ℕ, ◌+◌, Bool, true, List, [], ◌∷◌, nat_lt}
use Rattle.types.specs.Pick.{both}

-- the sum of the counts f of some codes
abbrev pub sum_of : (ℕ → ℕ) → List ℕ → ℕ
sum_of f [] = 0
sum_of f (c ∷ cs) = f c + sum_of f cs

-- each of some numbers is below the next
abbrev pub ascends : List ℕ → Bool
ascends [] = true
ascends (c ∷ []) = true
ascends (c ∷ d ∷ ds) = both (nat_lt c d) (ascends (d ∷ ds))
