-- A choice by a test, tests of a list, and the reading of a number by a list of the things that
-- have numbers.
-- Assumes nothing.
use Rattle.std.specs.Prelude.{ℕ, List, [], ◌∷◌, Bool, true, false, eqb}

-- the first where the test holds, else the second
abbrev pub pick : {A : Type 0} → Bool → A → A → A
pick true a b = a
pick false a b = b

-- both tests hold
abbrev pub both : Bool → Bool → Bool
both a b = pick a b false

-- one of the two tests holds, or both
abbrev pub either : Bool → Bool → Bool
either a b = pick a true b

-- every item of the list passes the test. It is defined by `both`, as the tests here are; std's is
-- equal to it, but not by computation
abbrev pub all_of : {A : Type 0} → (A → Bool) → List A → Bool
all_of p [] = true
all_of p (x ∷ xs) = both (p x) (all_of p xs)

-- some item of the list passes the test; defined by `either`, as `all_of` is by `both`
abbrev pub any_of : {A : Type 0} → (A → Bool) → List A → Bool
any_of p [] = false
any_of p (x ∷ xs) = either (p x) (any_of p xs)

-- the answer for the first thing of the list that has the number n; `none` where no thing has it
abbrev pub read_by : {A R : Type 0} → (A → ℕ) → (A → R) → R → List A → ℕ → R
read_by number taken none [] n = none
read_by number taken none (x ∷ xs) n = pick (eqb n (number x)) (taken x) (read_by number taken none xs n)
