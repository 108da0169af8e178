-- The first so many places of two runs, of which the first are so many.
-- Assumes nothing.
use Rattle.std.proofs.Common.{◌≡◌, ◌∙◌, ◌+◌, ◌++◌, ℕ, min, List, length, take, take_at, ap, sym, refl}
use Rattle.std.proofs.lemmas.List.{take_min, length-append}

pub front : {A : Type 0} (n : ℕ) (xs ys : List A) → length xs ≡ min n (length xs + length ys) → take n (xs ++ ys) ≡ xs
front n xs ys h =
    sym (take_min n (xs ++ ys)) ∙ ap (λ (k : ℕ). take k (xs ++ ys)) (ap (min n) (length-append xs ys) ∙ sym h) ∙ take_at xs ys (length xs) refl
