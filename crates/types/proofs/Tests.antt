-- What a test that holds says of its parts, and a test beside one that is known.
-- Assumes nothing.
use mathlib.Core.Path.{◌≡◌, refl}
use mathlib.Core.Bool.{Bool, true, false}
use mathlib.Core.Logic.{◌⊎◌, inl, inr}
use Rattle.types.specs.Pick.{both, either}

pub both_first : (a b : Bool) → both a b ≡ true → a ≡ true
both_first true b h = refl
both_first false b h = h

pub both_second : (a b : Bool) → both a b ≡ true → b ≡ true
both_second true b h = h
both_second false true h = refl
both_second false false h = h

pub both_false : (b : Bool) → both b false ≡ false
both_false true = refl
both_false false = refl

pub both_true : (b : Bool) → both b true ≡ b
both_true true = refl
both_true false = refl

pub either_cases : (a b : Bool) → either a b ≡ true → (a ≡ true) ⊎ (b ≡ true)
either_cases true b h = inl refl
either_cases false b h = inr h
