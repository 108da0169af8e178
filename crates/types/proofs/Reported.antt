-- The list that a `DllErrors` is read as fixes it: no two of its values report the same errors.
-- Assumes nothing.
use mathlib.Core.Path.{◌≡◌, refl, sym, ap, ◌∙◌}
use mathlib.Core.List.{List, [], ◌∷◌}
use Rattle.types.specs.Errors.{reported}
use Rattle.types.specs.declared.frame.error.types.DllError.{DllError}
use Rattle.types.specs.declared.frame.error.types.DllErrors.{DllErrors}
use Rattle.types.specs.declared.frame.error.types.DllErrors.TheVariants.{None, One, Two}

abbrev from_list : List DllError → DllErrors
from_list [] = None
from_list (a ∷ []) = One a
from_list (a ∷ b ∷ rest) = Two a b

back : (e : DllErrors) → from_list (reported e) ≡ e
back None = refl
back (One a) = refl
back (Two a b) = refl

pub reported_fixes : (a b : DllErrors) → reported a ≡ reported b → a ≡ b
reported_fixes a b e = sym (back a) ∙ ap from_list e ∙ back b
