-- An error is read by its kind: the kind is read first, and the error from it.
-- Assumes nothing.
use Rattle.std.proofs.Common.{ℕ, ◌≡◌, List, [], ◌∷◌, Bool, true, false}
use mathlib.Core.Path.{refl, sym, ap, ◌∙◌}
use lib.Dec.{eqb}
use Rattle.types.specs.Pick.{pick, read_by}
use Rattle.types.specs.Errors.{read_error}
use Rattle.types.specs.Kinds.{kind_place, error_kinds, read_kind}
use Rattle.types.specs.declared.refusals.Refusal.{Refusal}
use Rattle.types.specs.declared.refusals.Refusal.TheVariants.{UnknownNumber}
use Rattle.std.specs.declared.result.Result.{Result}
use Rattle.std.specs.declared.result.Result.TheVariants.{Ok, Err}
use Rattle.types.specs.declared.frame.error.types.DllError.{DllError}
use Rattle.types.specs.declared.frame.error.kinds.DllErrorKind.{DllErrorKind}

-- what is done with an answer is done with the answer of each thing
through : {A R S : Type 0} (number : A → ℕ) (taken : A → R) (none : R) (f : R → S) (xs : List A) (n : ℕ) → f (read_by number taken none xs n) ≡ read_by number (λ x. f (taken x)) (f none) xs n
through number taken none f [] n = refl
through number taken none f (x ∷ xs) n = by (eqb n (number x)) (through number taken none f xs n)
  where
    by : (b : Bool) → f (read_by number taken none xs n) ≡ read_by number (λ y. f (taken y)) (f none) xs n → f (pick b (taken x) (read_by number taken none xs n)) ≡ pick b (f (taken x)) (read_by number (λ y. f (taken y)) (f none) xs n)
    by true e = refl
    by false e = e

abbrev of_kind : ℕ → ℕ → Result DllErrorKind Refusal → Result DllError Refusal
of_kind a b (Ok k) = read_error (kind_place k) a b
of_kind a b (Err r) = Err r

by_kind : (k a b : ℕ) → read_error k a b ≡ of_kind a b (read_kind k)
unfolding read_error read_kind
by_kind k a b = sym (through kind_place Ok (Err UnknownNumber) (of_kind a b) error_kinds k)

pub of_known : (n : ℕ) {k : DllErrorKind} (a b : ℕ) → read_kind n ≡ Ok k → read_error (kind_place k) a b ≡ read_error n a b
of_known n a b e = sym (by_kind n a b ∙ ap (of_kind a b) e)

pub of_unknown : (n : ℕ) {r : Refusal} (a b : ℕ) → read_kind n ≡ Err r → Err r ≡ read_error n a b
of_unknown n a b e = sym (by_kind n a b ∙ ap (of_kind a b) e)
