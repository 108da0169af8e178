-- The search for the kind behind a code: what it has found so far, and what that says of the answer.
-- Assumes nothing.
use Rattle.std.proofs.Common.{ℕ, ◌≡◌, ◌+◌, ◌<◌, List, [], ◌∷◌, ◌++◌, Bool, true, false, drop, add-one, arith}
use lib.Dec.{eqb}
use mathlib.Core.Path.{sym, ap, ◌∙◌}
use borrow.Author.Tests.{eq-eqb, ne_eqb}
use lib.Seq.{drop-cons}
use Rattle.std.specs.Option.{is_some, ok_or}
use Rattle.std.specs.declared.option.Option.{Option}
use Rattle.std.specs.declared.option.Option.TheVariants.{Some, None}
use Rattle.types.specs.Kinds.{kind_code, error_kinds, kind_at, put_if, with_code, refused_by, single, kind_behind, kind_said}
use Rattle.types.specs.declared.refusals.Refusal.TheVariants.{NoSingleKind}
use Rattle.types.specs.declared.frame.error.kinds.DllErrorKind.{DllErrorKind}
use Rattle.types.specs.declared.frame.error.kinds.DllErrorKind.TheVariants.{LossOfLink}

abbrev pub listed : Option DllErrorKind → List DllErrorKind
listed None = []
listed (Some k) = k ∷ []

true_not_false : true ≡ false → ⊥
true_not_false e = let z : ◌≡◌ {A = ℕ} 0 1 = cc in omega arith

-- of the kinds before the place n, the one found alone has the code c
pub record Passed (c n : ℕ) (found : Option DllErrorKind) : Type 0 where
  pub split : with_code c error_kinds ≡ listed found ++ with_code c (drop n error_kinds)

module _ (c n : ℕ) (inside : n < 22) where
  front : with_code c (drop n error_kinds) ≡ put_if (eqb (kind_code (kind_at n)) c) (kind_at n) (with_code c (drop (n + 1) error_kinds))
  front = rw add-one (ap (with_code c) (drop-cons error_kinds n LossOfLink inside))

  has : kind_code (kind_at n) ≡ c → with_code c (drop n error_kinds) ≡ kind_at n ∷ with_code c (drop (n + 1) error_kinds)
  has h = front ∙ ap (λ (b : Bool). put_if b (kind_at n) (with_code c (drop (n + 1) error_kinds))) (eq-eqb (kind_code (kind_at n)) c h)

  pub passes : {f : Option DllErrorKind} → Passed c n f → (kind_code (kind_at n) ≡ c → ⊥) → Passed c (n + 1) f
  passes {f = f} p h =
      record {
        split = p.split ∙ ap (λ (ks : List DllErrorKind). listed f ++ ks) (front ∙ ap (λ (b : Bool). put_if b (kind_at n) (with_code c (drop (n + 1) error_kinds))) (ne_eqb (kind_code (kind_at n)) c h));
      }

  pub finds :
      (f : Option DllErrorKind) → is_some f ≡ false → Passed c n f → kind_code (kind_at n) ≡ c → Passed c (n + 1) (Some (kind_at n))
  finds None e p h = record { split = p.split ∙ has h }
  finds (Some k) e p h = absurd (true_not_false e)

  pub several : (f : Option DllErrorKind) → is_some f ≡ true → Passed c n f → kind_code (kind_at n) ≡ c → refused_by 13 ≡ kind_behind c
  unfolding kind_behind
  several None e p h = absurd (true_not_false (sym e))
  several (Some k) e p h = sym (ap single (p.split ∙ ap (λ (ks : List DllErrorKind). k ∷ ks) (has h)))

-- at the end of the kinds, what was found is the answer
pub ends : (c n : ℕ) (f : Option DllErrorKind) → Passed c n f → n ≡ 22 → kind_said (ok_or f NoSingleKind) ≡ kind_behind c
unfolding kind_behind
ends c n None p e = sym (ap single (p.split ∙ ap (λ (m : ℕ). with_code c (drop m error_kinds)) e))
ends c n (Some k) p e = sym (ap single (p.split ∙ ap (λ (m : ℕ). k ∷ with_code c (drop m error_kinds)) e))
