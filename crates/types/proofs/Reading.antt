-- Laws of `read_by`, for any list of things with numbers: what holds of an answer because it holds of the answer of each
-- thing.
-- Assumes nothing.
use Prim.Native.Nat.{ℕ}
use mathlib.Core.Path.{◌≡◌, refl, ap}
use mathlib.Core.List.{List, [], ◌∷◌}
use mathlib.Core.Bool.{Bool, true, false}
use lib.Dec.{eqb}
use borrow.Author.Tests.{eqb-true}
use Rattle.std.specs.List.{AllByRecursion}
use Rattle.types.specs.Pick.{pick, read_by}

module _ {A R : Type 0} (number : A → ℕ) (taken : A → R) (none : R) where
  -- what holds of `none`, and of each thing's number and answer, holds of a number and its answer
  pub reads_holds :
      (P : ℕ → R → Type 0) (xs : List A) (n : ℕ) →
      P n none →
      AllByRecursion (λ x. P (number x) (taken x)) xs →
      P n (read_by number taken none xs n)
  reads_holds P [] n base each = base
  reads_holds P (x ∷ xs) n base each = by (eqb n (number x)) refl (reads_holds P xs n base each.1)
    where
      by :
          (b : Bool) →
          eqb n (number x) ≡ b →
          P n (read_by number taken none xs n) →
          P n (pick b (taken x) (read_by number taken none xs n))
      by true t rest = rw (eqb-true n (number x) t) each.0
      by false t rest = rest

-- a reading that is true to the numbers: the number of an item is read as the item, and only that number is
pub record Faithful {A R : Type 0} (number : A → ℕ) (taken : A → R) (read : ℕ → R) : Type 0 where
  pub back : (x : A) → read (number x) ≡ taken x
  pub only : (n : ℕ) (x : A) → read n ≡ taken x → n ≡ number x

module _ {A R : Type 0} (number : A → ℕ) (taken : A → R) (none : R) (same : (x y : A) → taken x ≡ taken y → x ≡ y) where
  each_only : (xs : List A) → AllByRecursion (λ x. (y : A) → taken x ≡ taken y → number x ≡ number y) xs
  each_only [] = tt
  each_only (x ∷ xs) = (λ y e. ap number (same x y e), each_only xs)

  pub faithful :
      (xs : List A) →
      ((y : A) → none ≡ taken y → ⊥) →
      ((x : A) → read_by number taken none xs (number x) ≡ taken x) →
      Faithful number taken (read_by number taken none xs)
  faithful xs never back =
      record {
        back = back;
        only = λ n x e. reads_holds number taken none (λ k r. (y : A) → r ≡ taken y → k ≡ number y) xs n (λ y q. absurd (never y q)) (each_only xs) x e;
      }
