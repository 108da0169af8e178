-- A list has all items of an enum in order where each item is found at its place, and the places are counted from 0.
-- Assumes nothing.
use Rattle.std.proofs.Common.{ℕ, zero, suc, ◌+◌, ◌≡◌, Bool, true, List, [], ◌∷◌, arith, sym, ap, ◌∙◌}
use Rattle.std.specs.Prelude.{Some, slice_get, eqb}
use borrow.Author.Tests.{eqb-true}
use Rattle.types.specs.Pick.{both}
use Rattle.types.proofs.Tests.{both_first, both_second}
use Rattle.types.specs.Listing.{AllInOrder}

-- the places of the items are m, m + 1 and so on
abbrev pub counted : {A : Type 0} → (A → ℕ) → ℕ → List A → Bool
counted place m [] = true
counted place m (x ∷ xs) = both (eqb (place x) m) (counted place (suc m) xs)

module _ {A : Type 0} (place : A → ℕ) where
  placed : (items : List A) (m k : ℕ) (x : A) → counted place m items ≡ true → slice_get items k ≡ Some x → place x ≡ m + k
  placed [] m k x c e = cc
  placed (y ∷ ys) m zero x c e =
      let same : y ≡ x = cc in
      let here : place y ≡ m = eqb-true (place y) m (both_first (eqb (place y) m) (counted place (suc m) ys) c) in
      omega (arith, ap place same, here)
  placed (y ∷ ys) m (suc k) x c e =
      let later : place x ≡ suc m + k = placed ys (suc m) k x (both_second (eqb (place y) m) (counted place (suc m) ys) c) e in
      omega (arith, later)

  pub in_order :
      (items : List A) → ((x : A) → slice_get items (place x) ≡ Some x) → counted place 0 items ≡ true → AllInOrder place items
  in_order items found c x k =
      (λ e. omega (arith, placed items 0 k x c e), λ h. ap (slice_get items) (sym h) ∙ found x)
