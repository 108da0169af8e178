-- Lists of all items of an enum.
-- Assumes nothing.
use Rattle.std.specs.Prelude.{ℕ, ◌≡◌, ◌↔◌, List, Some, slice_get}

-- each item once, in the order of their places: an item stands where its place is, and nowhere else
abbrev pub AllInOrder : {A : Type 0} → (A → ℕ) → List A → Type 0
AllInOrder {A = A} place items = (x : A) (k : ℕ) → (slice_get items k ≡ Some x) ↔ (place x ≡ k)
