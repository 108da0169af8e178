-- What an array's `map` gives is the list's, where each call gives a function's value.
-- Assumes nothing.
use Prim.Native.Nat.{ℕ, ◌<◌}
use mathlib.Core.Path.{◌≡◌, sym, subst, ◌∙◌}
use mathlib.Core.List.{List, map}
use lib.ListN.{length}
use lib.Seq.{ext_get_or}
use denote.Param.Members.{Mut, Called}
use Rattle.std.specs.Array.{IsMapOf}
use Rattle.std.proofs.Math.ListN.{get_or-map}
use Rattle.std.proofs.lemmas.List.{length-map}

module _ {F A B : Type 0} (g : Mut F (A × Unit {0}) B) (h : A → B) (given : (p : F) (x : A) (y : B) (q : F) → Called g p (x, tt) y q → y ≡ h x) where
  pub mapped : (f : F) (xs : List A) (ys : List B) (n : ℕ) (d : A) → length xs ≡ n → IsMapOf g f xs ys n → ys ≡ map h xs
  mapped f xs ys n d long m =
      ext_get_or (h d) ys (map h xs) (m.long ∙ sym long ∙ sym (length-map xs h))
      (λ i below. let t = m.at i d (h d) (subst (λ k. i < k) m.long below) in given t.0 _ _ t.1 t.2 ∙ sym (get_or-map h xs i d))
