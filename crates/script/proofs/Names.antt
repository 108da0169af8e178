-- The names of the rows are text, so bytes that are no text are none of them.
-- Assumes nothing.
use Rattle.std.proofs.Common.{◌≡◌, ℕ, Bool, true, false, List, [], ◌∷◌, None, refl, sym, subst, nat_lt}
use Rattle.std.specs.Str.{IsUtf8, IsAscii, bytes_eq}
use Rattle.std.proofs.lemmas.Str.{IsUtf8-from_ascii}
use Rattle.std.proofs.lemmas.Str.Ascii.{IsAscii-nil, IsAscii-cons}
use Rattle.std.proofs.lemmas.Slice.Eq.{bytes_eq-Decides}
use borrow.Author.Tests.{ltb-true}
use Rattle.types.specs.Pick.{all_of}
use Rattle.types.proofs.Tests.{both_first, both_second}
use Rattle.script.specs.Reads.{Reads, first_word, behind_word, only}
use Rattle.script.specs.Grammar.{Row, named, call_rows, call_named, line_rows, line_named, words_say}

abbrev small : ℕ → Bool
small c = nat_lt c 128

ascii : (bs : List ℕ) → all_of small bs ≡ true → IsAscii bs
ascii [] h = IsAscii-nil
ascii (c ∷ bs) h = IsAscii-cons c bs (ltb-true c 128 (both_first (small c) (all_of small bs) h)) (ascii bs (both_second (small c) (all_of small bs) h))

module _ {A : Type 0} where
  abbrev letters : Row A → Bool
  letters row = all_of small row.0

  -- one row more
  one_more :
      (row : Row A) (rows : List (Row A)) → letters row ≡ true → (name : List ℕ) → (IsUtf8 name → ⊥) → (other : Reads A) (rest : List ℕ) →
      named rows name other rest ≡ other rest → (b : Bool) → bytes_eq name row.0 ≡ b → named (row ∷ rows) name other rest ≡ other rest
  one_more row rows h name absent other rest fewer true e =
      let is : name ≡ row.0 = (bytes_eq-Decides name row.0).0 e in
      absurd (absent (subst IsUtf8 (sym is) (IsUtf8-from_ascii row.0 (ascii row.0 h))))
  one_more row rows h name absent other rest fewer false e = rw e fewer

  misses :
      (rows : List (Row A)) → all_of letters rows ≡ true → (name : List ℕ) → (IsUtf8 name → ⊥) → (other : Reads A) (rest : List ℕ) →
      named rows name other rest ≡ other rest
  misses [] h name absent other rest = refl
  misses (row ∷ rows) h name absent other rest =
      one_more row rows (both_first (letters row) (all_of letters rows) h) name absent other rest
      (misses rows (both_second (letters row) (all_of letters rows) h) name absent other rest) (bytes_eq name row.0) refl

pub no_text : (line : List ℕ) → (IsUtf8 (first_word line) → ⊥) → None ≡ words_say line
unfolding words_say line_named call_named
no_text line absent =
    rw
    (misses line_rows refl (first_word line) absent _ (behind_word line), misses call_rows refl (first_word line) absent (only None) (behind_word line))
    refl
