-- Turns of the walks over digits and over entries.
-- Assumes nothing.
use Rattle.std.proofs.Common.{◌≡◌, ◌∙◌, ℕ, suc, ◌+◌, ◌/◌, List, [], ◌∷◌, ◌++◌, length, get_or, take_at, drop_at, Some, None, option_and_then, ap, arith}
use Rattle.std.proofs.lemmas.List.{length-append}
use Rattle.script.specs.Bytes.{byte_of, bytes_at, word_at, entries_at}

-- a turn of the walk over the pairs of digits
two : (x t bs : List ℕ) (b : ℕ) → length x ≡ 2 → byte_of (get_or x 0 0) (get_or x 1 0) ≡ Some b → bytes_at t (bs ++ (b ∷ [])) ≡ bytes_at (x ++ t) bs
unfolding bytes_at
two (high ∷ low ∷ []) t bs b h e = rw e
two [] t bs b h e = absurd (omega (arith, h))
two (high ∷ []) t bs b h e = absurd (omega (arith, h))
two (high ∷ low ∷ c ∷ x) t bs b h e = absurd (omega (arith, h))

none_of_two : (x t bs : List ℕ) → length x ≡ 2 → byte_of (get_or x 0 0) (get_or x 1 0) ≡ None → None ≡ bytes_at (x ++ t) bs
unfolding bytes_at
none_of_two (high ∷ low ∷ []) t bs h e = rw e
none_of_two [] t bs h e = absurd (omega (arith, h))
none_of_two (high ∷ []) t bs h e = absurd (omega (arith, h))
none_of_two (high ∷ low ∷ c ∷ x) t bs h e = absurd (omega (arith, h))

module _ (s x t : List ℕ) (parts : s ≡ x ++ t) (long : length x ≡ 2) where
  pub pair_more : length s / 2 ≡ suc (length t / 2)
  pair_more =
      let whole : length s ≡ length x + length t = ap length parts ∙ length-append x t in
      omega (arith, long, whole)

  pub bytes_goes : (bs : List ℕ) (b : ℕ) → byte_of (get_or x 0 0) (get_or x 1 0) ≡ Some b → bytes_at t (bs ++ (b ∷ [])) ≡ bytes_at s bs
  bytes_goes bs b e = rw parts (two x t bs b long e)

  pub bytes_fails : (bs : List ℕ) → byte_of (get_or x 0 0) (get_or x 1 0) ≡ None → None ≡ bytes_at s bs
  bytes_fails bs e = rw parts (none_of_two x t bs long e)

-- a turn of the walk over the entries
module _ (s x t bs : List ℕ) (parts : s ≡ x ++ t) (long : length x ≡ 41) where
  pub word_more : length s / 41 ≡ suc (length t / 41)
  word_more =
      let whole : length s ≡ length x + length t = ap length parts ∙ length-append x t in
      omega (arith, long, whole)

  turn : entries_at (length s / 41) s bs ≡ option_and_then (entries_at (length t / 41) t) (word_at x bs)
  unfolding entries_at
  turn = rw (word_more, parts, take_at x t 41 long, drop_at x t 41 long)

  pub entries_fails : None ≡ word_at x bs → None ≡ entries_at (length s / 41) s bs
  entries_fails one = rw (turn, ← one)

  pub entries_goes : (bs' : List ℕ) → Some bs' ≡ word_at x bs → entries_at (length t / 41) t bs' ≡ entries_at (length s / 41) s bs
  entries_goes bs' one = rw (turn, ← one)
