-- A ring of places in lent bytes, each of 20 bytes with an entry.
-- Assumes nothing.
use Rattle.std.specs.Prelude.{ℕ, zero, suc, ◌+◌, ◌*◌, ◌%◌, List, [], ◌∷◌, ◌++◌, length, take, drop}
use Rattle.entries.specs.Sizes.{entry_size}
use Rattle.entries.specs.Entry.{entry_bytes, entry_in}
use Rattle.entries.specs.declared.status_response.ErrorEntry.{ErrorEntry}
use Rattle.std.specs.declared.option.Option.{Option}
use Rattle.std.specs.declared.option.Option.TheVariants.{Some, None}

-- s with the bytes b from a place on, and all others as they were
unfoldable pub written : List ℕ → ℕ → List ℕ → List ℕ
written s at b = take at s ++ (b ++ drop (at + length b) s)

-- the entry at place i of the memory m
abbrev pub entry_at : List ℕ → ℕ → ErrorEntry
entry_at m i = entry_in (drop (entry_size * i) m)

-- the memory m with an entry put at place i, and all other bytes as they were
abbrev pub put_at : List ℕ → ℕ → ErrorEntry → List ℕ
put_at m i e = written m (entry_size * i) (entry_bytes e)

-- the list f 0, f 1, .., f (n - 1)
unfoldable pub listed : {A : Type 0} → (ℕ → A) → ℕ → List A
listed f zero = []
listed f (suc n) = f 0 ∷ listed (λ j. f (suc j)) n

-- the n entries of a ring of p places from place i on; place 0 follows the last
abbrev pub ring : ℕ → List ℕ → ℕ → ℕ → List ErrorEntry
ring p m i n = listed (λ j. entry_at m ((i + j) % p)) n

-- the entry at an index of a list, from 0; none past its end
unfoldable pub nth : List ErrorEntry → ℕ → Option ErrorEntry
nth [] k = None
nth (e ∷ l) zero = Some e
nth (e ∷ l) (suc k) = nth l k

-- the list without its first entry
abbrev pub rest : List ErrorEntry → List ErrorEntry
rest [] = []
rest (e ∷ l) = l
