-- What is kept of the input between two parts of it: the number of whole entries, how often each
-- code of 16 bits occurred in them, and the bytes left behind the last of them. Numbers are taken
-- modulo 2^64.
-- Assumes nothing.
use Rattle.std.specs.Prelude.{ℕ, ◌+◌, ◌-◌, ◌*◌, ◌/◌, ◌%◌, List, [], ◌∷◌, ◌++◌, length, drop, replicate, slice_index, slice_set}
use Rattle.shift.specs.Report.{codes_in, named_codes, page}

-- what is kept
pub record Kept : Type 0 where
  -- the number of whole entries read, modulo 2^64
  pub entries : ℕ
  -- for each code of 16 bits how often it occurred
  pub counts : List ℕ
  -- the bytes behind the last whole entry
  pub left : List ℕ

-- what is kept, by its parts
abbrev pub keeping : ℕ → List ℕ → List ℕ → Kept
keeping n cs l = record { entries = n; counts = cs; left = l }

-- the counts after the code c occurred once more
unfoldable pub counted : List ℕ → ℕ → List ℕ
counted cs c = slice_set cs c ((slice_index cs c + 1) % 18446744073709551616)

-- the counts after some codes occurred, one after another
unfoldable pub counted_all : List ℕ → List ℕ → List ℕ
counted_all cs [] = cs
counted_all cs (d ∷ ds) = counted_all (counted cs d) ds

-- the bytes of a run behind its whole entries
unfoldable pub behind_whole : List ℕ → List ℕ
behind_whole s = drop (20 * (length s / 20)) s

-- a run of bytes is read: its whole entries are counted, and the bytes behind them kept
unfoldable pub absorbed : ℕ → List ℕ → List ℕ → Kept
absorbed n cs s = keeping ((n + length s / 20) % 18446744073709551616) (counted_all cs (codes_in s)) (behind_whole s)

-- what is kept after a part of the input
abbrev pub fed : Kept → List ℕ → Kept
fed k p = absorbed k.entries k.counts (k.left ++ p)

-- what is kept after some parts of the input, one after another
unfoldable pub fed_all : Kept → List (List ℕ) → Kept
fed_all k [] = k
fed_all k (p ∷ ps) = fed_all (fed k p) ps

-- the counts at the start: 65,536 zeros
unfoldable pub no_counts : List ℕ
no_counts = replicate 65536 0

-- what is kept before the first part
abbrev pub at_start : Kept
at_start = keeping 0 no_counts []

-- the parts as one run
unfoldable pub one_run : List (List ℕ) → List ℕ
one_run [] = []
one_run (p ∷ ps) = p ++ one_run ps

-- n less the counts f of some codes
abbrev pub less : (ℕ → ℕ) → ℕ → List ℕ → ℕ
less f n [] = n
less f n (c ∷ cs) = less f (n - f c) cs

-- the page of what is kept, l being how many bytes are left: the entries whose code names no single
-- kind are all but those that are counted under one
unfoldable pub printed : ℕ → List ℕ → ℕ → List ℕ
printed n cs l = page n (λ c. slice_index cs c) (less (λ c. slice_index cs c) n named_codes) l
