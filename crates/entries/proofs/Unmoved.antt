-- The error history without moving, from the contract of the function that writes it.
-- κs: the lifetimes; a: the arguments; o: what is returned; x: what is lent, as it is left.
-- Assumes nothing.
use Prim.Native.Nat.{ℕ, ◌/◌}
use mathlib.Core.Path.{◌≡◌, ap, ap₂, ◌∙◌}
use mathlib.Core.List.{List, ◌∷◌}
use lib.ListN.{length, get_or, take}
use Rattle.entries.specs.declared.error_history.ErrorHistory.{ErrorHistory}
use Rattle.entries.specs.Entry.{FitsBytes}
use Rattle.entries.specs.History.{history, place_before}
use Rattle.entries.proofs.Lists.{history_joined, others_stay, joined_long}
use Rattle.entries.proofs.error_history.ErrorHistory.write_error_to_history.Reads as write-history

-- An entry that joins writes one of the 254 places, full or not: the memory keeps its length, and a byte of another
-- place than the one before the newest is as it was.
pub one_place :
    (κs : _) (a : _) (o : _) (x : _) →
    write-history.Learnt κs a o x →
    length a.1.0.now ≡ 5080 →
    (length x.1.0.now ≡ 5080) × ((k : ℕ) → (k / 20 ≡ place_before a.0.now → ⊥) → get_or x.1.0.now k 0 ≡ get_or a.1.0.now k 0)
one_place κs a o x l long = (
  ap length l.1 ∙ joined_long a.1.0.now a.0.now a.1.1.0 long ∙ long,
  λ k ne. ap (λ (m : List ℕ). get_or m k 0) l.1 ∙ others_stay a.1.0.now a.0.now a.1.1.0 long k ne,
)

-- Read newest first it is the entry, then of the old list the first 253 (RULES 9.5).
pub read_newest_first :
    (κs : _) (a : _) (o : _) (x : _) →
    write-history.Learnt κs a o x →
    length a.1.0.now ≡ 5080 →
    FitsBytes a.1.1.0 →
    history x.1.0.now x.0.now ≡ a.1.1.0 ∷ take 253 (history a.1.0.now a.0.now)
read_newest_first κs a o x l long f =
    ap₂ (λ (m : List ℕ) (h : ErrorHistory). history m h) l.1 l.0 ∙ history_joined a.1.0.now a.0.now a.1.1.0 long f
