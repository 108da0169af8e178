-- A word of each of the seven counters, by its kind.
-- Assumes nothing.
use Rattle.std.proofs.Common.{◌≡◌, ℕ, suc, ◌+◌, ◌<◌, ◌≤◌, List, [], ◌∷◌, length, get_or, drop, map, set, refl, ap, ap₂, sym, ◌∙◌}
use Rattle.std.proofs.Math.Seq.{drop-cons}
use Rattle.std.proofs.Math.ListN.{drop_of_length-le}
use Rattle.counters.specs.Counters.{of_kind, counter_kinds}
use Rattle.counters.specs.declared.counters.ByKind.{ByKind}
use Rattle.counters.specs.declared.counters.CounterKind.{CounterKind}
use Rattle.counters.specs.declared.counters.CounterKind.TheVariants.{Collision, LossOfSoc, LossOfSoa, LossOfPreq, SoCJitter, Crc, HeartbeatTimeout}
use Rattle.head.specs.Written.{each_written}

-- the n-th words of counters, from the one at a place on
unfoldable pub nth_written : List ℕ → ℕ → ℕ → List ℕ → List ℕ
nth_written ws i n [] = ws
nth_written ws i n (x ∷ xs) = nth_written (set ws (i + n) x) (4 + i) n xs

-- of those that are left, from the k-th on, the first is written
pub one_written :
    (ws : List ℕ) (i j n k l : ℕ) (xs : List ℕ) →
    k < length xs →
    j ≡ 4 + i →
    l ≡ suc k →
    nth_written (set ws (i + n) (get_or xs k 0)) j n (drop l xs) ≡ nth_written ws i n (drop k xs)
unfolding nth_written
one_written ws i j n k l xs h e d =
    ap₂ (λ j l. nth_written (set ws (i + n) (get_or xs k 0)) j n (drop l xs)) e d ∙ sym (ap (nth_written ws i n) (drop-cons xs k 0 h))

-- none is left
pub all_written : (ws : List ℕ) (i n k : ℕ) (xs : List ℕ) → length xs ≤ k → nth_written ws i n (drop k xs) ≡ ws
unfolding nth_written
all_written ws i n k xs h = ap (nth_written ws i n) (drop_of_length-le xs h)

-- those of the seven kinds, in their order
pub kinds_written :
    (ws : List ℕ) (n : ℕ) (v : ByKind ℕ) →
    nth_written ws 7 n (map (λ k. of_kind k v) counter_kinds) ≡ each_written ws n (λ k. of_kind k v)
unfolding nth_written
kinds_written ws n v = refl

-- words that are the same for each kind are written the same
pub same_each :
    (ws : List ℕ) (n : ℕ) (v w : CounterKind → ℕ) → ((k : CounterKind) → v k ≡ w k) → each_written ws n v ≡ each_written ws n w
same_each ws n v w h =
    rw (h Collision, h LossOfSoc, h LossOfSoa, h LossOfPreq, h SoCJitter, h Crc, h HeartbeatTimeout)
