-- The entries of a ring are written one after the other, by their indexes, until none is there.
-- Assumes nothing.
use Rattle.std.proofs.Common.{◌≡◌, ℕ, zero, suc, ◌+◌, ◌%◌, ◌≤◌, min, List, [], ◌∷◌, ◌++◌, take, Some, None, refl, ap, arith, add-one}
use Rattle.std.proofs.lemmas.List.{flat_map_more, take_all as whole}
use Rattle.entries.specs.Ring.{nth, entry_at}
use Rattle.entries.specs.Queue.{waiting}
use Rattle.entries.specs.History.{history}
use Rattle.entries.specs.declared.status_response.ErrorEntry.{ErrorEntry}
use Rattle.entries.specs.declared.emergency_queue.EmergencyQueue.{EmergencyQueue}
use Rattle.entries.specs.declared.error_history.ErrorHistory.{ErrorHistory}
use Rattle.entries.proofs.Rings.{listed_long}
use Rattle.telling.specs.Texts.{entry_text, entries_text}

take_next : (es : List ErrorEntry) (i : ℕ) (e : ErrorEntry) → nth es i ≡ Some e → take (suc i) es ≡ take i es ++ (e ∷ [])
unfolding nth
take_next [] i e h = cc
take_next (x ∷ es) zero e h = let is : x ≡ e = cc in ap (λ (y : ErrorEntry). y ∷ []) is
take_next (x ∷ es) (suc i) e h = ap (λ (ys : List ErrorEntry). x ∷ ys) (take_next es i e h)

take_whole : (es : List ErrorEntry) (i : ℕ) → nth es i ≡ None → take i es ≡ es
unfolding nth
take_whole [] zero h = refl
take_whole [] (suc i) h = refl
take_whole (x ∷ es) zero h = cc
take_whole (x ∷ es) (suc i) h = ap (λ (ys : List ErrorEntry). x ∷ ys) (take_whole es i h)

-- one more
pub entry_more :
    (es : List ErrorEntry) (i : ℕ) (e : ErrorEntry) → nth es i ≡ Some e → entries_text (take i es) ++ entry_text e ≡ entries_text (take (i + 1) es)
entry_more es i e h = rw (add-one, take_next es i e h) (flat_map_more entry_text [] (take i es) e)

-- none is there any more
pub entries_end : (es : List ErrorEntry) (i : ℕ) → nth es i ≡ None → entries_text (take i es) ≡ entries_text es
entries_end es i h = ap entries_text (take_whole es i h)

-- there are no more than places
pub waiting_end : (m : List ℕ) (q : EmergencyQueue) (i : ℕ) → 32 ≤ i → entries_text (take i (waiting m q)) ≡ entries_text (waiting m q)
unfolding waiting
waiting_end m q i h =
    let long = listed_long (λ (j : ℕ). entry_at m ((q.oldest + j) % 32)) (min q.length 32) in
    ap entries_text (whole i (waiting m q) (omega (arith, h, long)))

pub history_end : (m : List ℕ) (h : ErrorHistory) (i : ℕ) → 254 ≤ i → entries_text (take i (history m h)) ≡ entries_text (history m h)
unfolding history
history_end m h i few =
    let long = listed_long (λ (j : ℕ). entry_at m ((h.newest + j) % 254)) (min h.count 254) in
    ap entries_text (whole i (history m h) (omega (arith, few, long)))
