-- The entries: what a call does to the queue, in the lists of crossings, entries handed out and entries dropped.
-- Assumes nothing.
use Prim.Native.Nat.{ℕ}
use mathlib.Core.List.{List, [], ◌∷◌, ◌++◌, append_assoc, append-nil}
use Rattle.entries.specs.declared.status_response.ErrorEntry.{ErrorEntry}
use Rattle.trace.specs.Claim.{Merge, empty, left, right, Queued, still, kept, dropped, handed}

left_end : {x y z : List ErrorEntry} (e : ErrorEntry) → Merge x y z → Merge (x ++ (e ∷ [])) (y ++ (e ∷ [])) z
left_end e empty = left empty
left_end e (left m) = left (left_end e m)
left_end e (right m) = right (left_end e m)

right_end : {x y z : List ErrorEntry} (e : ErrorEntry) → Merge x y z → Merge (x ++ (e ∷ [])) y (z ++ (e ∷ []))
right_end e empty = right empty
right_end e (left m) = left (right_end e m)
right_end e (right m) = right (right_end e m)

pub merge_queued :
    {n : ℕ} {q c h d q' : List ErrorEntry} (x y z : List ErrorEntry) →
    Queued n q c h d q' →
    Merge x (y ++ q) z →
    Merge (x ++ c) ((y ++ h) ++ q') (z ++ d)
merge_queued x y z still m = rw (append-nil x, append-nil y, append-nil z) m
merge_queued x y z (kept {q = q} {e = e} r) m = rw (append-nil y, append-nil z, ← append_assoc y q (e ∷ [])) (left_end e m)
merge_queued x y z (dropped {e = e} r) m = rw (append-nil y) (right_end e m)
merge_queued x y z handed m = rw (append-nil x, append-nil z, append_assoc) m
