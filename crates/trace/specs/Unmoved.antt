-- Where calls write in the history's memory (RULES 9.5, 10.7): an entry that joins is written at
-- one place and moves no other, and each byte of a place that no call wrote stays as it was.
-- Assumes nothing.
use Rattle.std.specs.Prelude.{ℕ, ◌/◌, min, ◌≡◌, false, List, [], ◌∷◌, ◌++◌, length, get_or}
use Rattle.types.specs.Pick.{pick}
use Rattle.entries.specs.Sizes.{history_places}
use Rattle.entries.specs.Ring.{listed}
use Rattle.entries.specs.History.{error_history, history, place_before, joined}
use Rattle.entries.specs.declared.status_response.ErrorEntry.{ErrorEntry}
use Rattle.entries.specs.declared.error_history.ErrorHistory.{ErrorHistory}
use Rattle.head.specs.Head.{Head}
use Rattle.node.specs.Plain.{Plain, HistoryUpdate, set, keep, Call}
use Rattle.node.specs.Run.{step, step_all}
use Rattle.node.specs.Refines.{plain}
use Rattle.trace.specs.Tally.{is_full}
use Rattle.calling.specs.Table.{Stores, row_of}
use Rattle.calling.specs.Table as table
use Rattle.calling.specs.Declined.{is_among}

-- The entries that a call brings into the history: those of a load, which replace all that it held,
-- or those of the call's crossings that are kept, which join it.
pub data Brought : Type 0 where
  -- the entries of the history that a load names, newest first
  by_load : List ErrorEntry → Brought
  -- the entries of crossings that are kept, in their order
  by_crossings : List ErrorEntry → Brought

-- no entry joins
abbrev pub nothing_new : Brought
nothing_new = by_crossings []

-- of the entries of a call's crossings, those that are kept: none where the queue is full, else all
abbrev pub kept_by : Plain → List ErrorEntry → List ErrorEntry
kept_by p crossings = pick (is_full p) [] crossings

-- what a load brings: the history that it names, if any
abbrev pub loaded_new : HistoryUpdate → Brought
loaded_new (set es) = by_load es
loaded_new keep = nothing_new

-- what a call brings, by what it does to what is stored, where es are the entries of its kept
-- crossings
abbrev pub brought_how : Stores → List ErrorEntry → Brought
brought_how table.none es = nothing_new
brought_how (table.named v h) es = loaded_new h
brought_how table.handed es = nothing_new
brought_how table.crossings es = by_crossings es

-- what the call c brings into the history of the head p
abbrev pub brought_by : Plain → Call → Brought
brought_by p c = brought_how (row_of c).stores (kept_by p (step p c).crossings)

-- where the newest entry of the history h stands, and how many there are, after these joined: each
-- stands at the place before the newest, which in a full history is the oldest's
abbrev pub joined_all : ErrorHistory → List ErrorEntry → ErrorHistory
joined_all h [] = h
joined_all h (e ∷ es) = joined_all (joined h) es

-- the same after what a call brings: a load's newest entry stands at place 0, and at most 254 are
-- taken
abbrev pub stands_after : ErrorHistory → Brought → ErrorHistory
stands_after h (by_load es) = error_history 0 (min (length es) history_places)
stands_after h (by_crossings es) = joined_all h es

-- the places that entries are written to when they join the history h: each the place before the
-- newest
abbrev pub joined_at : ErrorHistory → List ErrorEntry → List ℕ
joined_at h [] = []
joined_at h (e ∷ es) = place_before h ∷ joined_at (joined h) es

-- the places that a call writes: a load one for each entry that it takes, from place 0 on
abbrev pub written_at : ErrorHistory → Brought → List ℕ
written_at h (by_load es) = listed (λ i. i) (min (length es) history_places)
written_at h (by_crossings es) = joined_at h es

-- the place of the newest entry, and how many there are, behind a list of calls on the head p
unfoldable pub stands_after_all : Plain → ErrorHistory → List Call → ErrorHistory
stands_after_all p h [] = h
stands_after_all p h (c ∷ cs) = stands_after_all (step p c).head (stands_after h (brought_by p c)) cs

-- the places of the history that a list of calls on the head p writes
unfoldable pub written_at_all : Plain → ErrorHistory → List Call → List ℕ
written_at_all p h [] = []
written_at_all p h (c ∷ cs) =
    written_at h (brought_by p c) ++ written_at_all (step p c).head (stands_after h (brought_by p c)) cs

-- A memory m that became m': it is as long, and each byte outside these places is as it was. A
-- place has 20 bytes, so byte k belongs to place k / 20.
pub record OthersStay (places : List ℕ) (m m' : List ℕ) : Type 0 where
  pub long : length m' ≡ length m
  pub bytes : (k : ℕ) → is_among (k / 20) places ≡ false → get_or m' k 0 ≡ get_or m k 0

-- Of the calls cs on the head h, with the bytes q of its queue and m of its history, which left the
-- head h' and the bytes m' of the history.
pub record Unmoved (h : Head) (q m : List ℕ) (cs : List Call) (h' : Head) (m' : List ℕ) : Type 0 where
  -- no byte changed but at the places that these calls write
  pub others : OthersStay (written_at_all (plain h q m) h.history cs) m m'
  -- the place of the newest entry, and how many there are, by the entries that were brought
  pub stands : h'.history ≡ stands_after_all (plain h q m) h.history cs
  -- the list, newest first, is the plain head's after these calls
  pub list : history m' h'.history ≡ (step_all (plain h q m) cs).history
