-- The error history (RULES 9.5): its list, newest first, what an entry that joins makes of it, and
-- what a load does.
-- Assumes nothing.
use Rattle.std.specs.Prelude.{ℕ, ◌+◌, ◌-◌, ◌*◌, ◌/◌, ◌%◌, min, List, ◌++◌, length, take, drop}
use Rattle.entries.specs.Sizes.{entry_size, history_places}
use Rattle.entries.specs.Ring.{entry_at, put_at, listed, ring}
use Rattle.entries.specs.declared.status_response.ErrorEntry.{ErrorEntry}
use Rattle.entries.specs.declared.error_history.ErrorHistory.{ErrorHistory}

-- a history by the place of its newest entry and their number
abbrev pub error_history : ℕ → ℕ → ErrorHistory
error_history n c = record { newest = n; count = c }

-- the history in the memory m, newest first
unfoldable pub history : List ℕ → ErrorHistory → List ErrorEntry
history m h = ring history_places m h.newest (min h.count history_places)

-- the place before the newest, which in a full history is the oldest's
abbrev pub place_before : ErrorHistory → ℕ
place_before h = (h.newest + (history_places - 1)) % history_places

-- an entry joins: it stands at the place before the newest, and is the newest
unfoldable pub joined : ErrorHistory → ErrorHistory
joined h = error_history (place_before h) (min (h.count + 1) history_places)

-- the memory after an entry joined
unfoldable pub joined_bytes : List ℕ → ErrorHistory → ErrorEntry → List ℕ
joined_bytes m h e = put_at m (place_before h) e

-- the whole entries in a run of bytes; bytes behind the last whole one are no entry
unfoldable pub entries_in : List ℕ → List ErrorEntry
entries_in s = listed (entry_at s) (length s / entry_size)

-- how many entries a load takes of a run of bytes: at most the first 254, which are the newest
abbrev pub taken_of : List ℕ → ℕ
taken_of s = min (length s / entry_size) history_places

-- the history after a load of the bytes s, whose entries stand from place 0 on
unfoldable pub loaded : List ℕ → ErrorHistory
loaded s = error_history 0 (taken_of s)

-- the memory m after a load of the bytes s: the entries taken stand from place 0 on, and all bytes
-- behind them are as they were
unfoldable pub loaded_bytes : List ℕ → List ℕ → List ℕ
loaded_bytes m s = take (entry_size * taken_of s) s ++ drop (entry_size * taken_of s) m
