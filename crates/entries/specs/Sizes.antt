-- The sizes of an entry, of the emergency queue and of the error history.
-- Assumes nothing.
use Rattle.std.specs.Prelude.{ℕ}

-- the bytes of an entry
abbrev pub entry_size : ℕ
entry_size = 20

-- the places of the emergency queue, an entry each
abbrev pub queue_places : ℕ
queue_places = 32

-- the places of the error history, an entry each
abbrev pub history_places : ℕ
history_places = 254
