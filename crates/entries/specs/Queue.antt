-- The emergency queue (RULES 9.4): what waits, oldest first, and what a push and a hand-out make of
-- it.
-- Assumes nothing.
use Rattle.std.specs.Prelude.{ℕ, ◌+◌, ◌-◌, ◌%◌, min, Bool, true, false, List, ltb}
use Rattle.types.specs.Pick.{pick}
use Rattle.entries.specs.Sizes.{queue_places}
use Rattle.entries.specs.Ring.{entry_at, put_at, ring}
use Rattle.entries.specs.declared.status_response.ErrorEntry.{ErrorEntry}
use Rattle.std.specs.declared.option.Option.{Option}
use Rattle.std.specs.declared.option.Option.TheVariants.{Some, None}
use Rattle.entries.specs.declared.emergency_queue.EmergencyQueue.{EmergencyQueue}

-- a queue by the place of its oldest entry, the number of entries that wait, and its capacity
abbrev pub queue : ℕ → ℕ → ℕ → EmergencyQueue
queue o l c = record { oldest = o; length = l; capacity = c }

-- how many entries wait, at most the 32 places
abbrev pub length_of : EmergencyQueue → ℕ
length_of q = min q.length queue_places

-- how many entries may wait, at most the 32 places
abbrev pub capacity_of : EmergencyQueue → ℕ
capacity_of q = min q.capacity queue_places

-- what waits in the memory m, oldest first
unfoldable pub waiting : List ℕ → EmergencyQueue → List ErrorEntry
waiting m q = ring queue_places m q.oldest (length_of q)

-- the queue is not full: fewer wait than may
abbrev pub has_room : EmergencyQueue → Bool
has_room q = ltb (length_of q) (capacity_of q)

-- after a push: the queue, and whether the entry was kept
pub record Pushed : Type 0 where
  pub queue : EmergencyQueue
  pub kept : Bool

-- after a hand-out: the queue, and the entry, if one waited
pub record HandedOut : Type 0 where
  pub queue : EmergencyQueue
  pub entry : Option ErrorEntry

-- a push: the entry is kept, at the place behind the newest, or dropped where the queue is full
unfoldable pub pushed : EmergencyQueue → Pushed
pushed q =
    pick (has_room q)
    (record { queue = queue q.oldest (length_of q + 1) q.capacity; kept = true })
    (record { queue = q; kept = false })

-- the memory after a push
unfoldable pub pushed_bytes : List ℕ → EmergencyQueue → ErrorEntry → List ℕ
pushed_bytes m q e = pick (has_room q) (put_at m ((q.oldest + length_of q) % queue_places) e) m

-- a hand-out: the oldest leaves and is the answer, or none where none waits; the memory stays
unfoldable pub handed_out : List ℕ → EmergencyQueue → HandedOut
handed_out m q =
    pick (ltb 0 (length_of q))
    (record {
      queue = queue ((q.oldest + 1) % queue_places) (length_of q - 1) q.capacity;
      entry = Some (entry_at m (q.oldest % queue_places));
    })
    (record { queue = q; entry = None })
