-- An entry at a place of a buffer, such as a maintenance desk keeps (RULES 9.6): what a write and a
-- read answer, and the bytes that a write leaves.
-- Assumes nothing.
use Rattle.std.specs.Prelude.{ℕ, ◌+◌, Bool, List, leb, length, drop}
use Rattle.types.specs.Pick.{pick}
use Rattle.types.specs.Refusals.{refusal_number}
use Rattle.entries.specs.Sizes.{entry_size}
use Rattle.entries.specs.Entry.{entry_bytes, entry_in}
use Rattle.entries.specs.Ring.{written}
use Rattle.entries.specs.declared.status_response.ErrorEntry.{ErrorEntry}
use Rattle.std.specs.declared.result.Result.{Result}
use Rattle.std.specs.declared.result.Result.TheVariants.{Ok, Err}
use Rattle.types.specs.declared.refusals.Refusal.{Refusal}

-- an answer: turned away by a refusal's number, or taken, with what it gives
pub data Reply (A : Type 0) : Type 0 where
  turned_away : ℕ → Reply A
  gives : A → Reply A

-- the answer of a write, from what the function returned
abbrev pub write_said : Result (Unit {0}) Refusal → Reply Unit
write_said (Ok _) = Reply.gives tt
write_said (Err r) = Reply.turned_away (refusal_number r)

-- the answer of a read, from what the function returned
abbrev pub read_said : Result ErrorEntry Refusal → Reply ErrorEntry
read_said (Ok e) = Reply.gives e
read_said (Err r) = Reply.turned_away (refusal_number r)

-- s has 20 bytes from a place on, and the place is not past the end
abbrev pub room_at : List ℕ → ℕ → Bool
room_at s at = leb (at + entry_size) (length s)

-- what a write answers: turned away by 11, BufferTooShort, where there is no room, or else by 12,
-- ProfileLimit, where the profile is above 4095
unfoldable pub write_reply : List ℕ → ℕ → ErrorEntry → Reply Unit
write_reply s at e =
    pick (room_at s at)
    (pick (leb e.entry_type.profile 4095) (Reply.gives tt) (Reply.turned_away 12))
    (Reply.turned_away 11)

-- what a call leaves of s: s' where it was taken, and s where it was turned away
abbrev pub unless_turned_away : {A : Type 0} → Reply A → List ℕ → List ℕ → List ℕ
unless_turned_away (Reply.turned_away n) s s' = s
unless_turned_away (Reply.gives a) s s' = s'

-- what a write leaves of the bytes s: the entry's 20 from the place on, and all others as they were
unfoldable pub desk_after : List ℕ → ℕ → ErrorEntry → List ℕ
desk_after s at e = unless_turned_away (write_reply s at e) s (written s at (entry_bytes e))

-- what a read answers: the entry in the 20 bytes from the place on, or 11, BufferTooShort
unfoldable pub read_reply : List ℕ → ℕ → Reply ErrorEntry
read_reply s at = pick (room_at s at) (Reply.gives (entry_in (drop at s))) (Reply.turned_away 11)
