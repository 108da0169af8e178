-- The desk's buffer: what a write and a read answer and leave.
-- Assumes nothing.
use Prim.Native.Nat.{ℕ}
use mathlib.Core.Path.{◌≡◌}
use mathlib.Core.Bool.{true, false}
use mathlib.Core.List.{List}
use lib.Dec.{leb}
use Rattle.entries.specs.Entry.{entry_bytes}
use Rattle.entries.specs.Ring.{written}
use Rattle.entries.specs.Desk.{Reply, room_at, write_reply, desk_after}
use Rattle.entries.specs.declared.status_response.ErrorEntry.{ErrorEntry}

module _ (s : List ℕ) (at : ℕ) (e : ErrorEntry) where
  pub no_room : room_at s at ≡ false → (Reply.turned_away 11 ≡ write_reply s at e) × (s ≡ desk_after s at e)
  unfolding desk_after write_reply
  no_room none = (rw none, rw none)

  pub no_profile :
      room_at s at ≡ true → leb e.entry_type.profile 4095 ≡ false → (Reply.turned_away 12 ≡ write_reply s at e) × (s ≡ desk_after s at e)
  unfolding desk_after write_reply
  no_profile some above = (rw (some, above), rw (some, above))

  pub wrote :
      {s' : List ℕ} →
      room_at s at ≡ true →
      leb e.entry_type.profile 4095 ≡ true →
      s' ≡ written s at (entry_bytes e) →
      (Reply.gives tt ≡ write_reply s at e) × (s' ≡ desk_after s at e)
  unfolding desk_after write_reply
  wrote some within w = (rw (some, within), rw (some, within) w)
