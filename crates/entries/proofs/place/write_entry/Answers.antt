-- `entries::place::write_entry` meets its contract: the five numbers are written one behind the other.
-- Assumes nothing.
use Prim.Native.Nat.{ℕ}
use mathlib.Core.Path.{◌≡◌, refl}
use mathlib.Core.List.{List, [], ◌++◌}
use lib.ListN.{drop}
use Rattle.entries.specs.declared.status_response.ErrorEntry.{ErrorEntry}
use Rattle.entries.specs.Entry.{type_number, bytes_of, entry_bytes}
use Rattle.entries.specs.Ring.{written}
use Rattle.entries.proofs.Numbers.{bytes_2, bytes_4, bytes_8}
use Rattle.entries.proofs.Written.{written_next}
use Rattle.entries.proofs.place.write_entry.Goals as goal

five :
    (e : ErrorEntry) (n : ℕ) (s s₁ s₂ s₃ s₄ s₅ : List ℕ) →
    n ≡ type_number e.entry_type →
    s₁ ≡ written s 0 (bytes_of 2 n) →
    s₂ ≡ written s₁ 2 (bytes_of 2 e.error_code) →
    s₃ ≡ written s₂ 4 (bytes_of 4 e.timestamp.seconds) →
    s₄ ≡ written s₃ 8 (bytes_of 4 e.timestamp.nanoseconds) →
    s₅ ≡ written s₄ 12 (bytes_of 8 e.additional_information) →
    s₅ ≡ entry_bytes e ++ drop 20 s
unfolding entry_bytes
five e n s s₁ s₂ s₃ s₄ s₅ t h₁ h₂ h₃ h₄ h₅ =
    let b₁ : List ℕ = bytes_of 2 (type_number e.entry_type) in
    let b₂ : List ℕ = b₁ ++ bytes_of 2 e.error_code in
    let b₃ : List ℕ = b₂ ++ bytes_of 4 e.timestamp.seconds in
    let b₄ : List ℕ = b₃ ++ bytes_of 4 e.timestamp.nanoseconds in
    let e₁ : s₁ ≡ b₁ ++ drop 2 s = written_next s s s₁ [] b₁ 0 2 refl refl refl (rw t at h₁) in
    let e₂ : s₂ ≡ b₂ ++ drop 4 s = written_next s s₁ s₂ b₁ _ 2 2 refl refl e₁ h₂ in
    let e₃ : s₃ ≡ b₃ ++ drop 8 s = written_next s s₂ s₃ b₂ _ 4 4 refl refl e₂ h₃ in
    let e₄ : s₄ ≡ b₄ ++ drop 12 s = written_next s s₃ s₄ b₃ _ 8 4 refl refl e₃ h₄ in
    written_next s s₄ s₅ b₄ _ 12 8 refl refl e₄ h₅

pub returns : goal.returns
returns c =
    let e = c.args.entry in
    five e _ _ _ _ _ _ _ c.from.ensures
    (rw (c.to_le_bytes.ensures, bytes_2 c.from.result) at c.put_bytes.ensures)
    (rw (c.to_le_bytes-2.ensures, bytes_2 e.error_code) at c.put_bytes-2.ensures)
    (rw (c.to_le_bytes-3.ensures, bytes_4 e.timestamp.seconds) at c.put_bytes-3.ensures)
    (rw (c.to_le_bytes-4.ensures, bytes_4 e.timestamp.nanoseconds) at c.put_bytes-4.ensures)
    (rw (c.to_le_bytes-5.ensures, bytes_8 e.additional_information) at c.put_bytes-5.ensures)
