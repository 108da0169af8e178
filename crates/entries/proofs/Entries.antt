-- The entry and its 20 bytes: what was written is read, and what was read is written.
-- Assumes nothing.
use Prim.Native.Nat.{ℕ, zero, suc, ◌+◌, ◌*◌, ◌/◌, ◌%◌, ◌≤◌, ◌<◌}
use mathlib.Core.Path.{◌≡◌, refl, sym, ap, ◌∙◌}
use mathlib.Core.Bool.{Bool, true, false}
use mathlib.Core.List.{List, [], ◌∷◌, ◌++◌}
use native.Mathlib.Omega.{arith}
use lib.Dec.{eqb}
use borrow.Author.Tests.{ne_eqb}
use lib.ListN.{length, get_or, take, drop, length-drop}
use lib.Seq.{drop-drop, take-add, get_or-drop}
use Rattle.types.specs.Errors.{error_code}
use Rattle.types.specs.declared.refusals.Refusal.TheVariants.{UnknownNumber}
use Rattle.types.specs.declared.frame.error.types.DllError.{DllError}
use Rattle.types.specs.declared.frame.error.types.DllError.TheVariants.{LossOfLink, BadPhysicalMode, MacBuffer, Crc, Collision, InvalidFormat, LossOfSoc, LossOfSoa, LossOfPreq, LossOfPres, LossOfStatusRes, CycleTimeExceeded, LatePres, SoCJitter, MsWaitSoc, MultipleMn, AddressConflict, MevAsndTimeout, UnexpectedEventInState, PdoMapVersion, PdoPayloadShort, HeartbeatTimeout}
use Rattle.entries.specs.declared.status_response.ErrorEntryMode.{ErrorEntryMode}
use Rattle.entries.specs.declared.status_response.ErrorEntryMode.TheVariants.{Terminator, ErrorActive, ErrorCleared, EventOccurred}
use Rattle.std.specs.declared.result.Result.TheVariants.{Ok, Err}
use Rattle.entries.specs.declared.status_response.EntryType.{EntryType}
use Rattle.entries.specs.declared.status_response.ErrorEntry.{ErrorEntry}
use Rattle.entries.specs.Entry.{mode_number, modes, read_mode, mode_of, bit, type_number, type_of, bytes_of, number_in, Bytes, FitsBytes, entry_bytes, entry_in, crossing_entry}
use Rattle.entries.specs.Ring.{written}
use Rattle.entries.proofs.Numbers.{number_written, number_read, number_below, number_same}
use Rattle.entries.proofs.Written.{written_there, written_same}

pub bit_small : (b : Bool) → bit b < 2
bit_small true = omega arith
bit_small false = omega arith

pub mode_small : (m : ErrorEntryMode) → mode_number m < 4
mode_small Terminator = omega arith
mode_small ErrorActive = omega arith
mode_small ErrorCleared = omega arith
mode_small EventOccurred = omega arith

bit_back : (b : Bool) (x : ℕ) → x ≡ bit b → eqb x 1 ≡ b
bit_back true x e = rw e
bit_back false x e = rw e

mode_back : (m : ErrorEntryMode) (x : ℕ) → x ≡ mode_number m → get_or modes x Terminator ≡ m
mode_back Terminator x e = rw e
mode_back ErrorActive x e = rw e
mode_back ErrorCleared x e = rw e
mode_back EventOccurred x e = rw e

bit_of : (x : ℕ) → x < 2 → bit (eqb x 1) ≡ x
bit_of zero h = refl
bit_of (suc zero) h = refl
bit_of (suc (suc x)) h = absurd (omega arith)

-- a claim of each number below four
below_four : (P : ℕ → Type 0) → P 0 → P 1 → P 2 → P 3 → (n : ℕ) → n < 4 → P n
below_four P p₀ p₁ p₂ p₃ zero h = p₀
below_four P p₀ p₁ p₂ p₃ (suc zero) h = p₁
below_four P p₀ p₁ p₂ p₃ (suc (suc zero)) h = p₂
below_four P p₀ p₁ p₂ p₃ (suc (suc (suc zero))) h = p₃
below_four P p₀ p₁ p₂ p₃ (suc (suc (suc (suc n)))) h = absurd (omega arith)

mode_of_lem : (n : ℕ) → n < 4 → mode_number (get_or modes n Terminator) ≡ n
mode_of_lem = below_four (λ n. mode_number (get_or modes n Terminator) ≡ n) refl refl refl refl

-- the reading of a mode's number
pub mode_below : (n : ℕ) → n < 4 → Ok (mode_of n) ≡ read_mode n
unfolding mode_of read_mode
mode_below = below_four (λ n. Ok (mode_of n) ≡ read_mode n) refl refl refl refl

pub mode_above : (n : ℕ) → 4 ≤ n → Err UnknownNumber ≡ read_mode n
unfolding read_mode
mode_above n h =
    rw (ne_eqb n 0 (λ e. omega arith), ne_eqb n 1 (λ e. omega arith), ne_eqb n 2 (λ e. omega arith), ne_eqb n 3 (λ e. omega arith))

-- the type as a number
module _ (t : EntryType) where
  pub type_below : type_number t < 65536
  unfolding type_number
  type_below = omega (arith, bit_small t.is_status_entry, bit_small t.send_to_queue, mode_small t.mode)

  pub type_written : t.profile < 4096 → type_of (type_number t) ≡ t
  unfolding type_of type_number mode_of
  type_written small =
      let n : ℕ = type_number t in
      let s = bit_small t.is_status_entry in
      let q = bit_small t.send_to_queue in
      let m = mode_small t.mode in
      let p₁ : eqb (n / 32768 % 2) 1 ≡ t.is_status_entry = bit_back t.is_status_entry (n / 32768 % 2) (omega arith) in
      let p₂ : eqb (n / 16384 % 2) 1 ≡ t.send_to_queue = bit_back t.send_to_queue (n / 16384 % 2) (omega arith) in
      let p₃ : get_or modes (n / 4096 % 4) Terminator ≡ t.mode = mode_back t.mode (n / 4096 % 4) (omega arith) in
      let p₄ : n % 4096 ≡ t.profile = omega arith in
      λ i. record { is_status_entry = p₁ i; send_to_queue = p₂ i; mode = p₃ i; profile = p₄ i }

-- the upper four bits by themselves, since `omega` can't take all sixteen at once
upper : (n : ℕ) → n < 16 → n / 8 % 2 * 8 + n / 4 % 2 * 4 + n % 4 ≡ n
upper n h = omega arith

sixteen :
    (a b c p m n : ℕ) →
    a * 8 + b * 4 + c ≡ m →
    n ≡ m * 4096 + p →
    p < 4096 →
    a * 32768 + b * 16384 + c * 4096 + p % 4096 ≡ n
sixteen a b c p m n u e h = omega arith

pub type_read : (n : ℕ) → n < 65536 → type_number (type_of n) ≡ n
unfolding type_of type_number mode_of
type_read n h =
    let m : ℕ = n / 4096 in
    let s : n / 32768 ≡ m / 8 = omega arith in
    let q : n / 16384 ≡ m / 4 = omega arith in
    rw (s, q, bit_of (m / 8 % 2) (omega arith), bit_of (m / 4 % 2) (omega arith), mode_of_lem (m % 4) (omega arith))
    (sixteen (m / 8 % 2) (m / 4 % 2) (m % 4) (n % 4096) m n (upper m (omega arith)) (omega arith) (omega arith))

pub entry_eq :
    {a b : ErrorEntry} →
    a.entry_type ≡ b.entry_type →
    a.error_code ≡ b.error_code →
    a.timestamp.seconds ≡ b.timestamp.seconds →
    a.timestamp.nanoseconds ≡ b.timestamp.nanoseconds →
    a.additional_information ≡ b.additional_information →
    a ≡ b
entry_eq p q r s t =
    λ i. record { entry_type = p i; error_code = q i; timestamp = record { seconds = r i; nanoseconds = s i }; additional_information = t i }

pub entry_long : (e : ErrorEntry) → length (entry_bytes e) ≡ 20
unfolding entry_bytes
entry_long e = refl

-- an entry that fits is read from its bytes
pub entry_written : (e : ErrorEntry) (t : List ℕ) → FitsBytes e → entry_in (entry_bytes e ++ t) ≡ e
unfolding entry_in entry_bytes
entry_written e t f =
    let b₅ : List ℕ = bytes_of 8 e.additional_information ++ t in
    let b₄ : List ℕ = bytes_of 4 e.timestamp.nanoseconds ++ b₅ in
    let b₃ : List ℕ = bytes_of 4 e.timestamp.seconds ++ b₄ in
    let b₂ : List ℕ = bytes_of 2 e.error_code ++ b₃ in
    entry_eq
    (ap type_of (number_written 2 (type_number e.entry_type) b₂ (type_below e.entry_type)) ∙ type_written e.entry_type f.profile)
    (number_written 2 e.error_code b₃ f.code)
    (number_written 4 e.timestamp.seconds b₄ f.seconds)
    (number_written 4 e.timestamp.nanoseconds b₅ f.nanoseconds)
    (number_written 8 e.additional_information t f.information)

-- the bytes that an entry is read from are its bytes, whatever they are
module _ (s : List ℕ) (h : Bytes s) where
  pub later : (at : ℕ) → Bytes (drop at s)
  later at i = rw get_or-drop (h (at + i))

  pub entry_in_fits : FitsBytes (entry_in s)
  unfolding entry_in type_of
  entry_in_fits =
      record {
        profile = omega arith;
        code = number_below 2 (drop 2 s) (later 2);
        seconds = number_below 4 (drop 4 s) (later 4);
        nanoseconds = number_below 4 (drop 8 s) (later 8);
        information = number_below 8 (drop 12 s) (later 12);
      }

  run : (at k n : ℕ) → take k (drop at s) ++ take n (drop (at + k) s) ≡ take (k + n) (drop at s)
  run at k n = rw (← drop-drop k at s) (sym (take-add k n (drop at s)))

  whole :
      (b₁ b₂ b₃ b₄ b₅ : List ℕ) →
      b₁ ≡ take 2 s →
      b₂ ≡ take 2 (drop 2 s) →
      b₃ ≡ take 4 (drop 4 s) →
      b₄ ≡ take 4 (drop 8 s) →
      b₅ ≡ take 8 (drop 12 s) →
      b₁ ++ (b₂ ++ (b₃ ++ (b₄ ++ b₅))) ≡ take 20 s
  whole b₁ b₂ b₃ b₄ b₅ h₁ h₂ h₃ h₄ h₅ =
      rw (h₁, h₂, h₃, h₄, h₅, run 8 4 8, run 4 4 12, run 2 2 16) (run 0 2 18)

  module _ (long : 20 ≤ length s) where
    part : (at k : ℕ) → at + k ≤ 20 → bytes_of k (number_in k (drop at s)) ≡ take k (drop at s)
    part at k r = number_read k (drop at s) (rw length-drop (omega arith)) (later at)

    pub entry_read : entry_bytes (entry_in s) ≡ take 20 s
    unfolding entry_in entry_bytes
    entry_read =
        whole
        (bytes_of 2 (type_number (type_of (number_in 2 s))))
        (bytes_of 2 (number_in 2 (drop 2 s)))
        (bytes_of 4 (number_in 4 (drop 4 s)))
        (bytes_of 4 (number_in 4 (drop 8 s)))
        (bytes_of 8 (number_in 8 (drop 12 s)))
        (ap (bytes_of 2) (type_read (number_in 2 s) (number_below 2 s h)) ∙ part 0 2 (omega arith))
        (part 2 2 (omega arith))
        (part 4 4 (omega arith))
        (part 8 4 (omega arith))
        (part 12 8 (omega arith))

-- an entry at a place of a run of bytes
module _ (s : List ℕ) (at : ℕ) (fits : at + 20 ≤ length s) where
  -- what was written there is read there
  pub read_back : (e : ErrorEntry) → FitsBytes e → entry_in (drop at (written s at (entry_bytes e))) ≡ e
  read_back e f =
      rw (written_there s at (entry_bytes e) (omega (arith, entry_long e))) (entry_written e _ f)

  -- what was read there, written there again, changes nothing
  pub write_back : Bytes s → written s at (entry_bytes (entry_in (drop at s))) ≡ s
  write_back h =
      let long : 20 ≤ length (drop at s) = rw length-drop (omega arith) in
      let e = entry_read (drop at s) (later s h at) long in
      written_same s at (entry_bytes (entry_in (drop at s))) (rw (entry_long (entry_in (drop at s))) e)

-- an entry hangs on its own 20 bytes only
pub entry_same : (p s t : List ℕ) → 20 ≤ length p → entry_in (p ++ s) ≡ entry_in (p ++ t)
unfolding entry_in
entry_same p s t h =
    entry_eq
    (ap type_of (number_same 2 0 p s t (omega arith)))
    (number_same 2 2 p s t (omega arith))
    (number_same 4 4 p s t (omega arith))
    (number_same 4 8 p s t (omega arith))
    (number_same 8 12 p s t (omega arith))

-- the entry of a crossing fits
code_below : (e : DllError) → error_code e < 65536
code_below LossOfLink = omega arith
code_below BadPhysicalMode = omega arith
code_below MacBuffer = omega arith
code_below Crc = omega arith
code_below Collision = omega arith
code_below InvalidFormat = omega arith
code_below LossOfSoc = omega arith
code_below LossOfSoa = omega arith
code_below LossOfPreq = omega arith
code_below (LossOfPres n) = omega arith
code_below (LossOfStatusRes n) = omega arith
code_below CycleTimeExceeded = omega arith
code_below (LatePres n) = omega arith
code_below SoCJitter = omega arith
code_below MsWaitSoc = omega arith
code_below MultipleMn = omega arith
code_below AddressConflict = omega arith
code_below MevAsndTimeout = omega arith
code_below (UnexpectedEventInState s e) = omega arith
code_below (PdoMapVersion n) = omega arith
code_below (PdoPayloadShort n) = omega arith
code_below (HeartbeatTimeout n) = omega arith

pub crossing_fits : (e : DllError) (t : ℕ) → FitsBytes (crossing_entry e t)
unfolding crossing_entry
crossing_fits e t =
    record { profile = omega arith; code = code_below e; seconds = omega arith; nanoseconds = omega arith; information = omega arith }

-- the entry of a crossing, 0x8245 at 0 s 12,100,000 ns
pub crossing_bytes :
    entry_bytes (crossing_entry LossOfSoc 12100) ≡
    0x02 ∷ 0x70 ∷ 0x45 ∷ 0x82 ∷ 0 ∷ 0 ∷ 0 ∷ 0 ∷ 0xA0 ∷ 0xA1 ∷ 0xB8 ∷ 0 ∷ 0 ∷ 0 ∷ 0 ∷ 0 ∷ 0 ∷ 0 ∷ 0 ∷ 0 ∷ []
unfolding crossing_entry entry_bytes type_number
crossing_bytes = refl
