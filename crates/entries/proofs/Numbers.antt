-- Laws of a number as its bytes, for any number of bytes.
-- Assumes nothing.
use Prim.Native.Nat.{ℕ, zero, suc, ◌+◌, ◌*◌, ◌/◌, ◌%◌, ◌^◌, ◌≤◌, ◌<◌}
use mathlib.Core.Path.{◌≡◌, refl}
use mathlib.Core.List.{List, [], ◌∷◌, ◌++◌}
use native.Mathlib.Nat.{pow-suc, pow-succ', mul_assoc, div-div-eq-div-mul}
use native.Mathlib.Numerals.{add-one}
use native.Mathlib.Omega.{arith}
use lib.ListN.{length, get_or, take, drop, length-drop}
use lib.Seq.{drop-cons, drop-append-le, get_or-take}
use Rattle.std.specs.List.{slice_index}
use Rattle.std.specs.Int.{w16, w32, w64, from_le_bytes, to_le_bytes}
use Rattle.entries.specs.Entry.{bytes_of, number_in, Bytes}

-- a number that fits its bytes is read from them
pub number_written : (k n : ℕ) (t : List ℕ) → n < 256 ^ k → number_in k (bytes_of k n ++ t) ≡ n
unfolding number_in
number_written zero n t f = omega arith
number_written (suc k) n t f =
    let f' : n < 256 ^ k * 256 = rw pow-suc at f in
    let r = number_written k (n / 256) t (omega arith) in
    omega arith

-- bytes that a number is read from are its bytes
pub number_read : (k : ℕ) (s : List ℕ) → k ≤ length s → Bytes s → bytes_of k (number_in k s) ≡ take k s
unfolding number_in
number_read zero s l h = refl
number_read (suc k) [] l h = absurd (omega arith)
number_read (suc k) (b ∷ s) l h =
    let small : b < 256 = h 0 in
    let low : (b + 256 * number_in k s) % 256 ≡ b = omega arith in
    let high : (b + 256 * number_in k s) / 256 ≡ number_in k s = omega arith in
    rw (low, high, number_read k s (omega arith) (λ i. h (suc i)))

-- a number in k bytes is below 256 ^ k
pub number_below : (k : ℕ) (s : List ℕ) → Bytes s → number_in k s < 256 ^ k
unfolding number_in
number_below zero s h = omega arith
number_below (suc k) [] h = let r = number_below k [] h in rw (pow-suc 256 k) (omega arith)
number_below (suc k) (b ∷ s) h =
    let small : b < 256 = h 0 in
    let r = number_below k s (λ i. h (suc i)) in
    rw (pow-suc 256 k) (omega arith)

-- a number hangs on its own bytes only
number_front : (k : ℕ) (p s t : List ℕ) → k ≤ length p → number_in k (p ++ s) ≡ number_in k (p ++ t)
unfolding number_in
number_front zero p s t h = refl
number_front (suc k) [] s t h = absurd (omega arith)
number_front (suc k) (b ∷ p) s t h = rw (number_front k p s t (omega arith))

pub number_same :
    (k at : ℕ) (p s t : List ℕ) → at + k ≤ length p → number_in k (drop at (p ++ s)) ≡ number_in k (drop at (p ++ t))
number_same k at p s t h =
    let n : at ≤ length p = omega arith in
    rw (drop-append-le at p s n, drop-append-le at p t n)
    (number_front k (drop at p) s t (rw length-drop (omega arith)))

-- one byte more, in front
pub number_more :
    (k at : ℕ) (s : List ℕ) →
    at < length s →
    number_in (suc k) (drop at s) ≡ get_or s at 0 + 256 * number_in k (drop (at + 1) s)
unfolding number_in
number_more k at s h = rw (drop-cons s at 0 h, add-one)

-- the number in one byte more, behind
number_last : (k : ℕ) (s : List ℕ) → number_in (suc k) s ≡ number_in k s + 256 ^ k * get_or s k 0
unfolding number_in
number_last zero [] = refl
number_last zero (b ∷ s) = omega arith
number_last (suc k) [] = omega arith
number_last (suc k) (b ∷ s) =
    let r = number_last k s in
    let e : 256 ^ suc k * get_or s k 0 ≡ 256 * (256 ^ k * get_or s k 0) =
    rw (pow-succ', mul_assoc) in
    omega arith

-- the library's numbers of two, four and eight bytes, and their bytes
module _ (s : List ℕ) where
  none : number_in 0 s ≡ 0
  unfolding number_in
  none = refl

  byte : (k i : ℕ) → i < k → slice_index (take k s) i ≡ get_or s i 0
  byte k i h = get_or-take k s i 0 h

  pub number_2 : from_le_bytes w16 (take 2 s) ≡ number_in 2 s
  number_2 =
      let e : slice_index (take 2 s) 0 + slice_index (take 2 s) 1 * 256 ≡ number_in 2 s =
      omega (arith, none, number_last 0 s, number_last 1 s, byte 2 0 (omega arith), byte 2 1 (omega arith)) in
      e

  pub number_4 : from_le_bytes w32 (take 4 s) ≡ number_in 4 s
  number_4 = omega
      (arith, none, number_last 0 s, number_last 1 s, number_last 2 s, number_last 3 s, byte 4 0 (omega arith), byte 4 1 (omega arith), byte 4 2 (omega arith), byte 4 3 (omega arith))

  pub number_8 : from_le_bytes w64 (take 8 s) ≡ number_in 8 s
  number_8 = omega
      (arith, none, number_last 0 s, number_last 1 s, number_last 2 s, number_last 3 s, number_last 4 s, number_last 5 s, number_last 6 s, number_last 7 s, byte 8 0 (omega arith), byte 8 1 (omega arith), byte 8 2 (omega arith), byte 8 3 (omega arith), byte 8 4 (omega arith), byte 8 5 (omega arith), byte 8 6 (omega arith), byte 8 7 (omega arith))

module _ (n : ℕ) where
  pub bytes_2 : to_le_bytes w16 n ≡ bytes_of 2 n
  bytes_2 = refl

  pub bytes_4 : to_le_bytes w32 n ≡ bytes_of 4 n
  bytes_4 = rw (div-div-eq-div-mul n 256 256, div-div-eq-div-mul n 65536 256) refl

  pub bytes_8 : to_le_bytes w64 n ≡ bytes_of 8 n
  bytes_8 =
      rw (div-div-eq-div-mul n 256 256, div-div-eq-div-mul n 65536 256, div-div-eq-div-mul n 16777216 256, div-div-eq-div-mul n 4294967296 256, div-div-eq-div-mul n 1099511627776 256, div-div-eq-div-mul n 281474976710656 256) refl
