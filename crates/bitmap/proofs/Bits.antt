-- Numbers by their bits, lowest first: a bit read, a bit set, the bits counted.
-- Assumes nothing.
use Prim.Native.Nat.{ℕ, zero, suc, ◌+◌, ◌*◌, ◌/◌, ◌%◌, ◌^◌, ◌<◌, max}
use mathlib.Core.Path.{◌≡◌, refl, sym, ap, ap₂, ◌∙◌}
use mathlib.Core.Bool.{Bool, true, false}
use mathlib.Core.List.{List, [], ◌∷◌}
use native.Mathlib.Nat.{pow-suc, pow-succ', div-div-eq-div-mul, div-one}
use native.Mathlib.Omega.{arith}
use lib.Bits.{bit_or, or_step, or_zero_r}
use lib.Count.{ones, ones_step}
use lib.Dec.{eqb}
use lib.ListN.{length, get_or, set}
use Rattle.std.proofs.lemmas.List.Sums.{sum_by-cons}
use Rattle.types.specs.Pick.{pick}
use Rattle.bitmap.specs.Bitmap.{lowest_first, is_set, ones_of}

-- the lowest bit, and the others
module _ (b : Bool) (m : ℕ) where
  half : (pick b 1 0 + 2 * m) / 2 ≡ m
  half = by b
    where
      by : (b : Bool) → (pick b 1 0 + 2 * m) / 2 ≡ m
      by true = omega arith
      by false = omega arith

  odd : (pick b 1 0 + 2 * m) % 2 ≡ pick b 1 0
  odd = by b
    where
      by : (b : Bool) → (pick b 1 0 + 2 * m) % 2 ≡ pick b 1 0
      by true = omega arith
      by false = omega arith

-- bit j of the number is the j-th of the bits
pub bit_at : (bs : List Bool) (j : ℕ) → j < length bs → lowest_first bs / 2 ^ j % 2 ≡ pick (get_or bs j false) 1 0
bit_at [] j h = absurd (omega arith)
bit_at (b ∷ bs) zero h = ap (λ (n : ℕ). n % 2) (div-one (pick b 1 0 + 2 * lowest_first bs)) ∙ odd b (lowest_first bs)
bit_at (b ∷ bs) (suc j) h =
    ap (λ (n : ℕ). n % 2)
    (ap (λ (d : ℕ). (pick b 1 0 + 2 * lowest_first bs) / d) (pow-succ' 2 j)
    ∙ sym (div-div-eq-div-mul (pick b 1 0 + 2 * lowest_first bs) 2 (2 ^ j))
    ∙ ap (λ (n : ℕ). n / 2 ^ j) (half b (lowest_first bs)))
    ∙ bit_at bs j (omega arith)

pub set_at_bit : (bs : List Bool) (j : ℕ) → j < length bs → is_set (lowest_first bs) j ≡ get_or bs j false
set_at_bit bs j h = ap (λ (n : ℕ). eqb n 1) (bit_at bs j h) ∙ by (get_or bs j false)
  where
    by : (b : Bool) → eqb (pick b 1 0) 1 ≡ b
    by true = refl
    by false = refl

-- with the j-th power of two by `|`, bit j is set
pub bit_set : (bs : List Bool) (j : ℕ) → j < length bs → bit_or (lowest_first bs) (2 ^ j) ≡ lowest_first (set bs j true)
bit_set [] j h = absurd (omega arith)
bit_set (b ∷ bs) zero h =
    or_step (pick b 1 0 + 2 * lowest_first bs) 1
    ∙ ap₂ (λ (m n : ℕ). bit_or m 0 * 2 + max n 1) (half b (lowest_first bs)) (odd b (lowest_first bs))
    ∙ ap (λ (m : ℕ). m * 2 + max (pick b 1 0) 1) (or_zero_r (lowest_first bs))
    ∙ by b
  where
    by : (b : Bool) → lowest_first bs * 2 + max (pick b 1 0) 1 ≡ 1 + 2 * lowest_first bs
    by true = omega arith
    by false = omega arith
bit_set (b ∷ bs) (suc j) h =
    let e : 2 ^ suc j ≡ 2 ^ j * 2 = pow-suc 2 j in
    let d : 2 ^ suc j / 2 ≡ 2 ^ j = omega arith in
    let m : 2 ^ suc j % 2 ≡ 0 = omega arith in
    let n : ℕ = lowest_first (set bs j true) in
    or_step (pick b 1 0 + 2 * lowest_first bs) (2 ^ suc j)
    ∙ ap₂ (λ (x y : ℕ). bit_or x y * 2 + max ((pick b 1 0 + 2 * lowest_first bs) % 2) (2 ^ suc j % 2)) (half b (lowest_first bs)) d
    ∙ ap₂ (λ (x y : ℕ). bit_or (lowest_first bs) (2 ^ j) * 2 + max x y) (odd b (lowest_first bs)) m
    ∙ ap (λ (x : ℕ). x * 2 + max (pick b 1 0) 0) (bit_set bs j (omega arith))
    ∙ by b n
  where
    by : (b : Bool) (n : ℕ) → n * 2 + max (pick b 1 0) 0 ≡ pick b 1 0 + 2 * n
    by true n = omega arith
    by false n = omega arith

-- the bits counted: one more where a bit is set that was not
ones_bits : (b : Bool) (m : ℕ) → ones (pick b 1 0 + 2 * m) ≡ pick b 1 0 + ones m
ones_bits b m = ones_step (pick b 1 0 + 2 * m) ∙ ap₂ (λ (x y : ℕ). x + ones y) (odd b m) (half b m)

pub one_more_lem :
    (bs : List Bool) (j : ℕ) →
    j < length bs →
    get_or bs j false ≡ false →
    ones (lowest_first (set bs j true)) ≡ suc (ones (lowest_first bs))
one_more_lem [] j h e = absurd (omega arith)
one_more_lem (b ∷ bs) zero h e =
    let on = ones_bits true (lowest_first bs) in
    let off = ones_bits false (lowest_first bs) in
    rw e (omega arith)
one_more_lem (b ∷ bs) (suc j) h e =
    let more = one_more_lem bs j (omega arith) e in
    let before = ones_bits b (lowest_first bs) in
    ones_bits b (lowest_first (set bs j true)) ∙ omega arith

-- over bytes
pub ones_more :
    (s : List ℕ) (i x : ℕ) → i < length s → ones x ≡ suc (ones (get_or s i 0)) → ones_of (set s i x) ≡ suc (ones_of s)
ones_more [] i x h e = absurd (omega arith)
ones_more (b ∷ bs) zero x h e = sum_by-cons ones x bs ∙ omega (arith, e, sum_by-cons ones b bs)
ones_more (b ∷ bs) (suc i) x h e =
    sum_by-cons ones b (set bs i x) ∙ omega (arith, ones_more bs i x (omega arith) e, sum_by-cons ones b bs)
