-- A number of the page is spelled by its fewest digits: that is what the library's `decimal`, which
-- the page's definition cites, says.
-- Assumes nothing.
use Rattle.std.proofs.Common.{◌≡◌, ℕ, zero, suc, ◌+◌, ◌-◌, ◌*◌, ◌/◌, ◌%◌, ◌^◌, ◌<◌, ◌≤◌, Bool, true, false, ltb, List, [], ◌∷◌, ◌++◌, sym, refl, ◌∙◌, append_assoc, append-nil, pow-suc, arith, lt-ltb, ltb-true, ltb-false, eq-eqb, ne_eqb}
use native.Mathlib.Nat.{pow-le-pow_right, one-le-pow}
use Rattle.std.specs.Fmt.{decimal, digits, digits_onto}
use Rattle.shift.specs.Digits.{last_digits, IsDigitCount}

-- a number spelled by its fewest digits, before what stands behind it
spelled : (most k n : ℕ) (end : List ℕ) → k ≤ most → IsDigitCount n k → digits_onto most 10 false n end ≡ last_digits k n ++ end
spelled zero k n end h f = absurd (omega (arith, f.0))
spelled (suc most) zero n end h f = absurd (omega (arith, f.0))
spelled (suc most) (suc zero) n end h f =
    let small : n < 10 = f.1 in
    let none : n / 10 ≡ 0 = omega arith in
    let low : n % 10 ≡ n = omega arith in
    rw (eq-eqb (n / 10) 0 none, low, lt-ltb n 10 small)
spelled (suc most) (suc (suc j)) n end h f =
    let top : n < 10 ^ suc j * 10 = rw (pow-suc 10 (suc j)) at f.1 in
    let less_one : suc (suc j) - 1 ≡ suc j = omega arith in
    let big : 10 ^ suc j ≤ n = rw less_one at (f.2 (omega arith)) in
    let big' : 10 ^ j * 10 ≤ n = rw (pow-suc 10 j) at big in
    let some : 1 ≤ 10 ^ j = one-le-pow j 10 (omega arith) in
    let more : n / 10 ≡ 0 → ⊥ = λ e. omega (arith, e) in
    let digit : n % 10 < 10 = omega arith in
    rw (ne_eqb (n / 10) 0 more, lt-ltb (n % 10) 10 digit)
    (spelled most (suc j) (n / 10) ((48 + n % 10) ∷ end) (omega arith) (omega arith, omega arith, λ lt. lower j lt big')
    ∙ sym (append_assoc (last_digits (suc j) (n / 10)) ((48 + n % 10) ∷ []) end))
  where
    lower : (j : ℕ) → 1 < suc j → 10 ^ j * 10 ≤ n → 10 ^ (suc j - 1) ≤ n / 10
    lower j lt h = let same : suc j - 1 ≡ j = omega arith in rw same (omega arith)

-- a number of 64 bits has at most 20
pub few_digits : (k n : ℕ) → n < 18446744073709551616 → IsDigitCount n k → k ≤ 20
few_digits k n h f = by (ltb 20 k) refl
  where
    by : (b : Bool) → ltb 20 k ≡ b → k ≤ 20
    by true q =
        let many : 20 < k = ltb-true 20 k q in
        let most : 10 ^ 20 ≤ 10 ^ (k - 1) = pow-le-pow_right {n = 10} (omega arith) {i = 20} {j = k - 1} (omega arith) in
        let big : 10 ^ (k - 1) ≤ n = f.2 (omega arith) in
        absurd (omega arith)
    by false q = ltb-false 20 k q

pub decimal_spelled : (k n : ℕ) → n < 18446744073709551616 → IsDigitCount n k → last_digits k n ≡ decimal n
unfolding digits
decimal_spelled k n h f =
    sym (spelled 64 k n [] (omega (arith, few_digits k n h f)) f ∙ append-nil (last_digits k n))
