-- Filling the pattern, one byte a turn.
-- Assumes nothing.
use Prim.Native.Nat.{ℕ, suc, ◌+◌, ◌-◌, ◌/◌, ◌%◌, ◌≤◌, ◌<◌}
use mathlib.Core.Path.{◌≡◌, subst}
use mathlib.Core.List.{List}
use native.Mathlib.Omega.{arith}
use lib.ListN.{set}
use Rattle.forms.specs.Generator.{drawn}
use Rattle.entry_bytes.specs.Patterns.{last, filled}

-- x and p are what was left after some of the 20 numbers behind x₀
pub record Left (p₀ : List ℕ) (x₀ : ℕ) (p : List ℕ) (x i : ℕ) : Type 0 where
  pub number : last (20 - i) x ≡ last 20 x₀
  pub bytes : filled (20 - i) i x p ≡ filled 20 0 x₀ p₀

pub step : (p₀ p : List ℕ) (x₀ x i y b : ℕ) → i < 20 → y ≡ drawn x → b ≡ drawn x / 65536 % 256 → Left p₀ x₀ p x i → Left p₀ x₀ (set p i b) y (i + 1)
step p₀ p x₀ x i y b h e f l =
    let more : 20 - i ≡ suc (20 - (i + 1)) = omega arith in
    record {
      number = rw e (subst (λ k. last k x ≡ last 20 x₀) more l.number);
      bytes = rw (e, f) (subst (λ k. filled k i x p ≡ filled 20 0 x₀ p₀) more l.bytes);
    }

pub ends : (p₀ p : List ℕ) (x₀ x i : ℕ) → 20 ≤ i → Left p₀ x₀ p x i → (x ≡ last 20 x₀) × (p ≡ filled 20 0 x₀ p₀)
ends p₀ p x₀ x i h l =
    let none : 20 - i ≡ 0 = omega arith in
    (subst (λ k. last k x ≡ last 20 x₀) none l.number, subst (λ k. filled k i x p ≡ filled 20 0 x₀ p₀) none l.bytes)
