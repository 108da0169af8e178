-- Laws of bytes written at a place.
-- Assumes nothing.
use Prim.Native.Nat.{ℕ, ◌+◌, ◌-◌, ◌≤◌, ◌<◌}
use mathlib.Core.Path.{◌≡◌, refl, sym, ap, ◌∙◌}
use mathlib.Core.List.{List, [], ◌++◌, append-nil, append_assoc}
use native.Mathlib.Omega.{arith}
use lib.ListN.{length, get_or, take, drop, length-append, length-drop, take-append-drop, drop_of_length-le}
use lib.Seq.{drop-drop, take_all, length-take-le, take_at, drop_at, get_or-take, get_or-drop}
use borrow.Rule.Slice.PartMut.{put_mid}
use Rattle.entries.specs.Ring.{written}

module _ (s : List ℕ) (at : ℕ) (b : List ℕ) (fits : at + length b ≤ length s) where
  head_long : length (take at s) ≡ at
  head_long = length-take-le at s (omega arith)

  -- what was written stands at its place
  pub written_there : drop at (written s at b) ≡ b ++ drop (at + length b) s
  unfolding written
  written_there = drop_at (take at s) (b ++ drop (at + length b) s) at head_long

  -- the bytes before it and behind it are as they were, and as many
  pub kept_before : take at (written s at b) ≡ take at s
  unfolding written
  kept_before = take_at (take at s) (b ++ drop (at + length b) s) at head_long

  pub kept_behind : drop (at + length b) (written s at b) ≡ drop (at + length b) s
  kept_behind =
      sym (drop-drop (length b) at (written s at b))
      ∙ rw written_there (drop_at b (drop (at + length b) s) (length b) refl)

  pub written_long : length (written s at b) ≡ length s
  unfolding written
  written_long = simp (length-append, length-drop, head_long) (omega arith)

  -- byte by byte
  pub byte_before : (k : ℕ) → k < at → get_or (written s at b) k 0 ≡ get_or s k 0
  byte_before k h =
      sym (get_or-take at (written s at b) k 0 h) ∙ ap (λ (l : List ℕ). get_or l k 0) kept_before ∙ get_or-take at s k 0 h

  pub byte_behind : (k : ℕ) → at + length b ≤ k → get_or (written s at b) k 0 ≡ get_or s k 0
  byte_behind k h =
      let n : ℕ = k - (at + length b) in
      let far : at + length b + n ≡ k = omega arith in
      let d : (l : List ℕ) → get_or (drop (at + length b) l) n 0 ≡ get_or l k 0 =
      λ l. get_or-drop (at + length b) l n 0 ∙ ap (λ (i : ℕ). get_or l i 0) far in
      sym (d (written s at b)) ∙ ap (λ (l : List ℕ). get_or l n 0) kept_behind ∙ d s

-- what stands at a place, written there again
pub written_same : (s : List ℕ) (at : ℕ) (b : List ℕ) → b ≡ take (length b) (drop at s) → written s at b ≡ s
unfolding written
written_same s at b h =
    rw (← drop-drop (length b) at s)
    (ap (λ (l : List ℕ). take at s ++ (l ++ drop (length b) (drop at s))) h
    ∙ ap (λ (l : List ℕ). take at s ++ l) (take-append-drop (length b) (drop at s))
    ∙ take-append-drop at s)

-- what a part as long as the bytes, lent from a place on, leaves where it came back as they are
pub bytes_put :
    (at n : ℕ) (s ys b : List ℕ) → ys ≡ b → length b ≡ n → put_mid at (at + n - at) s ys ≡ written s at b
unfolding written
bytes_put at n s ys b e long =
    let k : at + n - at ≡ n = omega arith in
    rw (k, e, long, drop-drop n at s)

-- one run behind another, with which the first n bytes were written
pub written_next :
    (s t t' p b : List ℕ) (n k : ℕ) →
    length p ≡ n →
    length b ≡ k →
    t ≡ p ++ drop n s →
    t' ≡ written t n b →
    t' ≡ (p ++ b) ++ drop (n + k) s
unfolding written
written_next s t t' p b n k lp lb e w =
    let d : drop (n + k) (p ++ drop n s) ≡ drop (n + k) s =
    sym (drop-drop k n (p ++ drop n s)) ∙ rw (drop_at p (drop n s) n lp) (drop-drop k n s) in
    w ∙ rw (e, lb, take_at p (drop n s) n lp, d) (sym (append_assoc p b (drop (n + k) s)))

-- what a part that was lent from a place to the end leaves, where its first bytes were written
pub part_back :
    (l : List ℕ) (at n : ℕ) (ys b : List ℕ) →
    length b ≡ n →
    at + n ≤ length l →
    ys ≡ b ++ drop n (take (length l - at) (drop at l)) →
    put_mid at (length l - at) l ys ≡ written l at b
unfolding written
part_back l at n ys b long fits p =
    let r : length (drop at l) ≡ length l - at = length-drop at l in
    let whole : take (length l - at) (drop at l) ≡ drop at l = take_all (length l - at) (drop at l) (omega arith) in
    let none : drop (length l - at) (drop at l) ≡ [] = drop_of_length-le (drop at l) {i = length l - at} (omega arith) in
    rw (none, append-nil ys, p, whole, drop-drop n at l, long)
