-- Parts: an input that arrives in parts, whatever their sizes, is counted as the whole.
-- Assumes nothing.
use Rattle.std.proofs.Common.{◌≡◌, ℕ, zero, suc, ◌+◌, ◌*◌, ◌/◌, ◌%◌, ◌≤◌, List, [], ◌∷◌, ◌++◌, length, take, drop, sym, refl, ap, ◌∙◌, append_assoc, append-nil, arith, length-append, length-drop, take-append-drop, length-take-le, drop-drop, drop_at}
use native.Mathlib.Nat.{mod-add-mod}
use lib.Seq.{drop-append-le}
use Rattle.entries.specs.declared.status_response.ErrorEntry.{ErrorEntry}
use Rattle.entries.specs.Entry.{entry_in}
use Rattle.entries.proofs.Entries.{entry_same}
use Rattle.shift.specs.Report.{codes_in}
use Rattle.shift.specs.Feed.{Kept, keeping, counted, counted_all, behind_whole, absorbed, fed, fed_all, one_run, no_counts, at_start}
use Rattle.shift.proofs.Codes.{codes_none, codes_front}

-- whole entries, and what is behind them
pub codes_append : (q : ℕ) (w t : List ℕ) → length w ≡ 20 * q → codes_in (w ++ t) ≡ codes_in w ++ codes_in t
codes_append zero [] t h = ap (λ (l : List ℕ). l ++ codes_in t) (sym (codes_none [] (omega arith)))
codes_append zero (b ∷ w) t h = absurd (omega arith)
codes_append (suc q) w t h =
    let long : 20 ≤ length w = omega arith in
    let longer : 20 ≤ length (w ++ t) = simp length-append (omega arith) in
    let rest : length (drop 20 w) ≡ 20 * q = simp length-drop (omega arith) in
    let same : entry_in (w ++ t) ≡ entry_in w =
    entry_same w t [] long ∙ ap entry_in (append-nil w) in
    codes_front (w ++ t) longer
    ∙ (ap (λ (e : ErrorEntry). e.error_code ∷ codes_in (drop 20 (w ++ t))) same
    ∙ (ap (λ (l : List ℕ). (entry_in w).error_code ∷ codes_in l) (drop-append-le 20 w t long)
    ∙ (ap (λ (l : List ℕ). (entry_in w).error_code ∷ l) (codes_append q (drop 20 w) t rest)
    ∙ ap (λ (l : List ℕ). l ++ codes_in t) (sym (codes_front w long)))))

module _ (s : List ℕ) where
  abbrev whole : List ℕ
  whole = take (20 * (length s / 20)) s

  whole_long : length whole ≡ 20 * (length s / 20)
  whole_long = length-take-le (20 * (length s / 20)) s (omega arith)

  split : whole ++ behind_whole s ≡ s
  unfolding behind_whole
  split = take-append-drop (20 * (length s / 20)) s

  pub behind_long : length (behind_whole s) ≡ length s % 20
  unfolding behind_whole
  behind_long = simp length-drop (omega arith)

  codes_whole : codes_in whole ≡ codes_in s
  codes_whole =
      sym (append-nil (codes_in whole))
      ∙ (ap (λ (l : List ℕ). codes_in whole ++ l) (sym (codes_none (behind_whole s) (omega (arith, behind_long))))
      ∙ (sym (codes_append (length s / 20) whole (behind_whole s) whole_long) ∙ ap codes_in split))

  -- what is counted of a run and of what comes behind it
  module _ (p : List ℕ) where
    joined_up : s ++ p ≡ whole ++ (behind_whole s ++ p)
    joined_up = ap (λ (l : List ℕ). l ++ p) (sym split) ∙ append_assoc whole (behind_whole s) p

    codes_more : codes_in (s ++ p) ≡ codes_in s ++ codes_in (behind_whole s ++ p)
    codes_more =
        ap codes_in joined_up
        ∙ (codes_append (length s / 20) whole (behind_whole s ++ p) whole_long
        ∙ ap (λ (l : List ℕ). l ++ codes_in (behind_whole s ++ p)) codes_whole)

    length_more : length (s ++ p) ≡ 20 * (length s / 20) + length (behind_whole s ++ p)
    length_more = ap length joined_up ∙ (length-append whole (behind_whole s ++ p) ∙ rw whole_long)

    entries_more : length (s ++ p) / 20 ≡ length s / 20 + length (behind_whole s ++ p) / 20
    entries_more = omega (arith, length_more)

    behind_more : behind_whole (s ++ p) ≡ behind_whole (behind_whole s ++ p)
    unfolding behind_whole
    behind_more =
        let a : ℕ = length s / 20 in
        let t : List ℕ = behind_whole s ++ p in
        let k : ℕ = length t / 20 in
        let places : 20 * (a + k) ≡ 20 * a + 20 * k = omega arith in
        ap (λ (n : ℕ). drop (20 * n) (s ++ p)) entries_more
        ∙ (ap (λ (l : List ℕ). drop (20 * (a + k)) l) joined_up
        ∙ (ap (λ (n : ℕ). drop n (whole ++ t)) places
        ∙ (sym (drop-drop (20 * k) (20 * a) (whole ++ t))
        ∙ ap (λ (l : List ℕ). drop (20 * k) l) (drop_at whole t (20 * a) whole_long))))

-- one after another
counted_append : (cs xs ys : List ℕ) → counted_all cs (xs ++ ys) ≡ counted_all (counted_all cs xs) ys
unfolding counted_all
counted_append cs [] ys = refl
counted_append cs (x ∷ xs) ys = counted_append (counted cs x) xs ys

module _ (n : ℕ) (cs : List ℕ) where
  -- a part behind a run that was counted
  fed_absorbed : (s p : List ℕ) → fed (absorbed n cs s) p ≡ absorbed n cs (s ++ p)
  unfolding absorbed
  fed_absorbed s p =
      let t : List ℕ = behind_whole s ++ p in
      rw (entries_more s p, codes_more s p, behind_more s p, counted_append cs (codes_in s) (codes_in t))
      (ap (λ (m : ℕ). keeping m (counted_all (counted_all cs (codes_in s)) (codes_in t)) (behind_whole t))
      (mod-add-mod (n + length s / 20) 18446744073709551616 (length t / 20) ∙ ap (λ (m : ℕ). m % 18446744073709551616) (omega arith)))

  fed_more : (s : List ℕ) (ps : List (List ℕ)) → fed_all (absorbed n cs s) ps ≡ absorbed n cs (s ++ one_run ps)
  unfolding fed_all one_run
  fed_more s [] = ap (absorbed n cs) (sym (append-nil s))
  fed_more s (p ∷ ps) =
      ap (λ (k : Kept). fed_all k ps) (fed_absorbed s p)
      ∙ (fed_more (s ++ p) ps ∙ ap (absorbed n cs) (append_assoc s p (one_run ps)))

starts : at_start ≡ absorbed 0 no_counts []
unfolding absorbed behind_whole counted_all
starts = rw (codes_none [] (omega arith))

-- feeding an input in parts, whatever their sizes, empty ones too, leaves what is kept of the parts as one run
pub fed_parts : (ps : List (List ℕ)) → fed_all at_start ps ≡ absorbed 0 no_counts (one_run ps)
fed_parts ps = ap (λ (k : Kept). fed_all k ps) starts ∙ fed_more 0 no_counts [] ps
