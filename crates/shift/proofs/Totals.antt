-- The page of what is kept is the report of the input, its codes ascend, and its total is the sum of its counts.
-- Assumes nothing.
use Rattle.std.proofs.Common.{◌≡◌, ℕ, ◌+◌, ◌-◌, ◌/◌, ◌%◌, ◌<◌, Bool, true, false, eqb, List, [], ◌∷◌, map, length, get_or, set, sym, refl, ap, ◌∙◌, add-zero, arith, length-set, get_or-set_other, get_or-set_same, eqb-true}
use lib.ListN.{length-map, get_or-replicate, length-replicate}
use borrow.Author.Tests.{eqb-false}
use Rattle.types.specs.Pick.{pick}
use Rattle.types.specs.Kinds.{kind_code, kind_behind}
use Rattle.std.specs.List.{AllByRecursion}
use Rattle.entries.specs.Entry.{bit}
use Rattle.entries.specs.Ring.{entry_at}
use Rattle.entries.specs.History.{entries_in}
use Rattle.entries.proofs.Rings.{listed_long}
use Rattle.shift.specs.Report.{codes_in, occurrences, named, named_codes, others_in, code_lines, page, report}
use Rattle.shift.specs.Feed.{counted, counted_all, absorbed, fed_all, at_start, no_counts, one_run, less, printed}
use Rattle.shift.specs.Sums.{sum_of, ascends}
use Rattle.shift.proofs.Named.{in_order, named_map}
use Rattle.shift.proofs.Parts.{fed_parts, behind_long}

-- the whole entries are as many as their codes
pub codes_long : (s : List ℕ) → length (codes_in s) ≡ length s / 20
unfolding codes_in entries_in
codes_long s = simp length-map (listed_long (entry_at s) (length s / 20))

-- the codes ascend
pub codes_ascend : ascends named_codes ≡ true
codes_ascend = ap ascends named_map

-- a count is how often its code occurred, while the codes are fewer than 2^64
count_of :
    (xs cs : List ℕ) (c : ℕ) →
    c < length cs →
    get_or cs c 0 + length xs < 18446744073709551616 →
    get_or (counted_all cs xs) c 0 ≡ get_or cs c 0 + occurrences xs c
unfolding counted_all counted
count_of [] cs c inside few = sym (add-zero (get_or cs c 0))
count_of (x ∷ xs) cs c inside few = by (eqb c x) refl (count_of xs cs' c)
  where
    cs' : List ℕ
    cs' = set cs x ((get_or cs x 0 + 1) % 18446744073709551616)

    by :
        (b : Bool) →
        eqb c x ≡ b →
        (c < length cs' → get_or cs' c 0 + length xs < 18446744073709551616 → get_or (counted_all cs' xs) c 0 ≡ get_or cs' c 0 + occurrences xs c) →
        get_or (counted_all cs' xs) c 0 ≡ get_or cs c 0 + (bit b + occurrences xs c)
    by true t later =
        let same : c ≡ x = eqb-true c x t in
        let more : get_or cs' c 0 ≡ get_or cs c 0 + 1 =
        rw (← same) (get_or-set_same cs c ((get_or cs c 0 + 1) % 18446744073709551616) 0 inside ∙ omega arith) in
        later (simp length-set inside) (omega arith) ∙ omega arith
    by false t later =
        let kept-as-it-was : get_or cs' c 0 ≡ get_or cs c 0 = get_or-set_other cs x c ((get_or cs x 0 + 1) % 18446744073709551616) 0 (eqb-false c x t) in
        later (simp length-set inside) (omega arith) ∙ omega arith

-- a number is one of some, or apart from all of them
abbrev Apart : List ℕ → ℕ → Type 0
Apart cs x = AllByRecursion (λ c. eqb c x ≡ false) cs

cases : (P : ℕ → Type 0) (cs : List ℕ) → AllByRecursion P cs → (x : ℕ) → (Apart cs x → P x) → P x
cases P [] e x h = h tt
cases P (c ∷ cs) e x h = by (eqb c x) refl (cases P cs e.1 x)
  where
    by : (b : Bool) → eqb c x ≡ b → ((Apart cs x → P x) → P x) → P x
    by true t later = rw (eqb-true c x t) at e.0
    by false t later = later (λ a. h (t, a))

-- a code has one line of its own, or is an other
once : (x : ℕ) → sum_of (λ c. bit (eqb c x)) named_codes + pick (named x) 0 1 ≡ 1
unfolding named_codes kind_behind
once x =
    cases (λ (y : ℕ). sum_of (λ c. bit (eqb c y)) named_codes + pick (named y) 0 1 ≡ 1) (0x8000 ∷ map kind_code in_order)
    (refl, (refl, (refl, (refl, (refl, (refl, (refl, (refl, (refl, (refl, (refl, (refl, (refl, (refl, (refl, (refl, (refl, (refl, tt))))))))))))))))))
    x
    (λ a. rw (a.0, a.1.0, a.1.1.0, a.1.1.1.0, a.1.1.1.1.0, a.1.1.1.1.1.0, a.1.1.1.1.1.1.0, a.1.1.1.1.1.1.1.0, a.1.1.1.1.1.1.1.1.0, a.1.1.1.1.1.1.1.1.1.0, a.1.1.1.1.1.1.1.1.1.1.0, a.1.1.1.1.1.1.1.1.1.1.1.0, a.1.1.1.1.1.1.1.1.1.1.1.1.0, a.1.1.1.1.1.1.1.1.1.1.1.1.1.0, a.1.1.1.1.1.1.1.1.1.1.1.1.1.1.0, a.1.1.1.1.1.1.1.1.1.1.1.1.1.1.1.0, a.1.1.1.1.1.1.1.1.1.1.1.1.1.1.1.1.0, a.1.1.1.1.1.1.1.1.1.1.1.1.1.1.1.1.1.0))

sum_add : (f g : ℕ → ℕ) (cs : List ℕ) → sum_of (λ c. f c + g c) cs ≡ sum_of f cs + sum_of g cs
sum_add f g [] = refl
sum_add f g (c ∷ cs) = let r = sum_add f g cs in omega arith

sum_none : (cs : List ℕ) → sum_of (λ c. 0) cs ≡ 0
sum_none [] = refl
sum_none (c ∷ cs) = let r = sum_none cs in omega arith

-- the total is the sum of the counts that are printed
pub total_sum : (xs : List ℕ) → sum_of (occurrences xs) named_codes + others_in xs ≡ length xs
total_sum [] = ap (λ (n : ℕ). n + 0) (sum_none named_codes)
total_sum (x ∷ xs) =
    let r = total_sum xs in
    let one = once x in
    let both = sum_add (λ c. bit (eqb c x)) (occurrences xs) named_codes in
    omega arith

-- what is left over when each count is taken away
less_sum : (f : ℕ → ℕ) (o : ℕ) (cs : List ℕ) → less f (sum_of f cs + o) cs ≡ o
less_sum f o [] = omega arith
less_sum f o (c ∷ cs) =
    let rest : f c + sum_of f cs + o - f c ≡ sum_of f cs + o = omega arith in
    rw rest (less_sum f o cs)

-- two counts that agree on some codes
lines_same : (f g : ℕ → ℕ) (cs : List ℕ) → AllByRecursion (λ c. f c ≡ g c) cs → code_lines f cs ≡ code_lines g cs
unfolding code_lines
lines_same f g [] e = refl
lines_same f g (c ∷ cs) e = rw (e.0, lines_same f g cs e.1)

less_same : (f g : ℕ → ℕ) (n : ℕ) (cs : List ℕ) → AllByRecursion (λ c. f c ≡ g c) cs → less f n cs ≡ less g n cs
less_same f g n [] e = refl
less_same f g n (c ∷ cs) e = rw e.0 (less_same f g (n - g c) cs e.1)

page_same : (f g : ℕ → ℕ) (n o l : ℕ) → AllByRecursion (λ c. f c ≡ g c) named_codes → page n f o l ≡ page n g o l
unfolding page
page_same f g n o l e = rw (lines_same f g named_codes e)

-- each code that names a kind has a count
each_below : (P : ℕ → Type 0) (cs : List ℕ) → AllByRecursion (λ c. c < 65536) cs → ((c : ℕ) → c < 65536 → P c) → AllByRecursion P cs
each_below P [] e h = tt
each_below P (c ∷ cs) e h = (h c e.0, each_below P cs e.1 h)

named_below : AllByRecursion (λ c. c < 65536) (map kind_code in_order)
named_below = (omega arith, (omega arith, (omega arith, (omega arith, (omega arith, (omega arith, (omega arith, (omega arith, (omega arith, (omega arith, (omega arith, (omega arith, (omega arith, (omega arith, (omega arith, (omega arith, (omega arith, tt)))))))))))))))))

each_named : (P : ℕ → Type 0) → ((c : ℕ) → c < 65536 → P c) → AllByRecursion P named_codes
each_named P h = rw named_map (each_below P (map kind_code in_order) named_below h)

none_yet : (c : ℕ) → c < 65536 → get_or no_counts c 0 ≡ 0
unfolding no_counts
none_yet c h = get_or-replicate 65536 c 0 0 h

counts_long : length no_counts ≡ 65536
unfolding no_counts
counts_long = length-replicate {A = ℕ} 65536 0

module _ (s : List ℕ) (few : length s < 18446744073709551616) where
  abbrev codes : List ℕ
  codes = codes_in s

  abbrev counts : ℕ → ℕ
  counts c = get_or (counted_all no_counts (codes_in s)) c 0

  count_at : (c : ℕ) → c < 65536 → counts c ≡ occurrences codes c
  count_at c h =
      let none = none_yet c h in
      let long = counts_long in
      let n = codes_long s in
      count_of codes no_counts c (omega arith) (omega arith) ∙ omega arith

  absorbed_printed : printed ((0 + length s / 20) % 18446744073709551616) (counted_all no_counts codes) (length s % 20) ≡ report s
  unfolding printed report
  absorbed_printed =
      let n = codes_long s in
      let entries : (0 + length s / 20) % 18446744073709551616 ≡ length codes = omega arith in
      let each = each_named (λ c. counts c ≡ occurrences codes c) count_at in
      let rest : less counts (length codes) named_codes ≡ others_in codes =
      less_same counts (occurrences codes) (length codes) named_codes each
      ∙ (ap (λ (m : ℕ). less (occurrences codes) m named_codes) (sym (total_sum codes)) ∙ less_sum (occurrences codes) (others_in codes) named_codes) in
      rw entries
      (page_same counts (occurrences codes) (length codes) (less counts (length codes) named_codes) (length s % 20) each
      ∙ ap (λ (o : ℕ). page (length codes) (occurrences codes) o (length s % 20)) rest)

-- feeding the input in parts p1 .. pn, whatever their sizes, gives the report of p1 ++ .. ++ pn; it is shorter than 2^64 bytes
pub report_whole :
    (ps : List (List ℕ)) →
    length (one_run ps) < 18446744073709551616 →
    printed (fed_all at_start ps).entries (fed_all at_start ps).counts (length (fed_all at_start ps).left) ≡ report (one_run ps)
unfolding absorbed
report_whole ps few = rw (fed_parts ps, behind_long (one_run ps)) (absorbed_printed (one_run ps) few)
