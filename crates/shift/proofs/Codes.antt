-- The codes of the whole entries in a run of bytes, entry by entry.
-- Assumes nothing.
use Rattle.std.proofs.Common.{◌≡◌, ℕ, suc, ◌+◌, ◌*◌, ◌/◌, ◌<◌, ◌≤◌, List, [], ◌∷◌, ◌++◌, length, get_or, drop, ap, ◌∙◌, append-nil, arith, length-append, length-drop, drop-drop, drop_at}
use Rattle.entries.specs.declared.status_response.ErrorEntry.{ErrorEntry}
use Rattle.entries.specs.Entry.{number_in, entry_in}
use Rattle.entries.specs.Ring.{entry_at, listed}
use Rattle.entries.specs.History.{entries_in}
use Rattle.entries.proofs.Numbers.{number_more}
use Rattle.entries.proofs.Rings.{listed_same}
use Rattle.entries.proofs.Entries.{entry_same}
use Rattle.shift.specs.Report.{codes_in}

-- fewer than 20 bytes have no entry
pub codes_none : (s : List ℕ) → length s < 20 → codes_in s ≡ []
unfolding codes_in entries_in listed
codes_none s h =
    let none : length s / 20 ≡ 0 = omega arith in
    rw none

entries_front : (s : List ℕ) → 20 ≤ length s → entries_in s ≡ entry_in s ∷ entries_in (drop 20 s)
unfolding entries_in listed
entries_front s h =
    let n : length s / 20 ≡ suc (length (drop 20 s) / 20) = simp length-drop (omega arith) in
    rw n
    (ap (λ (l : List ErrorEntry). entry_in s ∷ l)
    (listed_same (λ j. entry_at s (suc j)) (entry_at (drop 20 s)) (length (drop 20 s) / 20)
    (λ j lt.
    let more : 20 * suc j ≡ 20 + 20 * j = omega arith in
    rw (more, drop-drop (20 * j) 20 s))))

-- the first of 20 bytes and more
pub codes_front : (s : List ℕ) → 20 ≤ length s → codes_in s ≡ (entry_in s).error_code ∷ codes_in (drop 20 s)
unfolding codes_in
codes_front s h = rw (entries_front s h)

code_of : (e : List ℕ) → length e ≡ 20 → (entry_in e).error_code ≡ get_or e 2 0 + 256 * get_or e 3 0
unfolding entry_in number_in
code_of e h = number_more 1 2 e (omega arith) ∙ rw (number_more 0 3 e (omega arith)) (omega arith)

-- of an entry and what comes behind it
pub codes_behind : (e s : List ℕ) → length e ≡ 20 → codes_in (e ++ s) ≡ (get_or e 2 0 + 256 * get_or e 3 0) ∷ codes_in s
codes_behind e s h =
    let long : 20 ≤ length (e ++ s) = simp length-append (omega arith) in
    let same : entry_in (e ++ s) ≡ entry_in e = entry_same e s [] (omega arith) ∙ ap entry_in (append-nil e) in
    codes_front (e ++ s) long
    ∙ (ap (λ (f : ErrorEntry). f.error_code ∷ codes_in (drop 20 (e ++ s))) same
    ∙ (ap (λ (l : List ℕ). (entry_in e).error_code ∷ codes_in l) (drop_at e s 20 h)
    ∙ ap (λ (c : ℕ). c ∷ codes_in s) (code_of e h)))
