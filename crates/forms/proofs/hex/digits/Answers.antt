-- `forms::hex::digits` meets its contract: a digit is written before those behind it.
-- Assumes nothing.
use Rattle.std.proofs.Common.{rules, ◌≡◌, ℕ, suc, ◌+◌, ◌-◌, ◌/◌, ◌%◌, ◌<◌, List, ◌++◌, [], ◌∷◌, length, drop, set, arith, append_assoc}
use mathlib.Core.Path.{sym, ◌∙◌}
use Rattle.std.proofs.lemmas.List.{drop-set}
use Rattle.forms.specs.Hex.{glyph, hex_digits}
use Rattle.forms.proofs.hex.digits.Goals as goal

written :
    (k p n : ℕ) (xs : List ℕ) (x : ℕ) →
    k + 1 ≡ p →
    k < length xs →
    x ≡ glyph (n % 16) →
    hex_digits k (n / 16) ++ drop k (set xs k x) ≡ hex_digits p n ++ drop p xs
written k p n xs x next inside e =
    let s : k + 1 ≡ suc k = omega arith in
    rw (drop-set xs k x inside, e, ← next, s) (sym (append_assoc (hex_digits k (n / 16)) (glyph (n % 16) ∷ []) (drop (suc k) xs)))

pub loop-place-preserved : goal.loop-place-preserved
loop-place-preserved g c =
    let l = c.loop-place in
    let next : l.place - 1 + 1 ≡ l.place = omega arith in
    let inside : l.place - 1 < length l.digits = omega arith in
    (written (l.place - 1) l.place l.left l.digits c.digit.result next inside c.digit.ensures ∙ l.invariant.0, search rules)
