-- What is printed as digits is text.
-- Assumes nothing.
use Rattle.std.proofs.Common.{◌<◌, ℕ, zero, suc, ◌+◌, ◌/◌, ◌%◌, Bool, true, false, List, [], ◌∷◌, ◌++◌, arith}
use Rattle.std.specs.Str.{IsAscii}
use Rattle.std.proofs.lemmas.Str.Ascii.{IsAscii-nil, IsAscii-cons, IsAscii-push}
use lib.Dec.{ltb}
use Rattle.types.specs.Pick.{pick}
use Rattle.forms.specs.Hex.{glyph, hex_digits, hex_form}
use Rattle.telling.specs.Texts.{digits_text}

glyph_small : (d : ℕ) → d < 16 → glyph d < 128
glyph_small d small = by (ltb d 10)
  where
    by : (b : Bool) → pick b (48 + d) (55 + d) < 128
    by true = omega (arith, small)
    by false = omega (arith, small)

pub hex_ascii : (k n : ℕ) → IsAscii (hex_digits k n)
hex_ascii zero n = IsAscii-nil
hex_ascii (suc k) n = IsAscii-push (hex_digits k (n / 16)) (glyph (n % 16)) (hex_ascii k (n / 16)) (glyph_small (n % 16) (omega arith))

pub form_ascii : (k n : ℕ) → IsAscii (hex_form k n)
form_ascii k n = IsAscii-cons 48 (120 ∷ hex_digits k n) (omega arith) (IsAscii-cons 120 (hex_digits k n) (omega arith) (hex_ascii k n))

both_ascii : (xs ys : List ℕ) → IsAscii xs → IsAscii ys → IsAscii (xs ++ ys)
both_ascii [] ys g h = h
both_ascii (x ∷ xs) ys g h = IsAscii-cons x (xs ++ ys) (g 0) (both_ascii xs ys (λ i. g (suc i)) h)

pub digits_ascii : (bs : List ℕ) → IsAscii (digits_text bs)
digits_ascii [] = IsAscii-nil
digits_ascii (b ∷ bs) = both_ascii (hex_digits 2 b) (digits_text bs) (hex_ascii 2 b) (digits_ascii bs)
