-- A digit as it is printed, as a number and as a byte.
-- Assumes nothing.
use Rattle.std.proofs.Common.{◌≡◌, ℕ, ◌+◌, ◌%◌, ◌<◌, Bool, true, false, refl, arith, lt-ltb}
use Rattle.forms.specs.Hex.{glyph}
use Rattle.std.specs.Fmt.{decimal}
use Rattle.std.proofs.lemmas.Fmt.{decimal_digit}
use Rattle.head.specs.Words.{one}
use Rattle.reach.specs.Form.{flag, digit}

pub flag_text : (b : Bool) → decimal (one b) ≡ flag b
flag_text true = decimal_digit 1 (omega arith)
flag_text false = decimal_digit 0 (omega arith)

pub digit_text : (n : ℕ) → decimal (n % 10) ≡ digit n
digit_text n =
    let below : n % 10 < 10 = omega arith in
    rw (lt-ltb (n % 10) 10 below) (decimal_digit (n % 10) below)

pub flag_glyph : (b : Bool) → 48 + one b ≡ glyph (one b)
flag_glyph true = refl
flag_glyph false = refl

pub digit_glyph : (n : ℕ) → 48 + n % 10 ≡ glyph (n % 10)
digit_glyph n = rw (lt-ltb (n % 10) 10 (omega arith)) refl
