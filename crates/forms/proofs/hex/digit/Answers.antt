-- `forms::hex::digit` meets its contract: the test says whether the digit is a letter.
-- Assumes nothing.
use native.Mathlib.Omega.{arith}
use borrow.Author.Tests.{lt-ltb, le-ltb}
use Rattle.forms.proofs.hex.digit.Goals as goal

pub returns-then-d-lt10 : goal.returns-then-d-lt10
returns-then-d-lt10 c =
    rw (lt-ltb _ _ c.if-d-lt10.true)

pub returns-else-d-lt10 : goal.returns-else-d-lt10
returns-else-d-lt10 c =
    rw (le-ltb _ _ c.if-d-lt10.false) (omega arith)
