-- `head::words::set_option` meets its contract: what `write` leaves.
-- Assumes nothing.
use mathlib.Core.Path.{refl}
use Rattle.std.proofs.Common.{rules}
use Rattle.head.proofs.words.set_option.Goals as goal

pub returns-in-Some : goal.returns-in-Some
returns-in-Some g c =
    rw c.in-Some.is (record { shown = _; left = _; called = c.write.ensures; shows = search rules; leaves = refl })
