-- `examples::heads::watch_none` meets its contract: every word is written.
-- Assumes nothing.
use mathlib.Core.Path.{refl}
use Rattle.examples.proofs.Writing.{none_watched}
use Rattle.examples.proofs.heads.watch_none.Goals as goal

pub returns : goal.returns
returns c =
    none_watched _ refl
