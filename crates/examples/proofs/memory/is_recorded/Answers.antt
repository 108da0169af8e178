-- `examples::memory::is_recorded` meets its contract: by the first two that are held.
-- Assumes nothing.
use Rattle.examples.proofs.Holding.{exact_found, exact_only, none_exactly}
use Rattle.examples.proofs.memory.is_recorded.Goals as goal

pub returns : goal.returns
returns c =
    let found = exact_found c.get.result c.args.stated c.eq.result c.eq.ensures in
    let none = none_exactly _ _ c.is_none.ensures in
    exact_only _ _ (rw (c.get.ensures, c.history_of-places.ensures) at found) (rw (c.get-2.ensures, c.history_of-places.ensures) at none)
