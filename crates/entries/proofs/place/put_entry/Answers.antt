-- `entries::place::put_entry` meets its contract: what the part from the place on came back with stands there.
-- Assumes nothing.
use Rattle.entries.proofs.Entries.{entry_long}
use Rattle.entries.proofs.Written.{part_back}
use Rattle.entries.proofs.place.put_entry.Goals as goal

pub returns : goal.returns
returns c =
    part_back c.args.s.now c.args.at 20 _ _ (entry_long c.args.entry) c.requires c.write_entry.ensures
