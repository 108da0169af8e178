-- `nmt::table::chosen` meets its contract: the table is that of the rules.
-- Assumes nothing.
use Rattle.nmt.specs.Resets.{is_reset, states_entered}
use Rattle.nmt.specs.Nmt.{row_of, enter, applied, reset_by, processed}
use Rattle.nmt.specs.Table.{ruled}
use Rattle.nmt.proofs.Chosen.{each_entry}
use Rattle.nmt.proofs.table.chosen.Goals as goal

pub returns : goal.returns
unfolding ruled processed reset_by applied enter row_of is_reset states_entered
returns c =
    let a = c.args in
    rw (c.unpack.ensures, c.place.ensures, c.from-event.ensures, c.as_u8.ensures, c.from.ensures, c.from-2.ensures)
    (each_entry a.state a.event a.enabled a.ready _ _ _ _)
