-- What `chosen` ensures, as its contract in src/ is read: it returns the entry of the rules for
-- every state, event, enabled and ready, and it asks nothing of its caller.
-- Assumes nothing.
use mathlib.Core.Path.{◌≡◌}
use Rattle.nmt.specs.Table.{ruled}
use Rattle.nmt.specs.declared.table.Entry.{Entry}
use Rattle.nmt.proofs.table.chosen.Reads as chosen-reads

-- κs: the lifetimes; a: the arguments; o: what is returned; x: what is lent, here nothing
pub chosen_ruled : (κs : _) (a : _) (o : Entry) (x : _) → chosen-reads.Learnt κs a o x → o ≡ ruled a.0 a.1.0 a.1.1.0 a.1.1.1.0
chosen_ruled κs a o x e = e

pub asks_nothing : (κs : _) (a : _) → chosen-reads.Asked κs a
asks_nothing κs a = tt
