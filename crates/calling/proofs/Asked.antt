-- Neither a call nor a start asks anything of its caller, whatever the numbers and times; nor does
-- any of the single calls, which `make` makes with whatever it was given.
-- Assumes nothing.
use Rattle.calling.proofs.make_over_words.Reads as words-reads
use Rattle.calling.proofs.make_over_records.Reads as records-reads
use Rattle.start.proofs.start.start.Reads as start-reads
use Rattle.lent.proofs.calls.start.Reads as start-run-reads

pub words_ask_nothing : (κs : _) (a : _) → words-reads.Asked κs a
words_ask_nothing κs a = tt

pub records_ask_nothing : (κs : _) (a : _) → records-reads.Asked κs a
records_ask_nothing κs a = tt

-- nor does a start, in either form, whatever it is given
pub start_asks_nothing : (κs : _) (a : _) → start-reads.Asked κs a
start_asks_nothing κs a = tt

pub start_run_asks_nothing : (κs : _) (a : _) → start-run-reads.Asked κs a
start_run_asks_nothing κs a = tt
