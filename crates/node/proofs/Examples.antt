-- The twelve examples of RULES 11.4, proved together over one table of them: of each call the plain
-- head makes exactly what is stated.
-- Assumes nothing.
use mathlib.Core.Path.{◌≡◌, refl}
use mathlib.Core.List.{map}
use lib.ListN.{length}
use Rattle.types.specs.Events.{read_event}
use Rattle.types.specs.CsEvents.{read_cs_event}
use Rattle.types.specs.Errors.{read_error}
use Rattle.nmt.specs.Resets.{is_reset, states_entered, reset_sequence}
use Rattle.nmt.specs.Nmt.{enter, row_of, applied, reset_by, processed}
use Rattle.dll.specs.Dll as Dll
use Rattle.counters.specs.Counters.{replaced, after_error, counted_error, handled, lowered, any_active, completed}
use Rattle.counters.specs.Marks.{crosses, error_marks, cycle_marks}
use Rattle.entries.specs.Entry.{crossing_entry}
use Rattle.watched.specs.Watched.{well_formed}
use Rattle.entries.specs.Ring.{listed}
use Rattle.node.specs.Steps.{earliest, fresh}
use Rattle.node.specs.Heartbeats.{on_late, on_late_all}
use Rattle.node.specs.DllErrors.{queued, on_dll_error, on_dll_errors}
use Rattle.node.specs.Deadline.{soc_check}
use Rattle.node.specs.Tick.{tick_taken}
use Rattle.node.specs.Examples.{comes_of, stated, examples}

pub examples_hold : (map comes_of examples ≡ map stated examples) × (length examples ≡ 12)
unfolding listed earliest fresh read_event read_cs_event read_error is_reset states_entered reset_sequence enter row_of applied reset_by processed Dll.cs_processed replaced after_error counted_error handled crosses lowered any_active completed error_marks cycle_marks crossing_entry well_formed on_late on_late_all queued on_dll_error on_dll_errors soc_check tick_taken
examples_hold = (refl, refl)
