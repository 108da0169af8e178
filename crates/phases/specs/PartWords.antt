-- The words of a head after a signal, after an NMT event in a tick, and at the end of an error:
-- every word, as a function of what came in.
-- Assumes nothing.
use Rattle.std.specs.Prelude.{ℕ, ◌+◌, ◌%◌, Bool, List, slice_set}
use Rattle.types.specs.Pick.{pick}
use Rattle.types.specs.declared.nmt.events.NmtEvent.{NmtEvent}
use Rattle.types.specs.declared.nmt.events.NmtEvent.TheVariants.{Error}
use Rattle.types.specs.declared.frame.error.types.DllError.{DllError}
use Rattle.nmt.specs.Nmt as Nmt
use Rattle.counters.specs.Counters.{handled}
use Rattle.node.specs.Phases.{acts, is_even, one_more}
use Rattle.head.specs.Places as at
use Rattle.head.specs.Words.{word, nmt_of, errors_of}
use Rattle.head.specs.Written.{nmt_written}

-- a signal: `error_status_changed`, the register's lowest bit, and counter 5 where that changes it
abbrev pub signal_words : List ℕ → List ℕ
signal_words ws =
    pick (is_even (word ws at.register % 256))
    (slice_set (slice_set (slice_set ws at.changed 1) at.register (word ws at.register % 256 + 1)) at.counter5 (one_more (word ws at.counter5)))
    (slice_set ws at.changed 1)

-- an NMT event in a tick, with the check off
unfoldable pub event_words : List ℕ → NmtEvent → List ℕ
event_words ws e = slice_set (nmt_written ws (Nmt.processed (nmt_of ws) e).machine) at.check 0

-- the end of an error: where it ends the tick, the event Error
unfoldable pub finished_words : Bool → List ℕ → List ℕ
finished_words ends ws = pick ends (event_words ws Error) ws

-- an error ends the walk over errors, where it brings an action
abbrev pub ends_by : List ℕ → DllError → Bool
ends_by ws e = acts (handled (errors_of ws) e).action
