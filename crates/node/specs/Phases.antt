-- What the parts of a tick have in common (RULES 7.8, 7.9): what a part has come to, a signal, an
-- NMT event in a tick, and how the handling of an error ends.
-- Assumes nothing.
use Rattle.std.specs.Prelude.{ℕ, ◌+◌, ◌%◌, Bool, true, false, List, [], ◌++◌, eqb}
use Rattle.types.specs.Pick.{pick}
use Rattle.types.specs.Errors.{reported}
use Rattle.types.specs.declared.nmt.events.NmtEvent.{NmtEvent}
use Rattle.types.specs.declared.nmt.events.NmtEvent.TheVariants.{Error}
use Rattle.types.specs.declared.frame.error.types.DllError.{DllError}
use Rattle.types.specs.declared.frame.error.types.NmtAction.{NmtAction}
use Rattle.types.specs.declared.frame.error.types.NmtAction.TheVariants as action
use Rattle.nmt.specs.Nmt as Nmt
use Rattle.counters.specs.Counters.{HandledError}
use Rattle.counters.specs.Marks.{Mark}
use Rattle.entries.specs.declared.status_response.ErrorEntry.{ErrorEntry}
use Rattle.head.specs.declared.state.SocWatch.{SocWatch}
use Rattle.head.specs.declared.state.Dictionary.{Dictionary}
use Rattle.node.specs.Plain.{Plain, EventMade, made, no_event}
use Rattle.node.specs.Steps.{plain_of, with_nmt, with_soc}
use Rattle.head.specs.Head.{soc_watch}

-- what a tick, a part of one, or the DLL event of a frame has come to
pub record Ticked : Type 0 where
  -- the head after it
  pub head : Plain
  pub logged : List DllError
  -- the NMT event that it gave the machine, or none
  pub event : EventMade
  -- what it did to the error counters
  pub marks : List Mark
  -- of these marks, those of the errors of the SoC check
  pub checked : List Mark
  -- the entries of the crossings there
  pub crossings : List ErrorEntry
  -- the tick has ended: what would follow is left out
  pub ended : Bool

-- nothing came of a part of the tick, which has not ended
abbrev pub goes_on : Plain → Ticked
goes_on p = record { head = p; logged = []; event = no_event; marks = []; checked = []; crossings = []; ended = false }

-- the second part behind the first, which has not ended the tick
abbrev pub behind : Ticked → Ticked → Ticked
behind a b =
    record {
      head = b.head;
      logged = a.logged ++ b.logged;
      event = b.event;
      marks = a.marks ++ b.marks;
      checked = a.checked ++ b.checked;
      crossings = a.crossings ++ b.crossings;
      ended = b.ended;
    }

-- an error brings an action: its action is another than none
abbrev pub acts : NmtAction → Bool
acts action.None = false
acts action.ResetCommunication = true
acts (action.ResetNode n) = true

-- one more, as the counters 1, 2, 3 and 5 rise: from 2^32 - 1 to 0
abbrev pub one_more : ℕ → ℕ
one_more n = (n + 1) % 4294967296

-- the lowest bit of a number is 0
abbrev pub is_even : ℕ → Bool
is_even n = eqb (n % 2) 0

-- what a signal makes of the dictionary's values: the error register's lowest bit is set, and
-- counter 5 rises where that changes it
abbrev pub registered : Dictionary → Dictionary
registered o =
    record {
      error_register = pick (is_even o.error_register) (o.error_register + 1) o.error_register;
      cycle_time = o.cycle_time;
      tolerance = o.tolerance;
      counter_1 = o.counter_1;
      counter_2 = o.counter_2;
      counter_3 = o.counter_3;
      counter_5 = pick (is_even o.error_register) (one_more o.counter_5) o.counter_5;
    }

-- what a signal makes of the watch: `error_status_changed` is set, which start alone clears
abbrev pub changed : SocWatch → SocWatch
changed s =
    soc_watch s.last_soc_reception_time_us s.soc_timeout_check_active s.next_tick_us true

-- a signal, of a heartbeat, at the SoC check or of a frame
abbrev pub signalled : Plain → Plain
signalled p =
    plain_of p.nmt p.dll p.errors (changed p.soc) (registered p.od) p.capacity p.queue p.history p.earliest

-- the watch with the check off
abbrev pub check_off : SocWatch → SocWatch
check_off s =
    soc_watch s.last_soc_reception_time_us false s.next_tick_us s.error_status_changed

-- an NMT event in a tick, which is Error or Timeout: the check goes off
abbrev pub event_in_tick : Plain → NmtEvent → Plain
event_in_tick p e = with_soc (with_nmt p (Nmt.processed p.nmt e).machine) (check_off p.soc)

-- what an error's handling leaves of the head p: where it ends the tick, the event Error, with the
-- check off
abbrev pub finished : Bool → List DllError → List Mark → List Mark → List ErrorEntry → Plain → Ticked
finished ends logged marks checked crossings p =
    record {
      head = pick ends (event_in_tick p Error) p;
      logged = logged;
      event = pick ends (made Error) no_event;
      marks = marks;
      checked = checked;
      crossings = crossings;
      ended = ends;
    }

-- an error that brings an action ends the tick
abbrev pub on_handled : HandledError → List Mark → List Mark → List ErrorEntry → Plain → Ticked
on_handled r ms checked cs p = finished (acts r.action) (reported r.logged) ms checked cs p
