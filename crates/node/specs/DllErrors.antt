-- The DLL events of which the errors are handled: the SocTimeout of the SoC check (RULES 7.8), and
-- those of frames (RULES 13.4).
-- Assumes nothing.
use Rattle.std.specs.Prelude.{ℕ, Bool, true, List, [], ◌∷◌, ◌++◌, ltb, length, take}
use Rattle.types.specs.Pick.{pick}
use Rattle.types.specs.declared.frame.cs_state_machine.DllCsEvent.{DllCsEvent}
use Rattle.types.specs.declared.frame.error.types.DllError.{DllError}
use Rattle.counters.specs.Counters.{handled, HandledError}
use Rattle.counters.specs.Marks.{Mark, crosses, error_marks}
use Rattle.entries.specs.Sizes.{history_places}
use Rattle.entries.specs.Entry.{crossing_entry}
use Rattle.entries.specs.declared.status_response.ErrorEntry.{ErrorEntry}
use Rattle.head.specs.declared.state.Dictionary.{Dictionary}
use Rattle.node.specs.Plain.{Plain}
use Rattle.node.specs.Steps.{plain_of, with_dll, with_errors, dll_outcome}
use Rattle.node.specs.Phases.{Ticked, goes_on, behind, one_more, signalled, on_handled}

-- the head with other values of the dictionary
abbrev pub with_od : Plain → Dictionary → Plain
with_od p o = plain_of p.nmt p.dll p.errors p.soc o p.capacity p.queue p.history p.earliest

-- the dictionary with other counters 1, 2 and 3
abbrev pub statistics : Dictionary → ℕ → ℕ → ℕ → Dictionary
statistics o a b c =
    record {
      error_register = o.error_register;
      cycle_time = o.cycle_time;
      tolerance = o.tolerance;
      counter_1 = a;
      counter_2 = b;
      counter_3 = c;
      counter_5 = o.counter_5;
    }

-- an error adds to counter 1
abbrev pub counter1 : Plain → Plain
counter1 p = with_od p (statistics p.od (one_more p.od.counter_1) p.od.counter_2 p.od.counter_3)

-- the entry of a crossing joins queue and history, and counter 2 rises
abbrev pub kept : Plain → ErrorEntry → Plain
kept p e =
    plain_of p.nmt p.dll p.errors p.soc
    (statistics p.od p.od.counter_1 (one_more p.od.counter_2) p.od.counter_3) p.capacity
    (p.queue ++ (e ∷ [])) (take history_places (e ∷ p.history)) p.earliest

-- the entry of a crossing is dropped, and counter 3 rises
abbrev pub dropped_one : Plain → Plain
dropped_one p = with_od p (statistics p.od p.od.counter_1 p.od.counter_2 (one_more p.od.counter_3))

-- the entry of a crossing: kept, or dropped where the queue is full
unfoldable pub queued : Plain → ErrorEntry → Plain
queued p e = pick (ltb (length p.queue) p.capacity) (kept p e) (dropped_one p)

-- one error, with its marks ms, whether it crosses, the entry x of its crossing, and what the
-- counters answer; one that crosses signals, and its entry is queued
abbrev pub on_dll_error_by : Plain → List Mark → Bool → ErrorEntry → HandledError → Ticked
on_dll_error_by p ms crosses x r =
    on_handled r ms ms (pick crosses (x ∷ []) [])
    (pick crosses (queued (signalled (with_errors (counter1 p) r.counters)) x) (with_errors (counter1 p) r.counters))

-- one error of a DLL event at the time t
unfoldable pub on_dll_error : ℕ → Plain → DllError → Ticked
on_dll_error t p e = on_dll_error_by p (error_marks p.errors e) (crosses p.errors e) (crossing_entry e t) (handled p.errors e)

-- the errors in order: the first that brings an action ends the tick, or the frame
unfoldable pub on_dll_errors : ℕ → Plain → List DllError → Ticked
on_dll_errors t p [] = goes_on p
on_dll_errors t p (e ∷ es) = pick (on_dll_error t p e).ended (on_dll_error t p e) (behind (on_dll_error t p e) (on_dll_errors t (on_dll_error t p e).head es))

-- a DLL event of the cycle at t: a PReq is expected, and its errors are handled
abbrev pub on_dll_event : ℕ → Plain → DllCsEvent → Ticked
on_dll_event t p e =
    on_dll_errors t (with_dll p (dll_outcome p e true).state) (dll_outcome p e true).errors
