-- A head by its parts: what its words stand for.
-- Assumes nothing.
use Rattle.std.specs.Prelude.{ℕ, Bool, false}
use Rattle.nmt.specs.declared.cn_state_machine.CnNmtStateMachine.{CnNmtStateMachine}
use Rattle.dll.specs.declared.cs_state_machine.DllCsStateMachine.{DllCsStateMachine}
use Rattle.dll.specs.declared.cs_state_machine.DllCsState.TheVariants.{NonCyclic}
use Rattle.counters.specs.declared.counters.CnErrorCounters.{CnErrorCounters}
use Rattle.entries.specs.declared.emergency_queue.EmergencyQueue.{EmergencyQueue}
use Rattle.entries.specs.declared.error_history.ErrorHistory.{ErrorHistory}
use Rattle.std.specs.declared.option.Option.{Option}
use Rattle.std.specs.declared.option.Option.TheVariants.{Some, None}
use Rattle.head.specs.declared.state.Deadline.{Deadline}
use Rattle.head.specs.declared.state.Deadline.TheVariants.{At, Nothing}
use Rattle.head.specs.declared.state.Object.{Object}
use Rattle.head.specs.declared.state.Object.TheVariants.{CycleTime, Tolerance}
use Rattle.head.specs.declared.state.Statistic.{Statistic}
use Rattle.head.specs.declared.state.Statistic.TheVariants.{Counter1, Counter2, Counter3, Counter5}
use Rattle.head.specs.declared.state.SocWatch.{SocWatch}
use Rattle.head.specs.declared.state.Dictionary.{Dictionary}

-- The parts of a head (RULES 1). Of queue and history it has the places of their entries; the bytes
-- of these are lent beside it.
pub record Head : Type 0 where
  pub nmt : CnNmtStateMachine
  pub dll : DllCsStateMachine
  -- the error counters
  pub errors : CnErrorCounters
  -- the watch over the SoC
  pub soc : SocWatch
  -- the values of the dictionary
  pub od : Dictionary
  -- the place of the oldest entry, how many wait, and how many may
  pub queue : EmergencyQueue
  -- the place of the newest entry, and how many there are
  pub history : ErrorHistory
  -- the earliest moment at which a watched node would be late, or none
  pub earliest : Option ℕ

-- the moment of a deadline in µs, or none
abbrev pub moment_in : Deadline → Option ℕ
moment_in (At t) = Some t
moment_in Nothing = None

-- a watch by its last SoC, its check, its deadline and `error_status_changed`
abbrev pub soc_watch : ℕ → Bool → Deadline → Bool → SocWatch
soc_watch t on d changed =
    record {
      last_soc_reception_time_us = t;
      soc_timeout_check_active = on;
      next_tick_us = d;
      error_status_changed = changed;
    }

-- the values of a dictionary, in the order of its fields
abbrev pub dictionary : ℕ → Option ℕ → Option ℕ → ℕ → ℕ → ℕ → ℕ → Dictionary
dictionary r x y a b c d =
    record {
      error_register = r;
      cycle_time = x;
      tolerance = y;
      counter_1 = a;
      counter_2 = b;
      counter_3 = c;
      counter_5 = d;
    }

-- cycle (in µs) or tolerance (in ns), each of which may be missing
abbrev pub object_in : Object → Dictionary → Option ℕ
object_in CycleTime o = o.cycle_time
object_in Tolerance o = o.tolerance

-- a counter of object 0x1102
abbrev pub statistic_in : Statistic → Dictionary → ℕ
statistic_in Counter1 o = o.counter_1
statistic_in Counter2 o = o.counter_2
statistic_in Counter3 o = o.counter_3
statistic_in Counter5 o = o.counter_5

-- the dictionary with another error register
abbrev pub with_register : ℕ → Dictionary → Dictionary
with_register r o =
    dictionary r o.cycle_time o.tolerance o.counter_1 o.counter_2 o.counter_3 o.counter_5

-- the dictionary with another cycle or tolerance, which may be missing
abbrev pub with_object : Object → Option ℕ → Dictionary → Dictionary
with_object CycleTime v o =
    dictionary o.error_register v o.tolerance o.counter_1 o.counter_2 o.counter_3 o.counter_5
with_object Tolerance v o =
    dictionary o.error_register o.cycle_time v o.counter_1 o.counter_2 o.counter_3 o.counter_5

-- the dictionary with another counter of object 0x1102
abbrev pub with_statistic : Statistic → ℕ → Dictionary → Dictionary
with_statistic Counter1 n o =
    dictionary o.error_register o.cycle_time o.tolerance n o.counter_2 o.counter_3 o.counter_5
with_statistic Counter2 n o =
    dictionary o.error_register o.cycle_time o.tolerance o.counter_1 n o.counter_3 o.counter_5
with_statistic Counter3 n o =
    dictionary o.error_register o.cycle_time o.tolerance o.counter_1 o.counter_2 n o.counter_5
with_statistic Counter5 n o =
    dictionary o.error_register o.cycle_time o.tolerance o.counter_1 o.counter_2 o.counter_3 n

-- a head of its parts, in the order of its fields
abbrev pub of_parts : CnNmtStateMachine → DllCsStateMachine → CnErrorCounters → SocWatch → Dictionary → EmergencyQueue → ErrorHistory → Option ℕ → Head
of_parts n d e s o q h x = record { nmt = n; dll = d; errors = e; soc = s; od = o; queue = q; history = h; earliest = x }

-- what a reset forgets of the watch: the deadline and the check
abbrev pub forgotten : SocWatch → SocWatch
forgotten s = soc_watch s.last_soc_reception_time_us false Nothing s.error_status_changed

-- the head with one of its parts replaced
module _ (h : Head) where
  -- with another NMT machine
  abbrev pub head_with_nmt : CnNmtStateMachine → Head
  head_with_nmt n = of_parts n h.dll h.errors h.soc h.od h.queue h.history h.earliest

  -- with another DLL machine
  abbrev pub head_with_dll : DllCsStateMachine → Head
  head_with_dll d = of_parts h.nmt d h.errors h.soc h.od h.queue h.history h.earliest

  -- the head after a reset, but for its NMT machine: the DLL state, the deadline and the check are
  -- forgotten
  abbrev pub forgetting : Head
  forgetting = of_parts h.nmt (record { state = NonCyclic }) h.errors (forgotten h.soc) h.od h.queue h.history h.earliest

  -- with other error counters
  abbrev pub head_with_errors : CnErrorCounters → Head
  head_with_errors e = of_parts h.nmt h.dll e h.soc h.od h.queue h.history h.earliest

  -- with another watch over the SoC
  abbrev pub head_with_soc : SocWatch → Head
  head_with_soc s = of_parts h.nmt h.dll h.errors s h.od h.queue h.history h.earliest

  -- with other values of the dictionary, and another history
  abbrev pub head_with_values : Dictionary → ErrorHistory → Head
  head_with_values o k = of_parts h.nmt h.dll h.errors h.soc o h.queue k h.earliest

  -- with other values of the dictionary
  abbrev pub head_with_od : Dictionary → Head
  head_with_od o = head_with_values o h.history

  -- with another emergency queue
  abbrev pub head_with_queue : EmergencyQueue → Head
  head_with_queue q = of_parts h.nmt h.dll h.errors h.soc h.od q h.history h.earliest

  -- with another earliest moment, or none
  abbrev pub head_with_earliest : Option ℕ → Head
  head_with_earliest d = of_parts h.nmt h.dll h.errors h.soc h.od h.queue h.history d
