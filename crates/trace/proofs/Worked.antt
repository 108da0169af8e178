-- Lists of calls, computed: heads do get to ReadyToOperate, and what is counted of the list says how; ticks do cross; and partners come and go.
-- Assumes nothing.
use Prim.Native.Nat.{ℕ}
use mathlib.Core.Path.{◌≡◌, refl}
use mathlib.Core.Bool.{true, false}
use mathlib.Core.List.{List, [], ◌∷◌}
use Rattle.types.specs.Events.{read_event}
use Rattle.types.specs.CsEvents.{read_cs_event}
use Rattle.types.specs.declared.nmt.states.NmtState.{NmtState}
use Rattle.types.specs.declared.nmt.states.NmtState.TheVariants.{NmtPreOperational1, NmtPreOperational2, NmtReadyToOperate}
use Rattle.types.specs.declared.frame.error.types.DllError.TheVariants as error
use Rattle.nmt.specs.Resets.{is_reset, states_entered}
use Rattle.nmt.specs.Nmt.{enter, row_of, applied, reset_by, processed}
use Rattle.dll.specs.Dll as Dll
use Rattle.counters.specs.Counters.{same_for_all, replaced, after_error, handled}
use Rattle.counters.specs.Counters as Counters
use Rattle.counters.specs.Marks.{E, N, crosses, error_marks}
use Rattle.counters.specs.declared.counters.CounterKind.TheVariants.{LossOfSoc, HeartbeatTimeout}
use Rattle.entries.specs.Entry.{crossing_entry}
use Rattle.entries.specs.Ring.{listed, nth}
use Rattle.entries.specs.History.{error_history, joined}
use Rattle.entries.specs.declared.status_response.ErrorEntry.{ErrorEntry}
use Rattle.std.specs.declared.option.Option.TheVariants.{Some, None}
use Rattle.watched.specs.Watched.{well_formed, holding}
use Rattle.node.specs.Examples.{watching_one}
use Rattle.node.specs.Plain.{Plain, Call, nmt_event, dll_event, withdraw, heard, hand_out, arm, tick, add, remove, Start}
use Rattle.node.specs.Steps.{earliest, fresh, started, armed}
use Rattle.node.specs.Heartbeats.{on_late, on_late_all}
use Rattle.node.specs.DllErrors.{queued, on_dll_error, on_dll_errors}
use Rattle.node.specs.Deadline.{soc_check}
use Rattle.node.specs.Tick.{tick_taken}
use Rattle.node.specs.Run.{step_all}
use Rattle.trace.specs.Tally.{Orders, orders, Tally, tally}
use Rattle.trace.specs.Earliest.{last_left, run_after}
use Rattle.trace.specs.Claim.{tallied}
use Rattle.trace.specs.Unmoved.{written_at_all}

-- SwReset, and two SoCs: in PreOperational2
abbrev booted : List Call → List Call
booted cs = nmt_event 5 ∷ nmt_event 13 ∷ nmt_event 13 ∷ cs

module _ (s : Start) where
  -- where the head is, and what it was told
  state : List Call → NmtState
  state cs = (step_all (fresh s) (booted cs)).nmt.current_state

  heard_of : List Call → Orders
  heard_of cs = (tallied s (booted cs)).orders

  -- withdrawn, an enable: stays; the ready word: ReadyToOperate
  enabled_stays : (state (withdraw ∷ nmt_event 3 ∷ []) ≡ NmtPreOperational2) × (heard_of (withdraw ∷ nmt_event 3 ∷ []) ≡ orders true false)
  unfolding state heard_of step_all tally fresh read_event processed reset_by applied enter row_of is_reset states_entered
  enabled_stays = (refl, refl)

  then_ready :
      (state (withdraw ∷ nmt_event 3 ∷ nmt_event 15 ∷ []) ≡ NmtReadyToOperate)
      × (heard_of (withdraw ∷ nmt_event 3 ∷ nmt_event 15 ∷ []) ≡ orders true true)
  unfolding state heard_of step_all tally fresh read_event processed reset_by applied enter row_of is_reset states_entered
  then_ready = (refl, refl)

  -- an enable, a reset and the way back: the old visit's enable counts no more
  reset_forgets :
      (state (withdraw ∷ nmt_event 3 ∷ booted (nmt_event 15 ∷ [])) ≡ NmtPreOperational2)
      × (heard_of (withdraw ∷ nmt_event 3 ∷ booted (nmt_event 15 ∷ [])) ≡ orders false true)
  unfolding state heard_of step_all tally fresh read_event processed reset_by applied enter row_of is_reset states_entered
  reset_forgets = (refl, refl)

  -- a ready word in PreOperational1 does not count
  unheeded : (tallied s (nmt_event 5 ∷ nmt_event 13 ∷ withdraw ∷ nmt_event 15 ∷ [])).orders ≡ orders false false
  unfolding step_all tally fresh read_event processed reset_by applied enter row_of is_reset states_entered
  unheeded = refl

-- a start with a queue of n places, counter 3 at c, cycle 1000 and tolerance 100,000 ns
abbrev begun : ℕ → ℕ → Start
begun n c =
    record {
      node = 1;
      flags = 0;
      timeout = 0;
      capacity = n;
      od =
          record {
            error_register = 0;
            cycle_time = Some 1000;
            tolerance = Some 100000;
            counter_1 = 0;
            counter_2 = 0;
            counter_3 = c;
            counter_5 = 0;
          };
      thresholds = same_for_all 15;
      watched = holding [];
    }

-- Operational, WaitSoc, last SoC 10,000; tick 11,101: loss, level 8; tick 12,100: crossing
abbrev two_losses : List Call → List Call
two_losses cs =
    booted
    (nmt_event 3 ∷ nmt_event 0 ∷ dll_event 0 false ∷ dll_event 3 false ∷ arm 10000 ∷ tick 11101 (holding []) ∷ tick 12100 (holding []) ∷ cs)

after : ℕ → ℕ → List Call → Plain
after n c cs = step_all (fresh (begun n c)) (two_losses cs)

counted_of : ℕ → ℕ → List Call → Tally
counted_of n c cs = tallied (begun n c) (two_losses cs)

abbrev loss_at : ErrorEntry
loss_at = crossing_entry error.LossOfSoc 12100

-- in a queue of 1 its entry waits
waits :
    ((after 1 0 []).queue ≡ loss_at ∷ [])
    × ((after 1 0 []).nmt.current_state ≡ NmtPreOperational1)
    × ((counted_of 1 0 []).crossings ≡ loss_at ∷ [])
    × ((counted_of 1 0 []).dropped ≡ [])
    × (E LossOfSoc (counted_of 1 0 []).marks ≡ 2)
    × (N LossOfSoc (counted_of 1 0 []).marks ≡ 1)
unfolding after counted_of step_all tally fresh read_event read_cs_event processed reset_by applied enter row_of is_reset states_entered Dll.cs_processed armed listed well_formed tick_taken on_late_all soc_check on_dll_errors on_dll_error queued handled Counters.counted_error after_error replaced error_marks crosses
waits = (refl, refl, refl, refl, refl, refl)

-- and is handed out
handed_out_lem : ((after 1 0 (hand_out ∷ [])).queue ≡ []) × ((counted_of 1 0 (hand_out ∷ [])).handed ≡ loss_at ∷ [])
unfolding after counted_of step_all tally fresh read_event read_cs_event processed reset_by applied enter row_of is_reset states_entered Dll.cs_processed armed listed well_formed tick_taken on_late_all soc_check on_dll_errors on_dll_error queued handled Counters.counted_error after_error replaced error_marks crosses nth
handed_out_lem = (refl, refl)

-- with a queue of 0 it is dropped: counter 3 is 1, and from its top it goes to 0
dropped_full :
    ((after 0 0 []).queue ≡ [])
    × ((counted_of 0 0 []).dropped ≡ loss_at ∷ [])
    × ((after 0 0 []).od.counter_3 ≡ 1)
    × ((after 0 4294967295 []).od.counter_3 ≡ 0)
unfolding after counted_of step_all tally fresh read_event read_cs_event processed reset_by applied enter row_of is_reset states_entered Dll.cs_processed armed listed well_formed tick_taken on_late_all soc_check on_dll_errors on_dll_error queued handled Counters.counted_error after_error replaced error_marks crosses
dropped_full = (refl, refl, refl, refl)

-- the kept one writes the place before the newest, in a full history the oldest's; the dropped one none
written_at_lem :
    (written_at_all (fresh (begun 1 0)) (error_history 0 0) (two_losses []) ≡ 253 ∷ [])
    × (written_at_all (fresh (begun 1 0)) (error_history 253 254) (two_losses []) ≡ 252 ∷ [])
    × (written_at_all (fresh (begun 0 0)) (error_history 0 0) (two_losses []) ≡ [])
unfolding written_at_all fresh read_event read_cs_event processed reset_by applied enter row_of is_reset states_entered Dll.cs_processed armed listed well_formed tick_taken on_late_all soc_check on_dll_errors on_dll_error queued handled Counters.counted_error after_error replaced error_marks crosses joined
written_at_lem = (refl, refl, refl)

-- a node with timeout 50, heard at 100, is late at two ticks: a crossing of its kind, without an entry
abbrev late_twice : List Call
late_twice =
    let r = watching_one 100 in booted (nmt_event 3 ∷ nmt_event 0 ∷ tick 151 r ∷ tick 251 r ∷ [])

late_errors :
    ((step_all (fresh (begun 1 0)) late_twice).nmt.current_state ≡ NmtPreOperational1)
    × ((tallied (begun 1 0) late_twice).crossings ≡ [])
    × (E HeartbeatTimeout (tallied (begun 1 0) late_twice).marks ≡ 2)
    × (N HeartbeatTimeout (tallied (begun 1 0) late_twice).marks ≡ 1)
unfolding step_all tally fresh read_event processed reset_by applied enter row_of is_reset states_entered listed well_formed tick_taken on_late_all on_late handled Counters.counted_error after_error replaced error_marks
late_errors = (refl, refl, refl, refl)

-- a partner with timeout 50 is added, and heard at 100: it would be late at 151, behind a reset too; of a removal that is declined nothing comes; removed, no
-- node would be late
abbrev arrives : List Call → List Call
arrives cs = add 5 50 (holding []) ∷ heard 5 100 (watching_one 0) ∷ nmt_event 5 ∷ remove 6 (watching_one 0) ∷ cs

partners :
    ((step_all (fresh (begun 1 0)) (arrives [])).earliest ≡ Some 151)
    × (run_after (begun 1 0) (arrives []) ≡ watching_one 100)
    × ((step_all (fresh (begun 1 0)) (arrives (remove 5 (watching_one 100) ∷ []))).earliest ≡ None)
    × (run_after (begun 1 0) (arrives (remove 5 (watching_one 100) ∷ [])) ≡ holding [])
unfolding step_all last_left earliest fresh started read_event processed reset_by applied enter row_of is_reset states_entered listed well_formed
partners = (refl, refl, refl, refl)
