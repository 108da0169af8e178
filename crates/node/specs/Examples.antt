-- The twelve examples of RULES 11.4, in their order: a head, the calls on it, and what is to come
-- of each call.
-- Assumes nothing.
use Rattle.std.specs.Prelude.{ℕ, Bool, true, false, List, [], ◌∷◌, ltb}
use Rattle.types.specs.Pick.{pick}
use Rattle.types.specs.Common.{net_time}
use Rattle.types.specs.States.{state_number}
use Rattle.types.specs.declared.nmt.states.NmtState.{NmtState}
use Rattle.types.specs.declared.nmt.states.NmtState.TheVariants.{NmtGsInitialising, NmtGsResetApplication, NmtGsResetCommunication, NmtGsResetConfiguration, NmtNotActive, NmtBasicEthernet, NmtPreOperational1, NmtPreOperational2, NmtReadyToOperate, NmtOperational}
use Rattle.types.specs.declared.nmt.events.NmtEvent.{NmtEvent}
use Rattle.types.specs.declared.nmt.events.NmtEvent.TheVariants.{SwReset, Timeout, EnterPreOperational2, EnableReadyToOperate, CnConfigurationComplete, Error}
use Rattle.types.specs.declared.frame.error.types.DllError.TheVariants as error
use Rattle.types.specs.declared.frame.error.types.NmtAction.TheVariants as action
use Rattle.nmt.specs.Resets.{Passed, range}
use Rattle.nmt.specs.declared.cn_state_machine.CnNmtStateMachine.{CnNmtStateMachine}
use Rattle.dll.specs.declared.cs_state_machine.DllCsState.TheVariants.{NonCyclic, WaitSoc}
use Rattle.counters.specs.Counters.{counter_of, same_for_all, incremented}
use Rattle.counters.specs.Marks.{Mark, given, crossed, drained, E}
use Rattle.counters.specs.declared.counters.CounterKind.TheVariants.{LossOfSoc, HeartbeatTimeout}
use Rattle.counters.specs.declared.counters.CnErrorCounters.{CnErrorCounters}
use Rattle.entries.specs.declared.status_response.ErrorEntry.{ErrorEntry}
use Rattle.entries.specs.declared.status_response.ErrorEntryMode.TheVariants.{EventOccurred}
use Rattle.std.specs.declared.option.Option.TheVariants.{Some, None}
use Rattle.head.specs.declared.state.Deadline.TheVariants.{At, Nothing}
use Rattle.head.specs.declared.state.Dictionary.{Dictionary}
use Rattle.watched.specs.Watched.{watched_node, Run, holding}
use Rattle.node.specs.Plain.{Plain, Call, nmt_event, dll_event, error, cycle_complete, withdraw, heard, tick, Start, Answer, taken, nmt_answer, dll_answer, error_answer, cycle_answer, tick_answer, made, no_event, Step}
use Rattle.node.specs.Steps.{plain_of, with_earliest, no_run, fresh}
use Rattle.head.specs.Head.{soc_watch}
use Rattle.node.specs.Run.{step}

-- What comes of a call: its whole step, the number of the NMT state after it, and the level to
-- which a lost SoC raised its counter, before the threshold is looked at.
pub record Coming : Type 0 where
  -- the head, the answer, the run, and what is counted
  pub all : Step
  -- the NMT state's number
  pub state : ℕ
  -- one level, where an SoC was lost; else none
  pub raised : List ℕ

-- an example: a head, the calls on it in their order, and what is stated of each call
pub record Example : Type 0 where
  pub before : Plain
  pub calls : List Call
  pub after : List Coming

-- the level to which a lost SoC raised its counter, in a call on the head p of which s came; a call
-- loses at most one SoC
abbrev pub raised_by : Plain → Step → List ℕ
raised_by p s =
    pick (ltb 0 (E LossOfSoc s.marks)) ((incremented p.errors.counters.loss_of_soc).threshold_cnt ∷ []) []

-- what comes of a call on the head p, of which s came
abbrev pub coming_of : Plain → Step → Coming
coming_of p s = record { all = s; state = state_number s.head.nmt.current_state; raised = raised_by p s }

-- each call on the head that the last one left
abbrev pub comings : Plain → List Call → List Coming
comings p [] = []
comings p (c ∷ cs) = coming_of p (step p c) ∷ comings (step p c).head cs

-- what comes of the calls of an example
abbrev pub comes_of : Example → List Coming
comes_of x = comings x.before x.calls

-- what the example states of its calls
abbrev pub stated : Example → List Coming
stated x = x.after

-- The examples' heads have node 1, a basic timeout of 5 µs, a queue of 1, cycle 1000 µs and
-- tolerance 100,000 ns. This is their NMT machine.
abbrev pub machine : NmtState → Bool → Bool → CnNmtStateMachine
machine s enabled ready =
    record {
      current_state = s;
      node_id = record { 0 = 1 };
      feature_flags = record { 0 = 0 };
      basic_ethernet_timeout = 5;
      ready_to_operate_enabled = enabled;
      app_ready = ready;
    }

-- the dictionary of the examples: cycle 1000 µs and tolerance 100,000 ns; r is the error register,
-- and a, b, c and e are the counters 1, 2, 3 and 5
abbrev pub values : ℕ → ℕ → ℕ → ℕ → ℕ → Dictionary
values r a b c e =
    record {
      error_register = r;
      cycle_time = Some 1000;
      tolerance = Some 100000;
      counter_1 = a;
      counter_2 = b;
      counter_3 = c;
      counter_5 = e;
    }

-- occurrences, crossings and level of LossOfSoc, occurrences and level of HeartbeatTimeout; the
-- other numbers are 0
abbrev pub counters_of : ℕ → ℕ → ℕ → ℕ → ℕ → CnErrorCounters
counters_of socs crossings soc late_errors on_late =
    record {
      counters =
          record {
            collision = counter_of 0 0 15 0;
            loss_of_soc = counter_of socs soc 15 crossings;
            loss_of_soa = counter_of 0 0 15 0;
            loss_of_preq = counter_of 0 0 15 0;
            soc_jitter = counter_of 0 0 15 0;
            crc_errors = counter_of 0 0 15 0;
            heartbeat_timeout = counter_of late_errors on_late 15 0;
          };
      loss_of_link_cumulative = 0;
    }

-- without a cycle yet: DLL NonCyclic, levels and counts 0, check off
abbrev pub resting : NmtState → Bool → Bool → Plain
resting s enabled ready =
    plain_of (machine s enabled ready) NonCyclic (counters_of 0 0 0 0 0) (soc_watch 0 false Nothing false) (values 0 0 0 0 0) 1 [] [] None

-- Operational, DLL NonCyclic, with these counters
abbrev pub counting : CnErrorCounters → Plain
counting e =
    plain_of (machine NmtOperational false true) NonCyclic e (soc_watch 0 false Nothing false) (values 0 0 0 0 0) 1 [] [] None

-- Operational, WaitSoc, check on, last SoC 10,000, a deadline; the level of LossOfSoc, and its
-- occurrences, which are counter 1
abbrev pub cycling : ℕ → ℕ → ℕ → Plain
cycling deadline level lost =
    plain_of (machine NmtOperational false true) WaitSoc (counters_of lost 0 level 0 0) (soc_watch 10000 true (At deadline) false)
    (values 0 lost 0 0 0) 1 [] [] None

-- what is to come: the state's number, the head, the answer
abbrev comes : ℕ → Plain → Answer → Coming
comes n p a =
    record { all = record { head = p; answer = a; lent = no_run; event = no_event; marks = []; checked = []; crossings = [] }; state = n; raised = [] }

-- what is to come of an NMT event
abbrev comes_by : NmtEvent → ℕ → Plain → Answer → Coming
comes_by e n p a =
    record { all = record { head = p; answer = a; lent = no_run; event = made e; marks = []; checked = []; crossings = [] }; state = n; raised = [] }

-- what is to come with marks, those of the SoC check among them, and with the level to which a lost
-- SoC raised its counter
abbrev counts : ℕ → Plain → Answer → List Mark → List Mark → List ℕ → Coming
counts n p a ms checked ls =
    record { all = record { head = p; answer = a; lent = no_run; event = no_event; marks = ms; checked = checked; crossings = [] }; state = n; raised = ls }

-- what is to come of a call that is lent a run, with the run that is left
abbrev leaving : Run → Coming → Coming
leaving r c =
    record {
      all =
          record {
            head = c.all.head;
            answer = c.all.answer;
            lent = r;
            event = c.all.event;
            marks = c.all.marks;
            checked = c.all.checked;
            crossings = c.all.crossings;
          };
      state = c.state;
      raised = c.raised;
    }

-- the run of a head that watches no node
abbrev pub no_nodes : Run
no_nodes = holding []

-- what an event that is no reset passes
abbrev pub nothing_passed : Passed
nothing_passed = record { states = []; ranges = [] }

-- what start is given in example 1
abbrev pub starts_with : Start
starts_with = record { node = 1; flags = 0; timeout = 5; capacity = 1; od = values 0 0 0 0 0; thresholds = same_for_all 15; watched = no_nodes }

-- what SwReset passes: all five states, and all three ranges to restore
abbrev pub whole_reset : Passed
whole_reset =
    record {
      states = NmtGsInitialising ∷ NmtGsResetApplication ∷ NmtGsResetCommunication ∷ NmtGsResetConfiguration ∷ NmtNotActive ∷ [];
      ranges = range 0x2000 0x5FFF ∷ range 0x6000 0x9FFF ∷ range 0x1000 0x1FFF ∷ [];
    }

-- Example 1: a fresh head takes SwReset: five states passed, NotActive, not ready.
abbrev pub sw_reset : Example
sw_reset =
    record {
      before = fresh starts_with;
      calls = nmt_event 5 ∷ [];
      after = comes_by SwReset 0x1C (resting NmtNotActive false false) (nmt_answer [] whole_reset) ∷ [];
    }

-- Example 2: NotActive takes Timeout: 0x1E.
abbrev pub timeout : Example
timeout =
    record {
      before = resting NmtNotActive false true;
      calls = nmt_event 10 ∷ [];
      after = comes_by Timeout 0x1E (resting NmtBasicEthernet false true) (nmt_answer [] nothing_passed) ∷ [];
    }

-- Example 3: PreOperational2, not enabled: a withdrawal; an enable, which leaves it there, enabled;
-- the ready word: 0x6D.
abbrev pub enable : Example
enable =
    record {
      before = resting NmtPreOperational2 false true;
      calls = withdraw ∷ nmt_event 3 ∷ nmt_event 15 ∷ [];
      after =
          comes 0x5D (resting NmtPreOperational2 false false) taken ∷
          comes_by EnableReadyToOperate 0x5D (resting NmtPreOperational2 true false) (nmt_answer [] nothing_passed) ∷
          comes_by CnConfigurationComplete 0x6D (resting NmtReadyToOperate true true) (nmt_answer [] nothing_passed) ∷
          [];
    }

-- Example 4: ReadyToOperate takes EnterPreOperational2: it stays, with the error (0x6D, 2).
abbrev pub no_row : Example
no_row =
    record {
      before = resting NmtReadyToOperate true true;
      calls = nmt_event 2 ∷ [];
      after =
          comes_by EnterPreOperational2 0x6D (resting NmtReadyToOperate true true)
          (nmt_answer (error.UnexpectedEventInState 0x6D 2 ∷ []) nothing_passed) ∷
          [];
    }

-- Example 5: Operational, NonCyclic, takes SocTimeout: the error (0, 5).
abbrev pub no_cycle : Example
no_cycle =
    record {
      before = resting NmtOperational false true;
      calls = dll_event 5 false ∷ [];
      after =
          comes 0xFD (resting NmtOperational false true) (dll_answer (error.UnexpectedEventInState 0 5 ∷ [])) ∷ [];
    }

-- the answer to a loss that does not cross
abbrev pub quiet : Answer
quiet = error_answer action.None false []

-- the answer to a loss that crosses: ResetCommunication is asked for, it signals and is logged
abbrev pub asks_reset : Answer
asks_reset = error_answer action.ResetCommunication true (error.LossOfSoc ∷ [])

-- what is to come of the first loss: level 8
abbrev first_loss : Coming
first_loss = counts 0xFD (counting (counters_of 1 0 8 0 0)) quiet (given LossOfSoc ∷ []) [] (8 ∷ [])

-- what is to come of a completed cycle, which leaves this level
abbrev lowers : ℕ → Coming
lowers level = counts 0xFD (counting (counters_of 1 0 level 0 0)) (cycle_answer false) (drained LossOfSoc ∷ []) [] []

-- Example 6: two lost SoCs, one completed cycle between: the level comes to 15 and crosses.
abbrev pub one_between : Example
one_between =
    record {
      before = counting (counters_of 0 0 0 0 0);
      calls = error 6 0 0 ∷ cycle_complete ∷ error 6 0 0 ∷ [];
      after =
          first_loss ∷
          lowers 7 ∷
          counts 0xFD (counting (counters_of 2 1 0 0 0)) asks_reset (given LossOfSoc ∷ crossed LossOfSoc ∷ []) [] (15 ∷ []) ∷
          [];
    }

-- Example 7: two lost SoCs, two completed cycles between: the level is 14, no crossing.
abbrev pub two_between : Example
two_between =
    record {
      before = counting (counters_of 0 0 0 0 0);
      calls = error 6 0 0 ∷ cycle_complete ∷ cycle_complete ∷ error 6 0 0 ∷ [];
      after =
          first_loss ∷
          lowers 7 ∷
          lowers 6 ∷
          counts 0xFD (counting (counters_of 2 0 14 0 0)) quiet (given LossOfSoc ∷ []) [] (14 ∷ []) ∷
          [];
    }

-- Example 8: Operational, WaitSoc, check on, levels 0, last SoC 10,000, deadline 10,500, tick at
-- 10,500: deadline 11,100.
abbrev pub early : Example
early =
    record {
      before = cycling 10500 0 0;
      calls = tick 10500 no_nodes ∷ [];
      after = leaving no_nodes (comes 0xFD (cycling 11100 0 0) (tick_answer [])) ∷ [];
    }

-- Example 9: the same head with the deadline 11,100, tick at 11,100: no loss, deadline 12,100.
abbrev pub at_limit : Example
at_limit =
    record {
      before = cycling 11100 0 0;
      calls = tick 11100 no_nodes ∷ [];
      after = leaving no_nodes (comes 0xFD (cycling 12100 0 0) (tick_answer [])) ∷ [];
    }

-- what is to come of the tick at 11,101
abbrev loss : Coming
loss = leaving no_nodes (counts 0xFD (cycling 12100 8 1) (tick_answer []) (given LossOfSoc ∷ []) (given LossOfSoc ∷ []) (8 ∷ []))

-- Example 10: the same head, tick at 11,101: a loss, level 8, deadline 12,100.
abbrev pub above_limit : Example
above_limit = record { before = cycling 11100 0 0; calls = tick 11101 no_nodes ∷ []; after = loss ∷ [] }

-- the entry of the crossing in example 11: 0x8245 at 0 s 12,100,000 ns
abbrev pub entry : ErrorEntry
entry =
    record {
      entry_type = record { is_status_entry = false; send_to_queue = true; mode = EventOccurred; profile = 2 };
      error_code = 0x8245;
      timestamp = net_time 0 12100000;
      additional_information = 0;
    }

-- what is to come of the tick at 12,100 in example 11
abbrev pub crossing_tick : Coming
crossing_tick =
    record {
      all =
          record {
            head =
                plain_of (machine NmtPreOperational1 false true) WaitSoc (counters_of 2 1 0 0 0) (soc_watch 10000 false Nothing true)
                (values 1 2 1 0 1) 1 (entry ∷ []) (entry ∷ []) None;
            answer = tick_answer (error.LossOfSoc ∷ []);
            lent = no_nodes;
            event = made Error;
            marks = given LossOfSoc ∷ crossed LossOfSoc ∷ [];
            checked = given LossOfSoc ∷ crossed LossOfSoc ∷ [];
            crossings = entry ∷ [];
          };
      state = 0x1D;
      raised = 16 ∷ [];
    }

-- Example 11: then a tick at 12,100: a crossing, with the entry 0x8245 at 0 s 12,100,000 ns;
-- PreOperational1, check off, no deadline.
abbrev pub then_crossing : Example
then_crossing =
    record { before = cycling 11100 0 0; calls = tick 11101 no_nodes ∷ tick 12100 no_nodes ∷ []; after = loss ∷ crossing_tick ∷ [] }

-- the run of example 12: node 5 with timeout 50 µs, last heard at t
abbrev pub watching_one : ℕ → Run
watching_one t = holding (watched_node 5 50 t ∷ [])

-- the head of example 12 with the earliest moment t and the counters e
abbrev pub awaiting : ℕ → CnErrorCounters → Plain
awaiting t e = with_earliest (counting e) (Some t)

-- Example 12: a node with timeout 50 that was heard at 100: in time at 150, late at 151, which is
-- the earliest moment.
abbrev pub late : Example
late =
    record {
      before = counting (counters_of 0 0 0 0 0);
      calls = heard 5 100 (watching_one 0) ∷ tick 150 (watching_one 100) ∷ tick 151 (watching_one 100) ∷ [];
      after =
          leaving (watching_one 100) (comes 0xFD (awaiting 151 (counters_of 0 0 0 0 0)) taken) ∷
          leaving (watching_one 100) (comes 0xFD (awaiting 151 (counters_of 0 0 0 0 0)) (tick_answer [])) ∷
          leaving (watching_one 151) (counts 0xFD (awaiting 202 (counters_of 0 0 0 1 8)) (tick_answer []) (given HeartbeatTimeout ∷ []) [] []) ∷
          [];
    }

-- the twelve examples, in their order
abbrev pub examples : List Example
examples =
    sw_reset ∷
    timeout ∷
    enable ∷
    no_row ∷
    no_cycle ∷
    one_between ∷
    two_between ∷
    early ∷
    at_limit ∷
    above_limit ∷
    then_crossing ∷
    late ∷
    []
