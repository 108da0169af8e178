-- What the parts of a head show, each its lines.
-- Assumes nothing.
use Rattle.std.specs.Prelude.{ℕ, List, [], ◌∷◌, codes}
use Rattle.std.specs.Fmt.{decimal}
use Rattle.std.specs.declared.option.Option.{Option}
use Rattle.std.specs.declared.option.Option.TheVariants.{Some, None}
use Rattle.nmt.specs.declared.cn_state_machine.CnNmtStateMachine.{CnNmtStateMachine}
use Rattle.dll.specs.declared.cs_state_machine.DllCsStateMachine.{DllCsStateMachine}
use Rattle.counters.specs.declared.counters.ThresholdCounter.{ThresholdCounter}
use Rattle.counters.specs.declared.counters.CnErrorCounters.{CnErrorCounters}
use Rattle.counters.specs.declared.counters.ByKind.{ByKind}
use Rattle.head.specs.Head.{moment_in}
use Rattle.head.specs.declared.state.SocWatch.{SocWatch}
use Rattle.head.specs.declared.state.Dictionary.{Dictionary}
use Rattle.telling.specs.declared.styles.Style.{Style}
use Rattle.telling.specs.Styles.{state_form, cs_state_form}
use Rattle.telling.specs.Texts.{joined, flag_text}

-- the NMT state, and whether the machine is enabled and the application ready
unfoldable pub standing_text : Style → CnNmtStateMachine → List ℕ
standing_text y m =
    joined
    (codes "(state " ∷ state_form y m.current_state ∷ codes ") (enabled " ∷ flag_text m.ready_to_operate_enabled
    ∷ codes ") (ready " ∷ flag_text m.app_ready ∷ codes ")" ∷ [])

-- what a start gave the NMT machine: the node's number, the feature flags and the basic timeout in
-- µs
unfoldable pub identity_text : CnNmtStateMachine → List ℕ
identity_text m =
    joined
    (codes "(node " ∷ decimal m.node_id.0 ∷ codes ") (flags " ∷ decimal m.feature_flags.0 ∷ codes ") (timeout " ∷ decimal m.basic_ethernet_timeout
    ∷ codes ")" ∷ [])

-- the line of the NMT machine
unfoldable pub nmt_line : Style → CnNmtStateMachine → List ℕ
nmt_line y m = joined (codes "(nmt " ∷ standing_text y m ∷ codes " " ∷ identity_text m ∷ codes ")\n" ∷ [])

-- the line of the DLL machine: its state
unfoldable pub dll_line : Style → DllCsStateMachine → List ℕ
dll_line y m = joined (codes "(dll " ∷ cs_state_form y m.state ∷ codes ")\n" ∷ [])

-- a counter by its name: its level, and the cumulative count of its errors
unfoldable pub counter_line : List ℕ → ThresholdCounter → List ℕ
counter_line name c =
    joined (codes "(" ∷ name ∷ codes " (level " ∷ decimal c.threshold_cnt ∷ codes ") (cumulative " ∷ decimal c.cumulative_cnt ∷ codes "))\n" ∷ [])

-- the lines of the seven counters
unfoldable pub counter_lines : CnErrorCounters → List ℕ
counter_lines e =
    joined
    (counter_line (codes "collision") e.counters.collision ∷ counter_line (codes "loss_of_soc") e.counters.loss_of_soc
    ∷ counter_line (codes "loss_of_soa") e.counters.loss_of_soa ∷ counter_line (codes "loss_of_preq") e.counters.loss_of_preq
    ∷ counter_line (codes "soc_jitter") e.counters.soc_jitter ∷ counter_line (codes "crc_errors") e.counters.crc_errors
    ∷ counter_line (codes "heartbeat_timeout") e.counters.heartbeat_timeout ∷ [])

-- the lines of the error counters, and the count of lost links
unfoldable pub error_lines : CnErrorCounters → List ℕ
error_lines e = joined (counter_lines e ∷ codes "(loss_of_link " ∷ decimal e.loss_of_link_cumulative ∷ codes ")\n" ∷ [])

-- a moment in µs, or none
abbrev pub moment_text : Option ℕ → List ℕ
moment_text None = codes "none"
moment_text (Some t) = decimal t

-- the line of the watch over the SoC: last SoC, check, deadline and `error_status_changed`
unfoldable pub soc_line : SocWatch → List ℕ
soc_line s =
    joined
    (codes "(soc (last " ∷ decimal s.last_soc_reception_time_us ∷ codes ") (check " ∷ flag_text s.soc_timeout_check_active
    ∷ codes ") (deadline " ∷ moment_text (moment_in s.next_tick_us) ∷ codes ") (status_changed " ∷ flag_text s.error_status_changed ∷ codes "))\n" ∷ [])

-- cycle or tolerance, or that it is missing
abbrev pub object_text : Option ℕ → List ℕ
object_text None = codes "missing"
object_text (Some n) = decimal n

-- the error register, cycle in µs and tolerance in ns
unfoldable pub objects_text : Dictionary → List ℕ
objects_text d =
    joined
    (codes "(register " ∷ decimal d.error_register ∷ codes ") (cycle " ∷ object_text d.cycle_time ∷ codes ") (tolerance "
    ∷ object_text d.tolerance ∷ codes ")" ∷ [])

-- the counters 1, 2, 3 and 5 of object 0x1102
unfoldable pub statistics_text : Dictionary → List ℕ
statistics_text d =
    joined
    (codes "(c1 " ∷ decimal d.counter_1 ∷ codes ") (c2 " ∷ decimal d.counter_2 ∷ codes ") (c3 " ∷ decimal d.counter_3 ∷ codes ") (c5 "
    ∷ decimal d.counter_5 ∷ codes ")" ∷ [])

-- the line of the values of the dictionary
unfoldable pub dictionary_line : Dictionary → List ℕ
dictionary_line d = joined (codes "(dictionary " ∷ objects_text d ∷ codes " " ∷ statistics_text d ∷ codes ")\n" ∷ [])

-- a number of each of the seven counters, in the order of their lines
unfoldable pub each_text : ByKind ℕ → List ℕ
each_text k =
    joined
    (decimal k.collision ∷ codes " " ∷ decimal k.loss_of_soc ∷ codes " " ∷ decimal k.loss_of_soa ∷ codes " " ∷ decimal k.loss_of_preq
    ∷ codes " " ∷ decimal k.soc_jitter ∷ codes " " ∷ decimal k.crc_errors ∷ codes " " ∷ decimal k.heartbeat_timeout ∷ [])
