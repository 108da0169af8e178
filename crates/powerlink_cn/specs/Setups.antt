-- What C gives, as the library's arguments.
-- Assumes nothing.
use Rattle.std.specs.Prelude.{ℕ, Bool, not, eqb}
use Rattle.types.specs.Pick.{pick}
use Rattle.types.specs.Flags.{flags}
use Rattle.std.specs.declared.option.Option.{Option}
use Rattle.std.specs.declared.option.Option.TheVariants.{Some, None}
use Rattle.counters.specs.Counters.{Thresholds}
use Rattle.node.specs.declared.load.DictionaryUpdate.{DictionaryUpdate}
use Rattle.start.specs.declared.start.Setup.{Setup}
use Rattle.powerlink_cn.specs.declared.setup.PlcnValue.{PlcnValue}
use Rattle.powerlink_cn.specs.declared.setup.PlcnThresholds.{PlcnThresholds}
use Rattle.powerlink_cn.specs.declared.setup.PlcnSetup.{PlcnSetup}
use Rattle.powerlink_cn.specs.declared.setup.PlcnUpdate.{PlcnUpdate}

-- a flag: any number but 0 is yes
abbrev pub flag : ℕ → Bool
flag n = not (eqb n 0)

-- a value that is named by a mark
abbrev pub named : {A : Type 0} → ℕ → A → Option A
named m a = pick (eqb m 0) None (Some a)

-- a value that may be missing
abbrev pub value_of : PlcnValue → Option ℕ
value_of v = named v.there v.value

-- the thresholds
abbrev pub thresholds_of : PlcnThresholds → Thresholds
thresholds_of t =
    record {
      collision = t.collision;
      loss_of_soc = t.loss_of_soc;
      loss_of_soa = t.loss_of_soa;
      loss_of_preq = t.loss_of_preq;
      soc_jitter = t.soc_jitter;
      crc_errors = t.crc_errors;
      heartbeat_timeout = t.heartbeat_timeout;
    }

-- a setup
abbrev pub setup_of : PlcnSetup → Setup
setup_of s =
    record {
      node = s.node;
      feature_flags = flags s.feature_flags;
      basic_ethernet_timeout = s.basic_timeout_us;
      queue_capacity = s.queue_capacity;
      od =
          record {
            error_register = s.error_register;
            cycle_time = value_of s.cycle_us;
            tolerance = value_of s.tolerance_ns;
            counter_1 = s.counter_1;
            counter_2 = s.counter_2;
            counter_3 = s.counter_3;
            counter_5 = s.counter_5;
          };
      thresholds = thresholds_of s.thresholds;
    }

-- an update of the dictionary
abbrev pub update_of : PlcnUpdate → DictionaryUpdate
update_of u =
    record {
      error_register = named u.set_error_register u.error_register;
      cycle_time = named u.set_cycle (value_of u.cycle_us);
      tolerance = named u.set_tolerance (value_of u.tolerance_ns);
      counter_1 = named u.set_counter_1 u.counter_1;
      counter_2 = named u.set_counter_2 u.counter_2;
      counter_3 = named u.set_counter_3 u.counter_3;
      counter_5 = named u.set_counter_5 u.counter_5;
    }

-- the history that an update names: the bytes that are given, or none
abbrev pub history_of : {A : Type 0} → PlcnUpdate → A → Option A
history_of u bytes = named u.set_history bytes
