-- An entry for C, both ways.
-- Assumes nothing.
use Rattle.std.specs.declared.result.Result.{Result}
use Rattle.std.specs.declared.result.Result.TheVariants.{Ok, Err}
use Rattle.std.specs.declared.option.Option.{Option}
use Rattle.std.specs.declared.option.Option.TheVariants.{Some, None}
use Rattle.types.specs.declared.refusals.Refusal.{Refusal}
use Rattle.entries.specs.Entry.{bit, mode_number, read_mode}
use Rattle.entries.specs.declared.status_response.ErrorEntryMode.{ErrorEntryMode}
use Rattle.entries.specs.declared.status_response.ErrorEntry.{ErrorEntry}
use Rattle.powerlink_cn.specs.declared.entry.PlcnEntry.{PlcnEntry}
use Rattle.powerlink_cn.specs.declared.entry.PlcnHandedOut.{PlcnHandedOut}
use Rattle.powerlink_cn.specs.Setups.{flag}

-- an entry
abbrev pub c_entry : ErrorEntry → PlcnEntry
c_entry e =
    record {
      is_status = bit e.entry_type.is_status_entry;
      send_to_queue = bit e.entry_type.send_to_queue;
      mode = mode_number e.entry_type.mode;
      profile = e.entry_type.profile;
      code = e.error_code;
      seconds = e.timestamp.seconds;
      nanoseconds = e.timestamp.nanoseconds;
      additional = e.additional_information;
    }

-- the entry that numbers are, with a mode that was read
abbrev pub entry_with : PlcnEntry → Result ErrorEntryMode Refusal → Result ErrorEntry Refusal
entry_with c (Err r) = Err r
entry_with c (Ok m) =
    Ok
    (record {
      entry_type =
          record {
            is_status_entry = flag c.is_status;
            send_to_queue = flag c.send_to_queue;
            mode = m;
            profile = c.profile;
          };
      error_code = c.code;
      timestamp = record { seconds = c.seconds; nanoseconds = c.nanoseconds };
      additional_information = c.additional;
    })

-- the entry that numbers are
abbrev pub read_entry : PlcnEntry → Result ErrorEntry Refusal
read_entry c = entry_with c (read_mode c.mode)

-- no entry
abbrev pub no_entry : PlcnEntry
no_entry =
    record {
      is_status = 0;
      send_to_queue = 0;
      mode = 0;
      profile = 0;
      code = 0;
      seconds = 0;
      nanoseconds = 0;
      additional = 0;
    }

-- the entry that was handed out, if any
abbrev pub c_handed_out : Option ErrorEntry → PlcnHandedOut
c_handed_out (Some e) = record { entry = c_entry e; there = 1 }
c_handed_out None = record { entry = no_entry; there = 0 }
