-- The patterns of bytes that are read, and the entries that join the history.
-- Assumes nothing.
use Rattle.std.specs.Prelude.{ℕ, zero, suc, ◌+◌, ◌/◌, ◌%◌, true, false, List, set}
use Rattle.types.specs.Common.{net_time}
use Rattle.entries.specs.declared.status_response.ErrorEntryMode.TheVariants.{EventOccurred}
use Rattle.entries.specs.declared.status_response.ErrorEntry.{ErrorEntry}
use Rattle.forms.specs.Generator.{drawn}

-- the generator's state after k numbers from x
abbrev pub last : ℕ → ℕ → ℕ
last zero x = x
last (suc k) x = last k (drawn x)

-- the pattern p with a byte of each of the k numbers that follow x, from place i on
abbrev pub filled : ℕ → ℕ → ℕ → List ℕ → List ℕ
filled zero i x p = p
filled (suc k) i x p = filled k (i + 1) (drawn x) (set p i (drawn x / 65536 % 256))

-- an entry like that of a crossing, with a number in its code and its seconds
abbrev pub numbered : ℕ → ErrorEntry
numbered n =
    record {
      entry_type = record { is_status_entry = false; send_to_queue = true; mode = EventOccurred; profile = 2 };
      error_code = n;
      timestamp = net_time n 0;
      additional_information = 0;
    }
