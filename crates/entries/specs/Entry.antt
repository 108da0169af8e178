-- The error entry and its 20 bytes (DS 301, Tables 94 and 96; RULES 9.1 to 9.3), the lowest byte of
-- each number first.
-- Assumes nothing.
use Rattle.std.specs.Prelude.{ℕ, zero, suc, ◌+◌, ◌*◌, ◌/◌, ◌%◌, ◌<◌, Bool, true, false, List, [], ◌∷◌, ◌++◌, eqb, get_or, drop}
use Rattle.types.specs.Pick.{read_by}
use Rattle.types.specs.Common.{net_time, from_micros}
use Rattle.types.specs.Errors.{error_code}
use Rattle.types.specs.declared.refusals.Refusal.TheVariants.{UnknownNumber}
use Rattle.types.specs.declared.frame.error.types.DllError.{DllError}
use Rattle.entries.specs.declared.status_response.ErrorEntryMode.{ErrorEntryMode}
use Rattle.entries.specs.declared.status_response.ErrorEntryMode.TheVariants.{Terminator, ErrorActive, ErrorCleared, EventOccurred}
use Rattle.std.specs.declared.result.Result.{Result}
use Rattle.std.specs.declared.result.Result.TheVariants.{Ok, Err}
use Rattle.types.specs.declared.refusals.Refusal.{Refusal}
use Rattle.entries.specs.declared.status_response.EntryType.{EntryType}
use Rattle.entries.specs.declared.status_response.ErrorEntry.{ErrorEntry}

-- a mode's number
abbrev pub mode_number : ErrorEntryMode → ℕ
mode_number Terminator = 0
mode_number ErrorActive = 1
mode_number ErrorCleared = 2
mode_number EventOccurred = 3

-- all modes, in the order of their numbers
abbrev pub modes : List ErrorEntryMode
modes = Terminator ∷ ErrorActive ∷ ErrorCleared ∷ EventOccurred ∷ []

-- the mode of a number, or the refusal UnknownNumber
unfoldable pub read_mode : ℕ → Result ErrorEntryMode Refusal
read_mode n = read_by mode_number Ok (Err UnknownNumber) modes n

-- the mode that the lowest two bits of n name
unfoldable pub mode_of : ℕ → ErrorEntryMode
mode_of n = get_or modes (n % 4) Terminator

-- a mark as a bit
abbrev pub bit : Bool → ℕ
bit true = 1
bit false = 0

-- a type as 16 bits: bit 15 is the status mark, bit 14 the queue mark, bits 13 and 12 the mode, the
-- rest the profile, of which the lowest twelve bits are kept
unfoldable pub type_number : EntryType → ℕ
type_number t =
    bit t.is_status_entry * 32768 + bit t.send_to_queue * 16384 + mode_number t.mode * 4096 + t.profile % 4096

-- the type of a number's 16 bits
unfoldable pub type_of : ℕ → EntryType
type_of n =
    record {
      is_status_entry = eqb (n / 32768 % 2) 1;
      send_to_queue = eqb (n / 16384 % 2) 1;
      mode = mode_of (n / 4096);
      profile = n % 4096;
    }

-- the k lowest bytes of n, the lowest first
abbrev pub bytes_of : ℕ → ℕ → List ℕ
bytes_of zero n = []
bytes_of (suc k) n = n % 256 ∷ bytes_of k (n / 256)

-- the number in the first k bytes of s, the lowest first
unfoldable pub number_in : ℕ → List ℕ → ℕ
number_in zero s = 0
number_in (suc k) [] = 0
number_in (suc k) (b ∷ s) = b + 256 * number_in k s

-- an entry's 20 bytes: type (2), code (2), seconds (4), nanoseconds (4), additional information (8)
unfoldable pub entry_bytes : ErrorEntry → List ℕ
entry_bytes e =
    bytes_of 2 (type_number e.entry_type) ++
    (bytes_of 2 e.error_code ++
    (bytes_of 4 e.timestamp.seconds ++
    (bytes_of 4 e.timestamp.nanoseconds ++ bytes_of 8 e.additional_information)))

-- the entry in the first 20 bytes of s
unfoldable pub entry_in : List ℕ → ErrorEntry
entry_in s =
    record {
      entry_type = type_of (number_in 2 s);
      error_code = number_in 2 (drop 2 s);
      timestamp = net_time (number_in 4 (drop 4 s)) (number_in 4 (drop 8 s));
      additional_information = number_in 8 (drop 12 s);
    }

-- the entry of an error that crossed its threshold at the SoC check, at a time in µs (RULES 9.2):
-- the queue mark, the mode EventOccurred, profile 2, the error's code, the time with its seconds
-- modulo 2^32, additional information 0
unfoldable pub crossing_entry : DllError → ℕ → ErrorEntry
crossing_entry e t =
    record {
      entry_type = record { is_status_entry = false; send_to_queue = true; mode = EventOccurred; profile = 2 };
      error_code = error_code e;
      timestamp = from_micros t;
      additional_information = 0;
    }

-- a run of bytes: each is below 256
abbrev pub Bytes : List ℕ → Type 0
Bytes s = (i : ℕ) → get_or s i 0 < 256

-- an entry fits its bytes: its numbers are within their widths, and its profile is at most 4095
pub record FitsBytes (e : ErrorEntry) : Type 0 where
  pub profile : e.entry_type.profile < 4096
  pub code : e.error_code < 65536
  pub seconds : e.timestamp.seconds < 4294967296
  pub nanoseconds : e.timestamp.nanoseconds < 4294967296
  pub information : e.additional_information < 18446744073709551616
