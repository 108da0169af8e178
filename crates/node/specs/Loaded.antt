-- What load leaves of a head in words: the plain head's values and history, and every word.
-- Assumes nothing.
use Rattle.std.specs.Prelude.{ℕ, ◌≤◌, ◌≡◌, List, set}
use denote.Ref.{Bor}
use Rattle.std.specs.declared.option.Option.{Option}
use Rattle.std.specs.declared.option.Option.TheVariants.{Some, None}
use Rattle.node.specs.declared.load.DictionaryUpdate.{DictionaryUpdate}
use Rattle.entries.specs.History.{loaded}
use Rattle.node.specs.Plain.{Call, taken}
use Rattle.node.specs.Steps.{no_run}
use Rattle.node.specs.Refines.{Refines, left, history_update, loaded_places, loaded_memory}
use Rattle.head.specs.Places as at
use Rattle.head.specs.Words.{head_of}
use Rattle.head.specs.Written.{object_written, history_written}

-- the words after a load's number for the word at place i: written where it is named, else kept
abbrev pub number_loaded : List ℕ → ℕ → Option ℕ → List ℕ
number_loaded ws i (Some n) = set ws i n
number_loaded ws i None = ws

-- the words after a load's value for the two words from place i on, cycle or tolerance: written
-- where it is named, also as missing, else kept
abbrev pub object_loaded : List ℕ → ℕ → Option (Option ℕ) → List ℕ
object_loaded ws i (Some v) = object_written ws i v
object_loaded ws i None = ws

-- a byte that a load names is at most 255
abbrev pub ByteFits : Option ℕ → Type 0
ByteFits (Some n) = n ≤ 255
ByteFits None = Unit

-- the words after a load's values of the dictionary
unfoldable pub values_loaded : List ℕ → DictionaryUpdate → List ℕ
values_loaded ws u =
    number_loaded (number_loaded (number_loaded (number_loaded
    (object_loaded (object_loaded (number_loaded ws at.register u.error_register) at.cycle u.cycle_time) at.tolerance u.tolerance)
    at.counter1 u.counter_1) at.counter2 u.counter_2) at.counter3 u.counter_3) at.counter5 u.counter_5

-- the words after a load: its values, and the places of the history where it names one
unfoldable pub load_words : List ℕ → DictionaryUpdate → Option (List ℕ) → List ℕ
load_words ws u (Some s) = history_written (values_loaded ws u) (loaded s)
load_words ws u None = values_loaded ws u

-- the bytes of the history's entries, where a load names them
abbrev pub bytes_named : Option (Bor (List ℕ)) → Option (List ℕ)
bytes_named (Some r) = Some r.now
bytes_named None = None

-- of a load on the words ws and the history's bytes m, of the values u and, where es has them, the
-- bytes of the history's entries
pub record LoadedIn (ws m : List ℕ) (u : DictionaryUpdate) (es : Option (List ℕ)) (ws' m' : List ℕ) : Type 0 where
  pub refines : (q : List ℕ) → Refines (head_of ws) q m (Call.load u (history_update es)) (left (head_of ws') taken) q m' no_run
  pub queue : (head_of ws').queue ≡ (head_of ws).queue
  pub history : (head_of ws').history ≡ loaded_places es (head_of ws).history
  pub memory : m' ≡ loaded_memory es m
  pub words : ws' ≡ load_words ws u es
