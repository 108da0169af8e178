-- The names that a script may give in place of numbers.
-- Assumes nothing.
use Rattle.std.specs.Prelude.{ℕ, ◌≡◌, if◌then◌else◌, Option, Some, None, List, [], ◌∷◌}
use Rattle.std.specs.Option.{option_or}
use Rattle.std.specs.Str.{bytes_eq}
use Rattle.types.specs.States.{states, state_number}
use Rattle.types.specs.Events.{events, event_number, commands, command_number}
use Rattle.types.specs.CsEvents.{cs_events, cs_event_number}
use Rattle.types.specs.Kinds.{error_kinds, kind_place}
use Rattle.types.specs.Names.{state_name, event_name, command_name, cs_event_name, kind_name}
use Rattle.script.specs.Reads.{Reads, ◌>>=◌, only, word, number_of}

-- of some items that have names and numbers, the number of the one that has a name
unfoldable pub number_named : {A : Type 0} → (A → List ℕ) → (A → ℕ) → List A → List ℕ → Option ℕ
number_named name number [] w = None
number_named name number (x ∷ xs) w = if bytes_eq (name x) w then Some (number x) else number_named name number xs w

-- the number of the NMT event of a name
abbrev pub event_named : List ℕ → Option ℕ
event_named = number_named event_name event_number events

-- of a DLL event
abbrev pub cs_event_named : List ℕ → Option ℕ
cs_event_named = number_named cs_event_name cs_event_number cs_events

-- of a kind of error
abbrev pub kind_named : List ℕ → Option ℕ
kind_named = number_named kind_name kind_place error_kinds

-- of an NMT state
abbrev pub state_named : List ℕ → Option ℕ
state_named = number_named state_name state_number states

-- of a state command
abbrev pub command_named : List ℕ → Option ℕ
command_named = number_named command_name command_number commands

-- the number that a word is: by its digits, or by its name
unfoldable pub numeral_of : (List ℕ → Option ℕ) → List ℕ → Option ℕ
numeral_of named w = option_or (number_of w) (named w)

-- a word that is a number of 64 bits, or a name
unfoldable pub numeral : (List ℕ → Option ℕ) → Reads ℕ
numeral named = word >>= λ w. only (numeral_of named w)

-- each item's name reads as the item's number
abbrev pub NamesRead : {A : Type 0} → (A → List ℕ) → (A → ℕ) → List A → Type 0
NamesRead {A = A} name number items = (x : A) → numeral_of (number_named name number items) (name x) ≡ Some (number x)
