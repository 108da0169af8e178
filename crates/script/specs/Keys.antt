-- A start by keys: words `KEY=VALUE` in any order.
-- Assumes nothing.
use Rattle.std.specs.Prelude.{ℕ, zero, suc, ◌≡◌, ◌<◌, Bool, false, ◌&&◌, nat_le, if◌then◌else◌, Option, Some, None, option_map, option_and_then, List, [], ◌∷◌, length, map, take, drop, remove, codes}
use Rattle.std.specs.Borrow.{Bor}
use Rattle.std.specs.Option.{option_map_or}
use Rattle.std.specs.Str.{bytes_eq}
use Rattle.types.specs.Flags.{flags}
use Rattle.counters.specs.Counters.{Thresholds}
use Rattle.head.specs.declared.state.Dictionary.{Dictionary}
use Rattle.start.specs.declared.start.Setup.{Setup}
use Rattle.script.specs.Reads.{Reads, ◌>>=◌, just, word, number_within}

-- the words of a text, each behind its space, where they are at most so many
unfoldable pub words_within : ℕ → List ℕ → Option (List (List ℕ))
words_within most [] = Some []
words_within zero (c ∷ cs) = None
words_within (suc most) (c ∷ cs) = option_and_then (λ x. option_map (λ ws. x.0 ∷ ws) (words_within most x.1)) (word (c ∷ cs))

-- slices of a line as their texts
abbrev pub texts : List (Bor (List ℕ)) → List (List ℕ)
texts ws = map (λ (w : Bor (List ℕ)). w.now) ws

-- what takes a value out of words: the value, and the words that are left
abbrev pub Takes : Type 0 → Type 0
Takes A = List (List ℕ) → Option (A × List (List ℕ))

-- a word that begins with a key, which ends in `=`
abbrev pub has_key : List ℕ → List ℕ → Bool
has_key key w = bytes_eq (take (length key) w) key

-- what stands behind a key in the first word that has it
unfoldable pub value_behind : List ℕ → List (List ℕ) → Option (List ℕ)
value_behind key [] = None
value_behind key (w ∷ ws) = if has_key key w then Some (drop (length key) w) else value_behind key ws

-- the words without that one
unfoldable pub without : List ℕ → List (List ℕ) → List (List ℕ)
without key [] = []
without key (w ∷ ws) = if has_key key w then ws else w ∷ without key ws

-- no word has the key
pub record Lacks (key : List ℕ) (ws : List (Bor (List ℕ))) : Type 0 where
  pub value : value_behind key (texts ws) ≡ None
  pub rest : without key (texts ws) ≡ texts ws

-- the word at a place is the first that has the key, and a value stands behind it
pub record Finds (key : List ℕ) (ws : List (Bor (List ℕ))) (place : ℕ) (value : List ℕ) : Type 0 where
  pub within : place < length ws
  pub found : value_behind key (texts ws) ≡ Some value
  pub rest : texts (remove ws place) ≡ without key (texts ws)

-- a value by its key, or what it is where the key is left out
abbrev pub keyed : {A : Type 0} → List ℕ → (List ℕ → Option A) → Option A → Takes A
keyed key read left_out ws = option_map (λ a. (a, without key ws)) (option_map_or read (value_behind key ws) left_out)

-- a number of 8 bits
unfoldable pub keyed8 : List ℕ → Option ℕ → Takes ℕ
keyed8 key left_out = keyed key (number_within 255) left_out

-- a number of 32 bits
unfoldable pub keyed32 : List ℕ → ℕ → Takes ℕ
keyed32 key left_out = keyed key (number_within 4294967295) (Some left_out)

-- a number of 64 bits
unfoldable pub keyed64 : List ℕ → ℕ → Takes ℕ
keyed64 key left_out = keyed key (number_within 18446744073709551615) (Some left_out)

-- a value of 32 bits, or `-`, a missing one
abbrev pub object_of : List ℕ → Option (Option ℕ)
object_of w = if bytes_eq w (codes "-") then Some None else option_map Some (number_within 4294967295 w)

-- such a value; it is missing where its key is left out
unfoldable pub keyed_object : List ℕ → Takes (Option ℕ)
keyed_object key = keyed key object_of (Some None)

-- the dictionary values: left out they are 0, cycle and tolerance missing
unfoldable pub keyed_dictionary : Takes Dictionary
keyed_dictionary = do
  register ← keyed8 (codes "register=") (Some 0)
  cycle ← keyed_object (codes "cycle=")
  tolerance ← keyed_object (codes "tolerance=")
  c1 ← keyed32 (codes "c1=") 0
  c2 ← keyed32 (codes "c2=") 0
  c3 ← keyed32 (codes "c3=") 0
  c5 ← keyed32 (codes "c5=") 0
  just (record { error_register = register; cycle_time = cycle; tolerance = tolerance; counter_1 = c1; counter_2 = c2; counter_3 = c3; counter_5 = c5 })

-- the thresholds: left out they are 15 each
unfoldable pub keyed_thresholds : Takes Thresholds
keyed_thresholds = do
  t1 ← keyed32 (codes "collision=") 15
  t2 ← keyed32 (codes "loss_of_soc=") 15
  t3 ← keyed32 (codes "loss_of_soa=") 15
  t4 ← keyed32 (codes "loss_of_preq=") 15
  t5 ← keyed32 (codes "soc_jitter=") 15
  t6 ← keyed32 (codes "crc_errors=") 15
  t7 ← keyed32 (codes "heartbeat_timeout=") 15
  just (record { collision = t1; loss_of_soc = t2; loss_of_soa = t3; loss_of_preq = t4; soc_jitter = t5; crc_errors = t6; heartbeat_timeout = t7 })

-- the node has to be given; the queue holds 32 entries, the most, unless fewer are named
unfoldable pub keyed_setup : Takes Setup
keyed_setup = do
  node ← keyed8 (codes "node=") None
  feature ← keyed32 (codes "flags=") 0
  timeout ← keyed32 (codes "timeout=") 0
  capacity ← keyed64 (codes "queue=") 32
  od ← keyed_dictionary
  limits ← keyed_thresholds
  just (record { node = node; feature_flags = flags feature; basic_ethernet_timeout = timeout; queue_capacity = capacity; od = od; thresholds = limits })

-- no word is left
abbrev pub no_words : List (List ℕ) → Option (Unit {0})
no_words [] = Some tt
no_words (w ∷ ws) = None

-- A start by keys, of which there are 18. Each word is taken by its key, so one with another key is
-- left, and so is the second of a key; then the line is unreadable.
unfoldable pub setup_by_keys : Reads Setup
setup_by_keys rest =
    option_and_then (λ x. option_map (λ u. (x.0, [])) (no_words x.1)) (option_and_then keyed_setup (words_within 18 rest))

-- whether the first word begins with a digit: then the values stand at their places, else behind
-- keys
abbrev pub by_place : List ℕ → Bool
by_place (space ∷ c ∷ cs) = nat_le 48 c && nat_le c 57
by_place other = false
