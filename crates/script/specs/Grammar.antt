-- What a line of a call script says: a row for each line of docs/CALLS.md, with its name and the
-- words behind it.
-- Assumes nothing.
use Rattle.std.specs.Prelude.{ℕ, Bool, false, ◌||◌, ◌==◌, nat_le, nat_lt, ◌&&◌, if◌then◌else◌, Option, Some, None, option_map, option_and_then, unwrap_or, List, [], ◌∷◌, length, codes}
use Rattle.std.specs.Str.{bytes_eq}
use Rattle.types.specs.Common.{net_time}
use Rattle.types.specs.Flags.{flags}
use Rattle.counters.specs.Counters.{same_for_all, Thresholds}
use Rattle.entries.specs.Entry.{mode_of}
use Rattle.entries.specs.declared.status_response.EntryType.{EntryType}
use Rattle.entries.specs.declared.status_response.ErrorEntry.{ErrorEntry}
use Rattle.head.specs.declared.state.Dictionary.{Dictionary}
use Rattle.watched.specs.Watched.{watched_node}
use Rattle.watched.specs.declared.nodes.WatchedNode.{WatchedNode}
use Rattle.node.specs.declared.load.DictionaryUpdate.{DictionaryUpdate}
use Rattle.node.specs.Loaded.{bytes_named}
use Rattle.start.specs.declared.start.Setup.{Setup}
use Rattle.calling.specs.declared.Call.{Call}
use Rattle.calling.specs.declared.Call.TheVariants as calls
use Rattle.recipes.specs.declared.Component.{Component}
use Rattle.weigh.specs.declared.WeighCall.{WeighCall}
use Rattle.weigh.specs.declared.WeighCall.TheVariants as weighing
use Rattle.script.specs.declared.Line.{Line}
use Rattle.script.specs.declared.Line.TheVariants as line
use Rattle.script.specs.Reads.{Reads, just, only, ◌>>=◌, optional, ends, first_word, behind_word, up_to, bits8, bits16, bits32, bits64, flag, object}
use Rattle.script.specs.Numerals.{numeral, event_named, cs_event_named, kind_named, state_named, command_named}
use Rattle.script.specs.Keys.{by_place, setup_by_keys}
use Rattle.script.specs.Bytes.{history, desk_bytes, frame_bytes, entry_bytes}
use Rattle.script.specs.Components.{components}

-- what a line says: a `Line`, with its bytes and components themselves
pub data Reading : Type 0 where
  nothing : Reading
  unreadable : Reading
  call : Call → Reading
  load : DictionaryUpdate → Option (List ℕ) → Reading
  recipe : List Component → Reading
  weight : ℕ → Reading
  frame : ℕ → List ℕ → Reading
  start : Setup → Reading
  watch : WatchedNode → Reading
  unwatch : Reading
  lend : ℕ → ℕ → Reading
  bitmap : Reading
  desk : List ℕ → Reading
  entrywrite : ℕ → ErrorEntry → Reading
  entryread : List ℕ → Reading
  state : ℕ → Reading
  command : ℕ → Reading
  kind : ℕ → Reading
  show : Reading
  why : Reading

-- what a line says that is a call on the node: of a load and of a frame its bytes themselves
abbrev pub node_says : Call → Reading
node_says (calls.Load u h) = load u (bytes_named h)
node_says (calls.Frame t b) = frame t b.now
node_says c = call c

-- what a line says that is a call: of a recipe its components themselves
abbrev pub call_says : WeighCall → Reading
call_says (weighing.Node c) = node_says c
call_says (weighing.LoadRecipe cs) = recipe cs.now
call_says (weighing.Weight i) = weight i

-- what a `Line` says
abbrev pub says : Line → Reading
says line.Nothing = nothing
says line.Unreadable = unreadable
says (line.Call c) = call_says c
says (line.Start s) = start s
says (line.Watch w) = watch w
says line.Unwatch = unwatch
says (line.Lend places number) = lend places number
says line.Bitmap = bitmap
says (line.Desk bs) = desk bs.now
says (line.EntryWrite place e) = entrywrite place e
says (line.EntryRead bs) = entryread bs.now
says (line.State n) = state n
says (line.Command n) = command n
says (line.Kind n) = kind n
says line.Show = show
says line.Why = why

-- a value that is made of one word
abbrev pub one : {A B : Type 0} → Reads A → (A → B) → Reads B
one p f = p >>= λ a. just (f a)

-- a value that is made of two words
abbrev pub two : {A B C : Type 0} → Reads A → Reads B → (A → B → C) → Reads C
two p q f = p >>= λ a. q >>= λ b. just (f a b)

-- a value that is made of three words
abbrev pub three : {A B C D : Type 0} → Reads A → Reads B → Reads C → (A → B → C → D) → Reads D
three p q r f = p >>= λ a. q >>= λ b. r >>= λ c. just (f a b c)

-- the kinds of error that carry a byte: 9, 10, 12, and 18 to 21
abbrev pub carries_byte : ℕ → Bool
carries_byte k = k == 9 || k == 10 || k == 12 || (nat_le 18 k && nat_le k 21)

-- a number that is a byte where it is read; any other counts as 0
abbrev pub carried : Bool → Reads ℕ
carried is_read = if is_read then bits8 else (bits64 >>= λ _. just 0)

-- the words of `error`: a kind's number, and what an error of that kind carries
unfoldable pub error : Reads Call
error = do
  number ← numeral kind_named
  a ← carried (carries_byte number)
  b ← carried (number == 18)
  just (calls.Error number a b)

-- the words of `watch`: a node's number, its timeout and its last-heard time
unfoldable pub watched : Reads WatchedNode
watched = three bits8 bits64 bits64 watched_node

-- the dictionary values of a start
unfoldable pub dictionary : Reads Dictionary
dictionary = do
  register ← bits8
  cycle ← object
  tolerance ← object
  c1 ← bits32
  c2 ← bits32
  c3 ← bits32
  c5 ← bits32
  just (record { error_register = register; cycle_time = cycle; tolerance = tolerance; counter_1 = c1; counter_2 = c2; counter_3 = c3; counter_5 = c5 })

-- the seven thresholds of a start, in the order of their kinds (RULES 6.1)
abbrev pub named_thresholds : Reads Thresholds
named_thresholds = do
  t1 ← bits32
  t2 ← bits32
  t3 ← bits32
  t4 ← bits32
  t5 ← bits32
  t6 ← bits32
  t7 ← bits32
  just (record { collision = t1; loss_of_soc = t2; loss_of_soa = t3; loss_of_preq = t4; soc_jitter = t5; crc_errors = t6; heartbeat_timeout = t7 })

-- the thresholds of a start: all of them, or none, which is 15 each
unfoldable pub thresholds : Reads Thresholds
thresholds [] = Some (same_for_all 15, [])
thresholds (c ∷ cs) = named_thresholds (c ∷ cs)

-- the words of `start` by place
unfoldable pub setup_by_place : Reads Setup
setup_by_place = do
  node ← bits8
  feature ← bits32
  timeout ← bits32
  capacity ← bits64
  od ← dictionary
  limits ← thresholds
  just (record { node = node; feature_flags = flags feature; basic_ethernet_timeout = timeout; queue_capacity = capacity; od = od; thresholds = limits })

-- the words of `start`: by place where the first is a number, and else by keys
unfoldable pub setup : Reads Setup
setup rest = if by_place rest then setup_by_place rest else setup_by_keys rest

-- the values that a load names, in this order
unfoldable pub update : Reads DictionaryUpdate
update = do
  register ← optional (codes "register") bits8
  cycle ← optional (codes "cycle") object
  tolerance ← optional (codes "tolerance") object
  c1 ← optional (codes "c1") bits32
  c2 ← optional (codes "c2") bits32
  c3 ← optional (codes "c3") bits32
  c5 ← optional (codes "c5") bits32
  just (record { error_register = register; cycle_time = cycle; tolerance = tolerance; counter_1 = c1; counter_2 = c2; counter_3 = c3; counter_5 = c5 })

-- the type of an entry: its two marks, its mode and its profile
unfoldable pub entry_type : Reads EntryType
entry_type = do
  status ← flag
  queue ← flag
  mode ← up_to 3
  profile ← bits16
  just (record { is_status_entry = status; send_to_queue = queue; mode = mode_of mode; profile = profile })

-- the words of an entry that is written, behind its place
unfoldable pub entry : Reads ErrorEntry
entry = do
  type ← entry_type
  code ← bits16
  seconds ← bits32
  ns ← bits32
  information ← bits64
  just (record { entry_type = type; error_code = code; timestamp = net_time seconds ns; additional_information = information })

-- a kind of line: its name, and the words behind it
abbrev pub Row : Type 0 → Type 0
Row A = List ℕ × Reads A

-- what the first row of this name reads behind it; `other` where no row has the name
abbrev pub named : {A : Type 0} → List (Row A) → List ℕ → Reads A → Reads A
named [] name other = other
named (row ∷ rows) name other = if bytes_eq name row.0 then row.1 else named rows name other

-- the calls on the node but for those that are given bytes
abbrev pub call_rows : List (Row Call)
call_rows =
    (codes "nmt", one (numeral event_named) calls.NmtEvent) ∷
    (codes "dll", two (numeral cs_event_named) flag calls.DllEvent) ∷
    (codes "error", error) ∷
    (codes "cycle", just calls.CycleComplete) ∷
    (codes "withdraw", just calls.Withdraw) ∷
    (codes "heard", two bits8 bits64 calls.Heard) ∷
    (codes "handout", just calls.HandOut) ∷
    (codes "arm", one bits64 calls.Arm) ∷
    (codes "tick", one bits64 calls.Tick) ∷
    (codes "range", two bits64 bits64 calls.Range) ∷
    (codes "margin", one bits64 calls.Margin) ∷
    (codes "add", two bits8 bits64 calls.Add) ∷
    (codes "remove", one bits8 calls.Remove) ∷
    (codes "due", just calls.NextDue) ∷ []

-- the call whose line has this name, by the words behind it; none where no call's line has it
unfoldable pub call_named : List ℕ → Reads Call
call_named name = named call_rows name (only None)

-- the other lines
abbrev pub line_rows : List (Row Reading)
line_rows =
    (codes "start", one setup start) ∷
    (codes "load", two update history load) ∷
    (codes "recipe", one components recipe) ∷
    (codes "weight", one bits64 weight) ∷
    (codes "frame", two bits64 frame_bytes frame) ∷
    (codes "watch", one watched watch) ∷
    (codes "unwatch", just unwatch) ∷
    (codes "lend", two (up_to 40) bits64 lend) ∷
    (codes "bitmap", just bitmap) ∷
    (codes "desk", one desk_bytes desk) ∷
    (codes "entrywrite", two bits64 entry entrywrite) ∷
    (codes "entryread", one entry_bytes entryread) ∷
    (codes "state", one (numeral state_named) state) ∷
    (codes "command", one (numeral command_named) command) ∷
    (codes "kind", one bits64 kind) ∷
    (codes "show", just show) ∷
    (codes "why", just why) ∷ []

-- what the line of this name says, by the words behind it
unfoldable pub line_named : List ℕ → Reads Reading
line_named name = named line_rows name (one (call_named name) node_says)

-- the words of a line, which are all there and no more
unfoldable pub words_say : List ℕ → Option Reading
words_say line = option_and_then (λ x. option_map (λ u. x.0) (ends x.1)) (line_named (first_word line) (behind_word line))

-- a line is a comment: its first character is `#`
abbrev pub is_comment : List ℕ → Bool
is_comment [] = false
is_comment (c ∷ cs) = c == 35

-- A line: the empty one and a comment say nothing, and any other has at most 16,384 characters.
abbrev pub line_says : List ℕ → Reading
line_says [] = nothing
line_says (c ∷ cs) =
    if c == 35 then nothing
    else (if nat_lt 16384 (length (c ∷ cs)) then unreadable else unwrap_or (words_say (c ∷ cs)) unreadable)
