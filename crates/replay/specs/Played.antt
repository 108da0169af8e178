-- What the lines of a script do on a station, and what they print.
-- Assumes nothing.
use Rattle.std.specs.Prelude.{ℕ, ◌≡◌, ◌+◌, ◌<◌, length, Bool, true, false, ◌&&◌, nat_lt, max, min, if◌then◌else◌, Option, Some, None, MatchBool, MatchOption, MatchResult, List, [], ◌∷◌, ◌++◌, take, drop, set, replicate, codes}
use Rattle.std.specs.Fmt.{decimal}
use Rattle.std.specs.Io.BufRead.{first_piece, drop_through}
use Rattle.std.specs.declared.result.Result.{Result}
use Rattle.std.specs.declared.result.Result.TheVariants.{Ok, Err}
use Rattle.types.specs.declared.refusals.Refusal.{Refusal}
use Rattle.types.specs.declared.frame.error.kinds.DllErrorKind.{DllErrorKind}
use Rattle.types.specs.declared.nmt.states.NmtState.{NmtState}
use Rattle.types.specs.declared.nmt.events.NmtStateCommand.{NmtStateCommand}
use Rattle.types.specs.States.{read_state}
use Rattle.types.specs.Events.{read_command}
use Rattle.types.specs.Kinds.{kind_said, kind_behind}
use Rattle.entries.specs.Desk.{read_said, read_reply, write_said, write_reply, desk_after}
use Rattle.entries.specs.declared.status_response.ErrorEntry.{ErrorEntry}
use Rattle.head.specs.Words.{nmt_of}
use Rattle.nmt.specs.declared.cn_state_machine.CnNmtStateMachine.{CnNmtStateMachine}
use Rattle.watched.specs.Watched.{Run, run, no_node}
use Rattle.watched.specs.declared.nodes.WatchedNode.{WatchedNode}
use Rattle.bitmap.specs.Bitmap.{BitsWritten, bitmap_said, bitmap_reply}
use Rattle.start.specs.declared.start.Setup.{Setup}
use Rattle.calling.specs.declared.Answer.TheVariants as answer
use Rattle.weigh.specs.declared.WeighCall.{WeighCall}
use Rattle.weigh.specs.declared.WeighAnswer.{WeighAnswer}
use Rattle.weigh.specs.declared.WeighAnswer.TheVariants as weighing
use Rattle.weigh.specs.WeighParts.{Parts}
use Rattle.weigh.specs.WeighHeld.{Held, held}
use Rattle.weigh.specs.WeighValues.{Reply}
use Rattle.weigh.specs.WeighMade.{blank, Made, Started}
use Rattle.script.specs.declared.Line.{Line}
use Rattle.script.specs.declared.Line.TheVariants as line
use Rattle.script.specs.Grammar.{says, line_says}
use Rattle.telling.specs.declared.answers.Outcome.{Outcome}
use Rattle.telling.specs.declared.answers.Outcome.TheVariants as outcome
use Rattle.telling.specs.declared.answers.Bitmap.{Bitmap}
use Rattle.telling.specs.declared.styles.Style.{Style}
use Rattle.telling.specs.Texts.{joined}
use Rattle.telling.specs.Answers.{reply_text}
use Rattle.telling.specs.Shows.{show_text}
use Rattle.telling.specs.Why.{why_text, position_of}
use Rattle.telling.specs.Moves.{moved_text}
use Rattle.telling.specs.declared.moves.Moved.{Moved}
use Rattle.replay.specs.Traced.{moved}
use Rattle.replay.specs.declared.play.Options.{Options}
use Rattle.replay.specs.declared.station.Station.{Station}
use Rattle.replay.specs.declared.station.Said.{Said}
use Rattle.replay.specs.declared.station.Said.TheVariants as said

-- the run that the station lends: its places that are lent, and its number
abbrev pub lent_of : Station → Run
lent_of x = run (take x.places x.run) x.number

-- what a call at the station is made on
abbrev pub held_of : Station → Held
held_of x = held x.head x.queue x.history (lent_of x)

-- a station at which nothing has been started, lent or desk_set on the desk
abbrev pub fresh : Station
fresh =
    record {
      started = false;
      head = blank;
      queue = replicate 640 0;
      history = replicate 5080 0;
      run = replicate 40 no_node;
      places = 32;
      number = 0;
      desk = record { items = [] };
    }

-- the station with another run, of which so many places are lent, and with another number
abbrev pub with_run : Station → List WatchedNode → ℕ → ℕ → Station
with_run x ws places number = record x { run = ws; places = places; number = number }

-- the station with other bytes on the desk
abbrev pub with_desk : Station → List ℕ → Station
with_desk x bs = record x { desk = record { items = bs } }

-- the station after `watch`: one node more is watched, with as many places as that needs, where
-- there is one of the 40
abbrev pub watched_in : Station → WatchedNode → Station
watched_in x w =
    if nat_lt x.number 40 then with_run x (set x.run x.number w) (max x.places (x.number + 1)) (x.number + 1) else x

-- the station after `unwatch`: 32 places are lent, number 0, and every place is zeros
abbrev pub unwatched : Station → Station
unwatched x = with_run x (replicate 40 no_node) 32 0

-- the station after `lend`: so many places are lent, at most 40, with this number
abbrev pub lending : Station → ℕ → ℕ → Station
lending x places number = with_run x x.run (min places 40) number

-- the station after `desk`: the first 100 of these bytes are on the desk
abbrev pub desk_set : Station → List ℕ → Station
desk_set x bs = with_desk x (take 100 bs)

-- what a call leaves beside what it is lent: the places that are not lent, how many are, and the
-- desk
pub record Beside (x y : Station) : Type 0 where
  pub places : y.places ≡ x.places
  pub past : drop x.places y.run ≡ drop x.places x.run
  pub desk : y.desk ≡ x.desk

-- A call, as it was made.
pub record Called (c : WeighCall) (x : Station) (o : Reply) (y : Station) : Type 0 where
  pub made : Made (held_of x) c o (held_of y)
  pub started : y.started ≡ x.started
  pub beside : Beside x y

-- whether the head is started behind a start: where it is taken, and else where it was before
abbrev pub begun_by : Bool → Result (Unit {0}) Refusal → Bool
begun_by started (Ok u) = true
begun_by started (Err r) = started

-- what a start gave that left this head
abbrev pub given_by : Result (Unit {0}) Refusal → Parts → Result Parts Refusal
given_by (Ok u) v = Ok v
given_by (Err r) v = Err r

-- the head is another behind a start that is taken alone
abbrev pub HeadKept : Result (Unit {0}) Refusal → Parts → Parts → Type 0
HeadKept (Ok u) v w = Unit {0}
HeadKept (Err r) v w = w ≡ v

-- a start at the station x, which answered o and left y
pub record Began (s : Setup) (x : Station) (o : Result (Unit {0}) Refusal) (y : Station) : Type 0 where
  pub on : Started (lent_of x) s (given_by o y.head) (lent_of y)
  pub head : HeadKept o x.head y.head
  pub started : y.started ≡ begun_by x.started o
  pub queue : y.queue ≡ x.queue
  pub history : y.history ≡ x.history
  pub beside : Beside x y

-- The watched nodes as bits, or the refusal of the run.
abbrev pub Bits : Station → Result Bitmap Refusal → Type 0
Bits x (Ok b) = BitsWritten (lent_of x) (replicate 32 0) (Ok b.number) b.bytes
Bits x (Err r) = bitmap_said (Err r) ≡ bitmap_reply (lent_of x)

-- An entry that is written into the desk's bytes.
pub record Wrote (place : ℕ) (e : ErrorEntry) (x : Station) (o : Result (Unit {0}) Refusal) (y : Station) : Type 0 where
  pub said : write_said o ≡ write_reply x.desk.items place e
  pub left : y ≡ with_desk x (desk_after x.desk.items place e)

-- What a reply tells, of one kind: its answer is as P says.
abbrev pub Tells : {A : Type 0} → (Outcome → Option A) → (Result A Refusal → Type 0) → Said → Type 0
Tells kind P said.Nothing = ⊥
Tells kind P said.Unreadable = ⊥
Tells kind P said.Show = ⊥
Tells kind P said.Why = ⊥
Tells kind P (said.Reply r) = MatchResult r.0 (λ t. MatchOption (kind t) ⊥ (λ a. P (Ok a))) (λ e. P (Err e))

-- the answer that a reply tells, if any
abbrev pub answer_in : Outcome → Option WeighAnswer
answer_in (outcome.Answer a) = Some a
answer_in t = None

-- that a reply tells no more than that the call was taken
abbrev pub taken_in : Outcome → Option (Unit {0})
taken_in (outcome.Answer (weighing.Node answer.Taken)) = Some tt
taken_in t = None

-- the watched nodes as bits that a reply tells, if any
abbrev pub bitmap_in : Outcome → Option Bitmap
bitmap_in (outcome.Bitmap b) = Some b
bitmap_in t = None

-- the entry that a reply tells, if any
abbrev pub entry_in : Outcome → Option ErrorEntry
entry_in (outcome.Entry e) = Some e
entry_in t = None

-- the state that a reply tells, if any
abbrev pub state_in : Outcome → Option NmtState
state_in (outcome.State s) = Some s
state_in t = None

-- the state command that a reply tells, if any
abbrev pub command_in : Outcome → Option NmtStateCommand
command_in (outcome.Command c) = Some c
command_in t = None

-- the kind of error that a reply tells, if any
abbrev pub kind_in : Outcome → Option DllErrorKind
kind_in (outcome.Kind k) = Some k
kind_in t = None

-- an answer that tells nothing
abbrev pub taken_by : Result (Unit {0}) Refusal → Result Outcome Refusal
taken_by (Ok u) = Ok (outcome.Answer (weighing.Node answer.Taken))
taken_by (Err r) = Err r

-- whether a line can be played as things stand: a watch where there is a place, and what reaches
-- the head behind a start that was taken
abbrev pub takes : Line → Station → Bool
takes line.Nothing x = true
takes line.Unreadable x = true
takes (line.Start s) x = true
takes (line.Watch w) x = nat_lt x.number 40
takes line.Unwatch x = true
takes (line.Lend places number) x = true
takes (line.Desk bs) x = true
takes (line.Call c) x = x.started
takes line.Bitmap x = x.started
takes (line.EntryWrite place e) x = x.started
takes (line.EntryRead bs) x = x.started
takes (line.State n) x = x.started
takes (line.Command n) x = x.started
takes (line.Kind n) x = x.started
takes line.Show x = x.started
takes line.Why x = x.started

-- a line that tells nothing, and leaves another station
abbrev pub Quiet : Station → Said → Station → Type 0
Quiet z o y = (o ≡ said.Nothing) × (y ≡ z)

-- what a line does that can be played
abbrev pub Does : Line → Station → Said → Station → Type 0
Does line.Nothing x o y = Quiet x o y
Does line.Unreadable x o y = (o ≡ said.Unreadable) × (y ≡ x)
Does (line.Start s) x o y = Tells taken_in (λ r. Began s x r y) o
Does (line.Watch w) x o y = Quiet (watched_in x w) o y
Does line.Unwatch x o y = Quiet (unwatched x) o y
Does (line.Lend places number) x o y = Quiet (lending x places number) o y
Does (line.Desk bs) x o y = Quiet (desk_set x bs.now) o y
Does (line.Call c) x o y = Tells answer_in (λ r. Called c x r y) o
Does line.Bitmap x o y = Tells bitmap_in (Bits x) o × (y ≡ x)
Does (line.EntryWrite place e) x o y = Tells taken_in (λ r. Wrote place e x r y) o
Does (line.EntryRead bs) x o y = Tells entry_in (λ r. read_said r ≡ read_reply bs.now 0) o × (y ≡ x)
Does (line.State n) x o y = Tells state_in (λ r. r ≡ read_state n) o × (y ≡ x)
Does (line.Command n) x o y = Tells command_in (λ r. r ≡ read_command n) o × (y ≡ x)
Does (line.Kind n) x o y = Tells kind_in (λ r. kind_said r ≡ kind_behind n) o × (y ≡ x)
Does line.Show x o y = (o ≡ said.Show) × (y ≡ x)
Does line.Why x o y = (o ≡ said.Why) × (y ≡ x)

-- a line that is played where it can be; where it can't it is unreadable and changes nothing
abbrev pub Plays : Line → Station → Said → Station → Type 0
Plays l x o y = MatchBool (takes l x) (Does l x o y) ((o ≡ said.Unreadable) × (y ≡ x))

-- what `show` prints at a station
abbrev pub station_text : Style → Station → List ℕ
station_text y x = show_text y x.head x.queue x.history (take x.places x.run) x.number x.desk.items

-- what `why` prints at a station
abbrev pub standing_text : Station → List ℕ
standing_text x = why_text (position_of (nmt_of x.head.node))

-- what a line is answered, which is the n-th of the script, counted from 1, and left the station x
abbrev pub said_text : Style → Said → ℕ → Station → List ℕ
said_text y said.Nothing n x = []
said_text y said.Unreadable n x = joined (codes "(unreadable " ∷ decimal n ∷ codes ")\n" ∷ [])
said_text y (said.Reply r) n x = reply_text y r.0
said_text y said.Show n x = station_text y x
said_text y said.Why n x = standing_text x

-- where moves are traced, the machine that a line finds
abbrev pub found_by : Bool → Station → Option CnNmtStateMachine
found_by true x = Some (nmt_of x.head.node)
found_by false x = None

-- how the line moved that machine
abbrev pub moved_from : Option CnNmtStateMachine → Line → Station → Option Moved
moved_from None l y = None
moved_from (Some m) l y = moved l m (nmt_of y.head.node)

-- what the trace prints of it
abbrev pub trace_text : Option Moved → List ℕ
trace_text None = []
trace_text (Some m) = moved_text m

-- what a line prints that is played from one station to the next
abbrev pub line_text : Options → Line → Said → ℕ → Station → Station → List ℕ
line_text how l o n x y = said_text how.style o n y ++ trace_text (moved_from (found_by how.trace x) l y)

-- whether a line could be read and played
abbrev pub is_played : Said → Bool
is_played said.Unreadable = false
is_played o = true

-- The bytes of a script from the n-th line on, what is printed of them by the options, and whether
-- each line could be played: each line up to its newline, or to the end, on the station that the
-- last one left.
pub data Script (how : Options) : Station → ℕ → List ℕ → List ℕ → Bool → Type 0 where
  ended : {x : Station} {n : ℕ} → Script how x n [] [] true
  goes :
      {x y : Station} {n : ℕ} {bs page : List ℕ} {whole : Bool} (l : Line) (o : Said) →
      0 < length bs →
      says l ≡ line_says (first_piece 10 bs) →
      Plays l x o y →
      Script how y (n + 1) (drop_through 10 bs) page whole →
      Script how x n bs (line_text how l o n x y ++ page) (is_played o && whole)
