-- All that a call leaves of what it was lent.
-- Assumes nothing.
use Rattle.std.specs.Prelude.{ℕ, ◌≡◌, List}
use Rattle.types.specs.Events.{read_event}
use Rattle.types.specs.CsEvents.{read_cs_event}
use Rattle.types.specs.Errors.{read_error}
use Rattle.std.specs.declared.option.Option.{Option}
use Rattle.entries.specs.Queue.{handed_out}
use Rattle.head.specs.Words.{head_of}
use Rattle.head.specs.Written.{earliest_written}
use Rattle.watched.specs.Watched.{Run, watching}
use Rattle.node.specs.Plain as plain
use Rattle.node.specs.Steps.{no_run, earliest}
use Rattle.node.specs.Run.{step}
use Rattle.node.specs.Refines.{Refines, Rings, left, joins_all, loaded_places, loaded_memory}
use Rattle.node.specs.InPlace.{unless_refused, nmt_words, dll_words, error_words, cycle_words, withdraw_words, arm_words, hand_out_words}
use Rattle.node.specs.Loaded.{load_words, bytes_named}
use Rattle.tick.specs.TickWords.{tick_words}
use Rattle.reception.specs.FrameIn.{frame_words}
use Rattle.calling.specs.declared.Call.{Call}
use Rattle.calling.specs.declared.Call.TheVariants.{NmtEvent, DllEvent, Error, CycleComplete, Withdraw, Heard, HandOut, Load, Arm, Tick, Range, Margin, Add, Remove, NextDue, Frame}
use Rattle.calling.specs.Held.{Held, plain_at, rings_of}
use Rattle.calling.specs.Values.{call_of, Reply, said}
use Rattle.calling.specs.Table.{row_of, if_lent}

-- every word of a head; where its queue and its history stand, and every byte of theirs
pub record Stored : Type 0 where
  pub words : List ℕ
  pub rings : Rings

module _ (x : Held) where
  -- what comes of a call
  abbrev pub step_of : Call → plain.Step
  step_of c = step (plain_at x) (call_of c x.lent)

  -- y for a call that is lent no run, z for one that is
  abbrev pub by_lent : {A : Type 0} → Call → A → A → A
  by_lent c y z = if_lent (row_of (call_of c x.lent)).lends y z

  -- the run that is left: a call that is not lent it leaves it
  abbrev pub lent_after : Call → Run
  lent_after c = by_lent c x.lent (step_of c).lent

  -- only words of the head are written
  abbrev words_only : List ℕ → Stored
  words_only ws = record { words = ws; rings = rings_of x }

  -- only those of the earliest moment, by the run that is left
  abbrev moment_only : Reply → Run → Stored
  moment_only o r =
      words_only (unless_refused o x.head (earliest_written x.head (earliest (watching r))))

  abbrev handed : Stored
  handed =
      record {
        words = hand_out_words x.head x.queue;
        rings = record (rings_of x) { queue = (handed_out x.queue (rings_of x).queue).queue };
      }

  abbrev loaded : List ℕ → Option (List ℕ) → Stored
  loaded ws es =
      record {
        words = ws;
        rings =
            record (rings_of x) {
              history = loaded_places es (rings_of x).history;
              history_bytes = loaded_memory es x.history;
            };
      }

  -- the entries of the crossings join queue and history
  abbrev crossed : List ℕ → plain.Step → Stored
  crossed ws s = record { words = ws; rings = joins_all (rings_of x) s.crossings }

  abbrev ticked : Reply → plain.Step → ℕ → Run → Stored
  ticked o s t r =
      crossed
      (unless_refused o x.head
      (earliest_written (tick_words x.head x.queue x.history t (watching x.lent))
      (earliest (watching r)))) s

  -- what is stored behind a call which answered o and left the run r; one that is refused leaves
  -- all as it was
  abbrev pub stored_after : Call → Reply → Run → Stored
  stored_after (NmtEvent n) o r = words_only (nmt_words x.head (read_event n))
  stored_after (DllEvent n b) o r = words_only (dll_words x.head b (read_cs_event n))
  stored_after (Error n a b) o r = words_only (error_words x.head (read_error n a b))
  stored_after CycleComplete o r = words_only (cycle_words x.head)
  stored_after Withdraw o r = words_only (withdraw_words x.head)
  stored_after (Heard n t) o r = moment_only o r
  stored_after HandOut o r = handed
  stored_after (Load u h) o r = loaded (load_words x.head u (bytes_named h)) (bytes_named h)
  stored_after (Arm t) o r = words_only (arm_words x.head t)
  stored_after (Tick t) o r = ticked o (step_of (Tick t)) t r
  stored_after (Range a b) o r = words_only x.head
  stored_after (Margin t) o r = words_only x.head
  stored_after (Add n p) o r = moment_only o r
  stored_after (Remove n) o r = moment_only o r
  stored_after NextDue o r = words_only x.head
  stored_after (Frame t b) o r =
      crossed (frame_words x.head x.queue x.history t b.now) (step_of (Frame t b))

-- A call c as it was made on x, which answered o and left x'. Head, answer and run are the plain
-- head's; the run is known whether or not it was lent; every word of the head is known, and every
-- byte of both memories with the places of queue and history.
pub record Made (x : Held) (c : Call) (o : Reply) (x' : Held) : Type 0 where
  pub refines :
      Refines (head_of x.head) x.queue x.history (call_of c x.lent)
      (left (head_of x'.head) (said o)) x'.queue x'.history (by_lent x c no_run x'.lent)
  pub lent : x'.lent ≡ lent_after x c
  pub words : x'.head ≡ (stored_after x c o x'.lent).words
  pub rings : rings_of x' ≡ (stored_after x c o x'.lent).rings
