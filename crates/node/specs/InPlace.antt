-- What a call on a head in words has to leave: the one predicate of their contracts, what each
-- answers, and every word that it leaves.
-- Assumes nothing.
use Rattle.std.specs.Prelude.{ℤ, ℕ, ◌≡◌, Bool, List, set}
use Rattle.types.specs.Pick.{pick}
use Rattle.types.specs.States.{same_state}
use Rattle.types.specs.Errors.{reported}
use Rattle.types.specs.Refusals.{refusal_number}
use Rattle.types.specs.declared.nmt.states.NmtState.TheVariants.{NmtReadyToOperate}
use Rattle.types.specs.declared.nmt.events.NmtEvent.{NmtEvent}
use Rattle.std.specs.declared.result.Result.{Result}
use Rattle.std.specs.declared.result.Result.TheVariants.{Ok, Err}
use Rattle.types.specs.declared.refusals.Refusal.{Refusal}
use Rattle.types.specs.declared.frame.cs_state_machine.DllCsEvent.{DllCsEvent}
use Rattle.types.specs.declared.frame.error.types.DllError.{DllError}
use Rattle.types.specs.declared.frame.error.types.DllErrors.{DllErrors}
use Rattle.node.specs.declared.range.SocVerdict.{SocVerdict}
use Rattle.nmt.specs.Resets.{is_reset, passed}
use Rattle.nmt.specs.Nmt as Nmt
use Rattle.dll.specs.Dll as Dll
use Rattle.counters.specs.Counters as Counters
use Rattle.entries.specs.Queue.{handed_out}
use Rattle.node.specs.Plain.{Call, Answer, refused, taken, nmt_answer, dll_answer, error_answer, range_answer, margin_answer}
use Rattle.watched.specs.Watched.{in_time, Run, watching}
use Rattle.node.specs.Steps.{no_run, earliest, armed}
use Rattle.node.specs.Refines.{Refines, SamePlaces, left}
use Rattle.node.specs.declared.calls.NmtTaken.{NmtTaken}
use Rattle.counters.specs.declared.counters.ErrorTaken.{ErrorTaken}
use Rattle.head.specs.Places as at
use Rattle.head.specs.Words.{word, state_of, nmt_of, dll_state, counter_at, errors_of, soc_of, od_of, queue_of, head_of}
use Rattle.head.specs.Written.{earliest_written, nmt_written, forgotten_written, counter_written, levels_written, soc_written, queue_written}

-- Of a call c on the words ws, which answered a and left the words ws': the head that they stand
-- for is that of the plain head's step, queue and history stand where they stood, and the words are
-- all known.
pub record InPlace (ws : List ℕ) (c : Call) (a : Answer) (ws' known : List ℕ) : Type 0 where
  pub refines : (q m : List ℕ) → Refines (head_of ws) q m c (left (head_of ws') a) q m no_run
  pub places : SamePlaces (head_of ws) (head_of ws')
  pub words : ws' ≡ known

-- Of a call that is lent the words to read alone: it leaves them.
abbrev pub Reading : List ℕ → Call → Answer → Type 0
Reading ws c a = InPlace ws c a ws ws

-- what a call answers: the number of its refusal, or what it says
abbrev pub answered : {A : Type 0} → (A → Answer) → Result A Refusal → Answer
answered says (Ok a) = says a
answered says (Err r) = refused (refusal_number r)

-- the answer of a call that says no more than that it was taken or refused
abbrev pub said : Result (Unit {0}) Refusal → Answer
said = answered (λ (_ : Unit {0}). taken)

-- the answer of an NMT event that is taken: its errors, and what a reset passes
abbrev pub nmt_says : NmtTaken → Answer
nmt_says t = nmt_answer (reported t.errors) (passed t.reset)

-- the answer of an NMT event
abbrev pub nmt_said : Result NmtTaken Refusal → Answer
nmt_said = answered nmt_says

-- the answer of a DLL event that is taken: its errors
abbrev pub dll_says : DllErrors → Answer
dll_says es = dll_answer (reported es)

-- the answer of a DLL event
abbrev pub dll_said : Result DllErrors Refusal → Answer
dll_said = answered dll_says

-- the answer of an error that is taken: its action, whether it signals, what is logged
abbrev pub error_says : ErrorTaken → Answer
error_says t = error_answer t.action t.signal (reported t.logged)

-- the answer of an error given to the counters
abbrev pub error_said : Result ErrorTaken Refusal → Answer
error_said = answered error_says

-- the answer of a range: lost, kept or open
abbrev pub range_said : Result SocVerdict Refusal → Answer
range_said = answered range_answer

-- the answer of a margin: a number of µs with a sign
abbrev pub margin_said : Result ℤ Refusal → Answer
margin_said = answered margin_answer

-- what a call leaves of something that it was lent: x, as it was, where the call is refused, else y
abbrev pub unless_refused : {T A : Type 0} → Result T Refusal → A → A → A
unless_refused (Ok _) x y = y
unless_refused (Err r) x y = x

-- Of a call c that is lent a run, on the words ws, which answered a and left the words ws' and the
-- run r: head and run are the plain head's, queue and history stand where they stood, and of the
-- head's words those of the earliest moment are written; by a call that is refused none.
pub record OnRun (ws : List ℕ) (c : Call) (a : Result (Unit {0}) Refusal) (ws' : List ℕ) (r : Run) : Type 0 where
  pub refines : (q m : List ℕ) → Refines (head_of ws) q m c (left (head_of ws') (said a)) q m r
  pub places : SamePlaces (head_of ws) (head_of ws')
  pub words : ws' ≡ unless_refused a ws (earliest_written ws (earliest (watching r)))

-- the words after a withdrawal: `ready` is off; at ReadyToOperate, where it is refused, all stay
abbrev pub withdraw_words : List ℕ → List ℕ
withdraw_words ws = pick (same_state (state_of (word ws at.state)) NmtReadyToOperate) ws (set ws at.ready 0)

-- the words after what a reset forgets, where the event is a reset
abbrev pub reset_words : Bool → List ℕ → List ℕ
reset_words b ws = pick b (forgotten_written ws) ws

-- the words after an NMT event: state, enabled and ready are written, and a reset forgets
abbrev pub processed_words : List ℕ → NmtEvent → List ℕ
processed_words ws e = reset_words (is_reset e) (nmt_written ws (Nmt.processed (nmt_of ws) e).machine)

-- Of an NMT event e on the words ws, which answered t and left ws': the machine's errors and reset,
-- and every word.
pub record Processed (ws : List ℕ) (e : NmtEvent) (t : NmtTaken) (ws' : List ℕ) : Type 0 where
  pub errors : reported t.errors ≡ (Nmt.processed (nmt_of ws) e).errors
  pub reset : passed t.reset ≡ (Nmt.processed (nmt_of ws) e).reset
  pub words : ws' ≡ processed_words ws e

-- the words after an NMT event by the reading of its number: those of the event, or all as they
-- were
abbrev pub nmt_words : List ℕ → Result NmtEvent Refusal → List ℕ
nmt_words ws (Ok e) = processed_words ws e
nmt_words ws (Err r) = ws

-- what the DLL machine in the words makes of an event, in their NMT state
abbrev pub dll_outcome_of : List ℕ → DllCsEvent → Bool → Dll.CsOutcome
dll_outcome_of ws e expected =
    Dll.cs_processed (dll_state (word ws at.dll)) e (state_of (word ws at.state)) expected

-- the words after a DLL event: the DLL state is written
abbrev pub dll_event_words : List ℕ → DllCsEvent → Bool → List ℕ
dll_event_words ws e expected =
    set ws at.dll (Dll.cs_state_number (dll_outcome_of ws e expected).state)

-- Of a DLL event e on the words ws, which reported es and left ws': the machine's errors, and every
-- word.
pub record DllProcessed (ws : List ℕ) (e : DllCsEvent) (expected : Bool) (es : DllErrors) (ws' : List ℕ) : Type 0 where
  pub errors : reported es ≡ (dll_outcome_of ws e expected).errors
  pub words : ws' ≡ dll_event_words ws e expected

-- the words after a DLL event by the reading of its number: the DLL state is written, or all stay
abbrev pub dll_words : List ℕ → Bool → Result DllCsEvent Refusal → List ℕ
dll_words ws expected (Ok e) = dll_event_words ws e expected
dll_words ws expected (Err r) = ws

-- the words after an error with this effect: only the counter that it counts for changes, or the
-- count of lost links
abbrev pub effect_words : List ℕ → Counters.Effect → List ℕ
effect_words ws (Counters.counts k) = counter_written ws k (Counters.after_error (counter_at ws (at.counter k))).counter
effect_words ws Counters.loses_link = set ws at.links (Counters.add_top (word ws at.links) 1)
effect_words ws Counters.is_logged = ws
effect_words ws Counters.nothing = ws

-- the words after an error by the reading of its kind: those of its effect, or all as they were
abbrev pub error_words : List ℕ → Result DllError Refusal → List ℕ
error_words ws (Ok e) = effect_words ws (Counters.effect e)
error_words ws (Err r) = ws

-- the words after a completed cycle: each level above 0 falls by 1
abbrev pub cycle_words : List ℕ → List ℕ
cycle_words ws = levels_written ws (Counters.lowered (errors_of ws))

-- the words after an SoC at t: the watch over the SoC is written
abbrev pub armed_words : List ℕ → ℕ → List ℕ
armed_words ws t = soc_written ws (armed (soc_of ws) (od_of ws) t)

-- the words after an arm at t; after one that is refused all stay
abbrev pub arm_words : List ℕ → ℕ → List ℕ
arm_words ws t = pick (in_time t) (armed_words ws t) ws

-- the words after a hand-out: the places of the queue are written
abbrev pub hand_out_words : List ℕ → List ℕ → List ℕ
hand_out_words ws q = queue_written ws (handed_out q (queue_of ws)).queue
