-- What the plain head does at each call, and at a list of calls.
-- Assumes nothing.
use Rattle.std.specs.Prelude.{List, [], ◌∷◌}
use Rattle.types.specs.Events.{read_event}
use Rattle.types.specs.CsEvents.{read_cs_event}
use Rattle.types.specs.Errors.{read_error}
use Rattle.counters.specs.Counters.{completed}
use Rattle.counters.specs.Marks.{cycle_marks}
use Rattle.watched.specs.Watched.{heard_at, Run, changing}
use Rattle.node.specs.Plain.{Plain, Call, nmt_event, dll_event, error, cycle_complete, withdraw, heard, hand_out, load, arm, tick, range, margin, add, remove, next_due, frame, Answer, taken, Step}
use Rattle.node.specs.Steps.{tried, with_nmt, with_soc, with_values, no_run, answers, declines, leaves, nmt_step, dll_step, error_step, cycle_taken, withdrawn, withdraw_tests, heard_tests, add_tests, remove_tests, added, removed, hand_out_step, updated, updated_history, arm_tests, armed}
use Rattle.node.specs.Tick.{tick_step}
use Rattle.node.specs.Range.{range_step, margin_step}
use Rattle.node.specs.Due.{due_step}
use Rattle.node.specs.FrameSteps.{frame_step}

-- what the plain head does at a call
abbrev pub step : Plain → Call → Step
step p (nmt_event n) = nmt_step p (read_event n)
step p (dll_event n expected) = dll_step p expected (read_cs_event n)
step p (error kind a b) = error_step p (read_error kind a b)
step p cycle_complete = cycle_taken p (completed p.errors) (cycle_marks p.errors)
step p withdraw = tried (withdraw_tests p) (declines p no_run) (answers (with_nmt p (withdrawn p.nmt)) taken no_run)
step p (heard n t r) = tried (heard_tests n t r) (declines p r) (leaves p (changing (heard_at n t) r))
step p hand_out = hand_out_step p
step p (load values h) = answers (with_values p (updated p.od values) (updated_history p.history h)) taken no_run
step p (tick t r) = tick_step p t r
step p (arm t) = tried (arm_tests t) (declines p no_run) (answers (with_soc p (armed p.soc p.od t)) taken no_run)
step p (range earliest latest) = range_step p earliest latest
step p (margin t) = margin_step p t
step p (add n o r) = tried (add_tests n o r) (declines p r) (leaves p (added n o r))
step p (remove n r) = tried (remove_tests n r) (declines p r) (leaves p (removed n r))
step p (next_due r) = due_step p r
step p (frame t bytes) = frame_step t p bytes

-- a list of calls, each on the head that the last one left: the head after it
unfoldable pub step_all : Plain → List Call → Plain
step_all p [] = p
step_all p (c ∷ cs) = step_all (step p c).head cs

-- what each call of a list answered, with what it left of what it was lent
pub record Said : Type 0 where
  pub answer : Answer
  pub lent : Run

-- what the calls of a list answer, each on the head that the last one left
unfoldable pub said_all : Plain → List Call → List Said
said_all p [] = []
said_all p (c ∷ cs) = record { answer = (step p c).answer; lent = (step p c).lent } ∷ said_all (step p c).head cs
