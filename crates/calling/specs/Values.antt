-- Which of the plain head's calls a value of `Call` is, with the run that is lent, and what an
-- answer says.
-- Assumes nothing.
use Rattle.std.specs.Prelude.{Bool, true, false, List, [], ◌∷◌}
use Rattle.types.specs.declared.nmt.states.NmtState.{NmtState}
use Rattle.types.specs.declared.refusals.Refusal.{Refusal}
use Rattle.std.specs.declared.option.Option.{Option}
use Rattle.std.specs.declared.option.Option.TheVariants.{Some, None}
use Rattle.std.specs.declared.result.Result.{Result}
use Rattle.watched.specs.Watched.{Run}
use Rattle.node.specs.Plain as plain
use Rattle.node.specs.Refines.{history_update}
use Rattle.node.specs.InPlace.{answered, nmt_says, dll_says, error_says}
use Rattle.node.specs.Loaded.{bytes_named}
use Rattle.tick.specs.TickIn.{tick_says}
use Rattle.reception.specs.FrameIn.{frame_says}
use Rattle.calling.specs.declared.Call.{Call}
use Rattle.calling.specs.declared.Call.TheVariants.{NmtEvent, DllEvent, Error, CycleComplete, Withdraw, Heard, HandOut, Load, Arm, Tick, Range, Margin, Add, Remove, NextDue, Frame}
use Rattle.calling.specs.declared.Answer.{Answer}
use Rattle.calling.specs.declared.Answer.TheVariants as answer

-- the plain head's call that a value of `Call` is, with the run r, where it is lent one
abbrev pub call_of : Call → Run → plain.Call
call_of (NmtEvent n) r = plain.nmt_event n
call_of (DllEvent n b) r = plain.dll_event n b
call_of (Error n a b) r = plain.error n a b
call_of CycleComplete r = plain.cycle_complete
call_of Withdraw r = plain.withdraw
call_of (Heard n t) r = plain.heard n t r
call_of HandOut r = plain.hand_out
call_of (Load u h) r = plain.load u (history_update (bytes_named h))
call_of (Arm t) r = plain.arm t
call_of (Tick t) r = plain.tick t r
call_of (Range a b) r = plain.range a b
call_of (Margin t) r = plain.margin t
call_of (Add n o) r = plain.add n o r
call_of (Remove n) r = plain.remove n r
call_of NextDue r = plain.next_due r
call_of (Frame t b) r = plain.frame t b.now

-- what an answer says, as the plain head's
abbrev pub says : Answer → plain.Answer
says answer.Taken = plain.taken
says (answer.Nmt t) = nmt_says t
says (answer.Dll es) = dll_says es
says (answer.Error t) = error_says t
says (answer.Cycle b) = plain.cycle_answer b
says (answer.HandedOut e) = plain.hand_out_answer e
says (answer.Tick es) = tick_says es
says (answer.Range v) = plain.range_answer v
says (answer.Margin z) = plain.margin_answer z
says (answer.Due d) = plain.due_answer d
says (answer.Frame a) = frame_says a

-- what comes back from a call: its answer or its refusal
abbrev pub Reply : Type 0
Reply = Result Answer Refusal

-- what a reply says, as the plain head's answer
abbrev pub said : Reply → plain.Answer
said = answered says

-- whether some states were entered
abbrev pub enters_some : List NmtState → Bool
enters_some [] = false
enters_some (s ∷ ss) = true

-- whether what an NMT event answered tells of a reset, where one came
abbrev pub event_tells_reset : Option plain.NmtReply → Bool
event_tells_reset None = false
event_tells_reset (Some n) = enters_some n.reset.states

-- whether an answer tells of a reset: it names the states that were entered (RULES 4.4)
abbrev pub tells_reset : plain.Answer → Bool
tells_reset (plain.nmt_answer es r) = enters_some r.states
tells_reset plain.taken = false
tells_reset (plain.refused n) = false
tells_reset (plain.dll_answer es) = false
tells_reset (plain.error_answer a s es) = false
tells_reset (plain.cycle_answer b) = false
tells_reset (plain.hand_out_answer e) = false
tells_reset (plain.tick_answer es) = false
tells_reset (plain.range_answer v) = false
tells_reset (plain.margin_answer z) = false
tells_reset (plain.due_answer d) = false
tells_reset plain.not_ours = false
tells_reset (plain.frame_answer es n) = event_tells_reset n
