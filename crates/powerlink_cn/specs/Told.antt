-- What stands where the answer of a weigh head goes out. Where the answer is of another kind, or a
-- refusal, it stays; of the contract of `weigh`, each call answers by its own kind.
-- Assumes nothing.
use Rattle.std.specs.declared.result.Result.{Result}
use Rattle.std.specs.declared.result.Result.TheVariants.{Ok, Err}
use Rattle.types.specs.declared.refusals.Refusal.{Refusal}
use Rattle.calling.specs.declared.Answer.{Answer}
use Rattle.calling.specs.declared.Answer.TheVariants.{Taken, Nmt, Dll, Error, Cycle, HandedOut, Tick, Range, Margin, Due, Frame}
use Rattle.weigh.specs.declared.WeighAnswer.{WeighAnswer}
use Rattle.weigh.specs.declared.WeighAnswer.TheVariants.{Node, Loaded, Weight}
use Rattle.powerlink_cn.specs.Answers.{c_nmt, c_errors, c_taken, c_cycle, c_frame}
use Rattle.powerlink_cn.specs.Entries.{c_handed_out}
use Rattle.powerlink_cn.specs.declared.answers.PlcnErrors.{PlcnErrors}
use Rattle.powerlink_cn.specs.declared.answers.PlcnNmtAnswer.{PlcnNmtAnswer}
use Rattle.powerlink_cn.specs.declared.answers.PlcnErrorAnswer.{PlcnErrorAnswer}
use Rattle.powerlink_cn.specs.declared.answers.PlcnCycleAnswer.{PlcnCycleAnswer}
use Rattle.powerlink_cn.specs.declared.answers.PlcnFrameAnswer.{PlcnFrameAnswer}
use Rattle.powerlink_cn.specs.declared.entry.PlcnHandedOut.{PlcnHandedOut}

-- what is told of an answer, or what stood there
abbrev pub told : {C : Type 0} → (Answer → C → C) → Result WeighAnswer Refusal → C → C
told tell (Ok (Node a)) old = tell a old
told tell (Ok Loaded) old = old
told tell (Ok (Weight g)) old = old
told tell (Err r) old = old

-- of an NMT event
abbrev pub tell_nmt : Answer → PlcnNmtAnswer → PlcnNmtAnswer
tell_nmt (Nmt t) old = c_nmt t
tell_nmt Taken old = old
tell_nmt (Dll es) old = old
tell_nmt (Error t) old = old
tell_nmt (Cycle b) old = old
tell_nmt (HandedOut e) old = old
tell_nmt (Tick es) old = old
tell_nmt (Range v) old = old
tell_nmt (Margin z) old = old
tell_nmt (Due d) old = old
tell_nmt (Frame a) old = old

-- of a DLL event or a tick
abbrev pub tell_errors : Answer → PlcnErrors → PlcnErrors
tell_errors (Nmt t) old = old
tell_errors Taken old = old
tell_errors (Dll es) old = c_errors es
tell_errors (Error t) old = old
tell_errors (Cycle b) old = old
tell_errors (HandedOut e) old = old
tell_errors (Tick es) old = c_errors es
tell_errors (Range v) old = old
tell_errors (Margin z) old = old
tell_errors (Due d) old = old
tell_errors (Frame a) old = old

-- of an error for the counters
abbrev pub tell_error : Answer → PlcnErrorAnswer → PlcnErrorAnswer
tell_error (Nmt t) old = old
tell_error Taken old = old
tell_error (Dll es) old = old
tell_error (Error t) old = c_taken t
tell_error (Cycle b) old = old
tell_error (HandedOut e) old = old
tell_error (Tick es) old = old
tell_error (Range v) old = old
tell_error (Margin z) old = old
tell_error (Due d) old = old
tell_error (Frame a) old = old

-- of a complete cycle
abbrev pub tell_cycle : Answer → PlcnCycleAnswer → PlcnCycleAnswer
tell_cycle (Nmt t) old = old
tell_cycle Taken old = old
tell_cycle (Dll es) old = old
tell_cycle (Error t) old = old
tell_cycle (Cycle b) old = c_cycle b
tell_cycle (HandedOut e) old = old
tell_cycle (Tick es) old = old
tell_cycle (Range v) old = old
tell_cycle (Margin z) old = old
tell_cycle (Due d) old = old
tell_cycle (Frame a) old = old

-- of the handing out of an entry
abbrev pub tell_handed_out : Answer → PlcnHandedOut → PlcnHandedOut
tell_handed_out (Nmt t) old = old
tell_handed_out Taken old = old
tell_handed_out (Dll es) old = old
tell_handed_out (Error t) old = old
tell_handed_out (Cycle b) old = old
tell_handed_out (HandedOut e) old = c_handed_out e
tell_handed_out (Tick es) old = old
tell_handed_out (Range v) old = old
tell_handed_out (Margin z) old = old
tell_handed_out (Due d) old = old
tell_handed_out (Frame a) old = old

-- of a frame
abbrev pub tell_frame : Answer → PlcnFrameAnswer → PlcnFrameAnswer
tell_frame (Nmt t) old = old
tell_frame Taken old = old
tell_frame (Dll es) old = old
tell_frame (Error t) old = old
tell_frame (Cycle b) old = old
tell_frame (HandedOut e) old = old
tell_frame (Tick es) old = old
tell_frame (Range v) old = old
tell_frame (Margin z) old = old
tell_frame (Due d) old = old
tell_frame (Frame a) old = c_frame a

-- where the answer to an NMT event goes out
abbrev pub nmt_told : Result WeighAnswer Refusal → PlcnNmtAnswer → PlcnNmtAnswer
nmt_told = told tell_nmt

-- where that to a DLL event or a tick does
abbrev pub errors_told : Result WeighAnswer Refusal → PlcnErrors → PlcnErrors
errors_told = told tell_errors

-- where that to an error does
abbrev pub error_told : Result WeighAnswer Refusal → PlcnErrorAnswer → PlcnErrorAnswer
error_told = told tell_error

-- where that to a complete cycle does
abbrev pub cycle_told : Result WeighAnswer Refusal → PlcnCycleAnswer → PlcnCycleAnswer
cycle_told = told tell_cycle

-- where that to the handing out of an entry does
abbrev pub handed_out_told : Result WeighAnswer Refusal → PlcnHandedOut → PlcnHandedOut
handed_out_told = told tell_handed_out

-- where that to a frame does
abbrev pub frame_told : Result WeighAnswer Refusal → PlcnFrameAnswer → PlcnFrameAnswer
frame_told = told tell_frame
