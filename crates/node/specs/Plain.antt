-- The plain head: what a controlled node keeps, in plain values. The queue is a list, oldest first,
-- the history one, newest first.
-- Assumes nothing.
use Rattle.std.specs.Prelude.{ℕ, Bool, List, ℤ}
use Rattle.types.specs.declared.nmt.events.NmtEvent.{NmtEvent}
use Rattle.types.specs.declared.frame.error.types.DllError.{DllError}
use Rattle.types.specs.declared.frame.error.types.NmtAction.{NmtAction}
use Rattle.nmt.specs.Resets.{Passed}
use Rattle.nmt.specs.declared.cn_state_machine.CnNmtStateMachine.{CnNmtStateMachine}
use Rattle.dll.specs.declared.cs_state_machine.DllCsState.{DllCsState}
use Rattle.counters.specs.Marks.{Mark}
use Rattle.counters.specs.declared.counters.CnErrorCounters.{CnErrorCounters}
use Rattle.counters.specs.Counters.{Thresholds}
use Rattle.entries.specs.declared.status_response.ErrorEntry.{ErrorEntry}
use Rattle.std.specs.declared.option.Option.{Option}
use Rattle.head.specs.declared.state.SocWatch.{SocWatch}
use Rattle.head.specs.declared.state.Dictionary.{Dictionary}
use Rattle.node.specs.declared.load.DictionaryUpdate.{DictionaryUpdate}
use Rattle.node.specs.declared.range.SocVerdict.{SocVerdict}
use Rattle.watched.specs.Watched.{Run}

-- what a head keeps (RULES 1)
pub record Plain : Type 0 where
  pub nmt : CnNmtStateMachine
  pub dll : DllCsState
  -- the error counters
  pub errors : CnErrorCounters
  -- the watch over the SoC
  pub soc : SocWatch
  -- the values of the dictionary
  pub od : Dictionary
  -- how many entries the emergency queue may hold
  pub capacity : ℕ
  -- the emergency queue, oldest first
  pub queue : List ErrorEntry
  -- the error history, newest first
  pub history : List ErrorEntry
  -- the earliest moment in µs at which a watched node would be late, or none
  pub earliest : Option ℕ

-- a load's history: entries, newest first, or that it is left
pub data HistoryUpdate : Type 0 where
  set : List ErrorEntry → HistoryUpdate
  keep : HistoryUpdate

-- the calls with their arguments: numbers, times, and the run of watched nodes that is lent
pub data Call : Type 0 where
  -- an NMT event's number
  nmt_event : ℕ → Call
  -- a DLL event's number, and whether a PReq is expected
  dll_event : ℕ → Bool → Call
  -- an error's kind, and the two numbers that it may carry
  error : ℕ → ℕ → ℕ → Call
  cycle_complete : Call
  withdraw : Call
  -- a node, and the time in µs at which it was heard
  heard : ℕ → ℕ → Run → Call
  hand_out : Call
  -- values of the dictionary and a history, each of which may be left out
  load : DictionaryUpdate → HistoryUpdate → Call
  -- the time of an SoC in µs
  arm : ℕ → Call
  -- now, in µs
  tick : ℕ → Run → Call
  -- the earliest and the latest reading of a clock, in µs
  range : ℕ → ℕ → Call
  -- one reading of a clock, in µs
  margin : ℕ → Call
  -- a node, and its timeout in µs
  add : ℕ → ℕ → Run → Call
  -- a node
  remove : ℕ → Run → Call
  next_due : Run → Call
  -- a frame's time of arrival, and its bytes
  frame : ℕ → List ℕ → Call

-- what start is given
pub record Start : Type 0 where
  -- the node's number; another number is refused by 1, NodeNumber
  pub node : ℕ
  -- the feature flags
  pub flags : ℕ
  -- the basic timeout in µs
  pub timeout : ℕ
  -- how many entries the emergency queue may hold; above 32 it is refused by 2, QueueCapacity
  pub capacity : ℕ
  -- the values of the dictionary
  pub od : Dictionary
  -- a threshold for each of the seven kinds; above 1,000,000 it is refused by 14, ThresholdLimit
  pub thresholds : Thresholds
  -- the run of watched nodes that is lent; where it is not well formed it is refused by 3,
  -- WatchedNodes
  pub watched : Run

-- what the NMT event of a frame answers: the errors reported, the states entered and the ranges to
-- restore
pub record NmtReply : Type 0 where
  pub errors : List DllError
  pub reset : Passed

-- what a call answers: the number of its refusal, or, where it is taken, one of the others
pub data Answer : Type 0 where
  -- the number of the refusal
  refused : ℕ → Answer
  taken : Answer
  -- the errors reported, the states entered and the ranges to restore
  nmt_answer : List DllError → Passed → Answer
  -- the errors reported
  dll_answer : List DllError → Answer
  -- the action asked for, whether it signals, what is logged
  error_answer : NmtAction → Bool → List DllError → Answer
  -- whether the last level reached 0
  cycle_answer : Bool → Answer
  -- the entry handed out, or none
  hand_out_answer : Option ErrorEntry → Answer
  -- what a tick logged
  tick_answer : List DllError → Answer
  -- lost, kept or open
  range_answer : SocVerdict → Answer
  -- a number of µs with a sign
  margin_answer : ℤ → Answer
  -- the moment of the next tick in µs, or none
  due_answer : Option ℕ → Answer
  -- a frame for another node
  not_ours : Answer
  -- what a frame logged, and what its NMT event answered, where one came
  frame_answer : List DllError → Option NmtReply → Answer

-- the NMT event that a call gave the machine, or none
pub data EventMade : Type 0 where
  made : NmtEvent → EventMade
  no_event : EventMade

-- what comes of a call: what it leaves and answers, and what is counted of it
pub record Step : Type 0 where
  pub head : Plain
  pub answer : Answer
  -- the run of watched nodes that was lent, as the call leaves it; an empty one where none was
  pub lent : Run
  -- the NMT event that it gave the machine, in a tick too
  pub event : EventMade
  -- what it did to the error counters
  pub marks : List Mark
  -- of these marks, those of the errors of a tick's SoC check
  pub checked : List Mark
  -- the entries of the crossings there
  pub crossings : List ErrorEntry

-- what comes of start: a head, or the number of a refusal
pub data Begun : Type 0 where
  begins : Plain → Begun
  declined : ℕ → Begun

-- what start leaves, with the run that was lent
pub record FirstStep : Type 0 where
  pub begun : Begun
  pub lent : Run
