-- What a line made of the NMT machine's state.
-- Assumes nothing.
use Rattle.std.specs.Prelude.{ℕ, List, Option, Some, None, unwrap_or}
use Rattle.std.specs.declared.result.Result.{Result}
use Rattle.std.specs.declared.result.Result.TheVariants.{Ok, Err}
use Rattle.types.specs.Pick.{pick}
use Rattle.types.specs.Events.{read_event}
use Rattle.types.specs.States.{same_state}
use Rattle.types.specs.declared.refusals.Refusal.{Refusal}
use Rattle.types.specs.declared.nmt.events.NmtEvent.{NmtEvent}
use Rattle.types.specs.declared.nmt.events.NmtEvent.TheVariants.{Timeout, Error, CnConfigurationComplete}
use Rattle.frames.specs.declared.Frame.{Frame}
use Rattle.frames.specs.Frame.{nmt_event_of, read_frame}
use Rattle.nmt.specs.declared.cn_state_machine.CnNmtStateMachine.{CnNmtStateMachine}
use Rattle.calling.specs.declared.Call.TheVariants as calls
use Rattle.weigh.specs.declared.WeighCall.TheVariants as weighing
use Rattle.script.specs.declared.Line.{Line}
use Rattle.script.specs.declared.Line.TheVariants as line
use Rattle.telling.specs.declared.moves.Cause.{Cause}
use Rattle.telling.specs.declared.moves.Cause.TheVariants as cause
use Rattle.telling.specs.declared.moves.Moved.{Moved}
use Rattle.telling.specs.Why.{left_by, position_of}

-- the event that moved a machine at a tick (RULES 7.5, 7.9) or by a frame (RULES 13.4, 13.5): this
-- one where the table leads the machine to the state that it is in now, else Error
abbrev pub event_of : NmtEvent → CnNmtStateMachine → CnNmtStateMachine → NmtEvent
event_of e m m' = pick (same_state (left_by (position_of m) e).position.state m'.current_state) e Error

-- the NMT event of a frame by the reading of its bytes; Error where they have none
abbrev pub event_read : Result Frame Refusal → NmtEvent
event_read (Ok f) = unwrap_or (nmt_event_of f.message) Error
event_read (Err r) = Error

-- the NMT event of a frame's bytes
abbrev pub frame_event : List ℕ → NmtEvent
frame_event bytes = event_read (read_frame bytes)

-- the event of a number, or else that of a tick
abbrev pub read_or : Result NmtEvent Refusal → NmtEvent → NmtEvent
read_or (Ok e) d = e
read_or (Err r) d = d

-- what moved a machine by a line: a start, the event that the line names, the ready word of a load,
-- that of a frame or Error, or Timeout or Error of a tick
abbrev pub cause_of : Line → CnNmtStateMachine → CnNmtStateMachine → Cause
cause_of (line.Start s) m m' = cause.Start
cause_of (line.Call (weighing.Node (calls.NmtEvent n))) m m' = cause.Event (read_or (read_event n) (event_of Timeout m m'))
cause_of (line.Call (weighing.Node (calls.Frame t b))) m m' = cause.Event (event_of (frame_event b.now) m m')
cause_of (line.Call (weighing.LoadRecipe cs)) m m' = cause.Event CnConfigurationComplete
cause_of l m m' = cause.Event (event_of Timeout m m')

-- how a line moved the machine of a node, where its state is another behind it
abbrev pub moved : Line → CnNmtStateMachine → CnNmtStateMachine → Option Moved
moved l m m' =
    pick (same_state m.current_state m'.current_state) None
    (Some (record { node = m'.node_id; from = m.current_state; to = m'.current_state; on = cause_of l m m' }))
