-- A frame at the plain head (RULES 13).
-- Assumes nothing.
use Rattle.std.specs.Prelude.{ℕ, Bool, List, [], ◌∷◌, eqb}
use Rattle.types.specs.Pick.{pick, either}
use Rattle.types.specs.Types.{broadcast_node}
use Rattle.types.specs.Frames.{frame_cs_event}
use Rattle.types.specs.Refusals.{refusal_number}
use Rattle.types.specs.declared.types.NodeId.{NodeId}
use Rattle.types.specs.declared.refusals.Refusal.{Refusal}
use Rattle.types.specs.declared.nmt.events.NmtEvent.{NmtEvent}
use Rattle.std.specs.declared.result.Result.{Result}
use Rattle.std.specs.declared.result.Result.TheVariants.{Ok, Err}
use Rattle.std.specs.declared.option.Option.{Option}
use Rattle.std.specs.declared.option.Option.TheVariants.{Some, None}
use Rattle.frames.specs.declared.Message.{Message}
use Rattle.frames.specs.declared.Message.TheVariants.{SoC}
use Rattle.frames.specs.declared.Frame.{Frame}
use Rattle.frames.specs.Frame.{message_type, nmt_event_of, read_frame}
use Rattle.nmt.specs.Nmt as Nmt
use Rattle.watched.specs.Watched.{in_time}
use Rattle.node.specs.Plain.{Plain, NmtReply, not_ours, frame_answer, EventMade, made, no_event, Step}
use Rattle.node.specs.Steps.{Test, must, tried, no_run, answers, declines, with_soc, nmt_taken, armed}
use Rattle.node.specs.Phases.{Ticked}
use Rattle.node.specs.DllErrors.{on_dll_event}

-- a frame is ours where it is for this head or for every node
abbrev pub is_ours : NodeId → ℕ → Bool
is_ours own destination = either (eqb destination own.0) (eqb destination broadcast_node)

-- first the DLL event of its message type, in the NMT state before the frame
abbrev pub received : ℕ → Plain → Message → Ticked
received t p m = on_dll_event t p (frame_cs_event (message_type m))

-- then its NMT event, where it has one: the head behind it
abbrev pub with_event : Option NmtEvent → Plain → Plain
with_event (Some e) p = (nmt_taken p e (Nmt.processed p.nmt e)).head
with_event None p = p

-- what the NMT event answers
abbrev pub reply_to : Option NmtEvent → Plain → Option NmtReply
reply_to (Some e) p =
    Some (record { errors = (Nmt.processed p.nmt e).errors; reset = (Nmt.processed p.nmt e).reset })
reply_to None p = None

-- the event that the machine was given, or none
abbrev pub made_by : Option NmtEvent → EventMade
made_by (Some e) = made e
made_by None = no_event

-- then an SoC arms, in every NMT state
abbrev pub arms : ℕ → Message → Plain → Plain
arms t SoC p = with_soc p (armed p.soc p.od t)
arms t other p = p

-- an action ends the frame: neither its NMT event nor the arming follows
abbrev pub stops : Ticked → Step
stops k =
    record {
      head = k.head;
      answer = frame_answer k.logged None;
      lent = no_run;
      event = k.event;
      marks = k.marks;
      checked = k.checked;
      crossings = k.crossings;
    }

-- without an action both follow
abbrev pub follows : ℕ → Message → Ticked → Step
follows t m k =
    record {
      head = arms t m (with_event (nmt_event_of m) k.head);
      answer = frame_answer k.logged (reply_to (nmt_event_of m) k.head);
      lent = no_run;
      event = made_by (nmt_event_of m);
      marks = k.marks;
      checked = k.checked;
      crossings = k.crossings;
    }

-- behind the DLL event, by whether it brought an action
abbrev pub behind_dll : ℕ → Message → Ticked → Step
behind_dll t m k = pick k.ended (stops k) (follows t m k)

-- a frame that is ours
unfoldable pub frame_taken : ℕ → Plain → Message → Step
frame_taken t p m = behind_dll t m (received t p m)

-- TimeLimit, behind those of the reading
abbrev pub frame_tests : ℕ → List (Test ℕ)
frame_tests t = must (in_time t) 5 ∷ []

-- a frame by the reading of its bytes: refused, for another node, or ours
abbrev pub by_frame : ℕ → Plain → Result Frame Refusal → Step
by_frame t p (Ok f) =
    tried (frame_tests t) (declines p no_run)
    (pick (is_ours p.nmt.node_id f.destination) (frame_taken t p f.message) (answers p not_ours no_run))
by_frame t p (Err r) = declines p no_run (refusal_number r)

-- the bytes of a frame that arrived at t
unfoldable pub frame_step : ℕ → Plain → List ℕ → Step
frame_step t p bytes = by_frame t p (read_frame bytes)
