-- What a frame leaves of a head in words, against the plain head: every word, as a function of what
-- came in; and the contract of a frame.
-- Assumes nothing.
use Rattle.std.specs.Prelude.{ℕ, ◌≡◌, List}
use Rattle.types.specs.Pick.{pick}
use Rattle.types.specs.Frames.{frame_cs_event}
use Rattle.types.specs.Errors.{reported}
use Rattle.types.specs.declared.refusals.Refusal.{Refusal}
use Rattle.types.specs.declared.nmt.events.NmtEvent.{NmtEvent}
use Rattle.std.specs.declared.result.Result.{Result}
use Rattle.std.specs.declared.result.Result.TheVariants.{Ok, Err}
use Rattle.std.specs.declared.option.Option.{Option}
use Rattle.std.specs.declared.option.Option.TheVariants.{Some, None}
use Rattle.frames.specs.declared.Message.{Message}
use Rattle.frames.specs.declared.Message.TheVariants.{SoC}
use Rattle.frames.specs.declared.Frame.{Frame}
use Rattle.frames.specs.Frame.{message_type, nmt_event_of, read_frame}
use Rattle.nmt.specs.Resets.{passed}
use Rattle.watched.specs.Watched.{in_time}
use Rattle.head.specs.Words.{nmt_of, head_of}
use Rattle.node.specs.Plain.{NmtReply, Call, Answer, not_ours, frame_answer, Step}
use Rattle.node.specs.Steps.{no_run}
use Rattle.node.specs.FrameSteps.{is_ours, received, with_event, reply_to, frame_taken}
use Rattle.node.specs.Run.{step}
use Rattle.node.specs.Refines.{left, Refines, plain, rings, joins_all, Becomes}
use Rattle.node.specs.InPlace.{answered, processed_words, armed_words}
use Rattle.node.specs.declared.calls.NmtTaken.{NmtTaken}
use Rattle.tick.specs.TickWords.{on_dll_event_words}
use Rattle.reception.specs.declared.FrameTaken.{FrameTaken}
use Rattle.reception.specs.declared.FrameAnswer.{FrameAnswer}
use Rattle.reception.specs.declared.FrameAnswer.TheVariants.{NotOurs, Ours}

-- what the NMT event of a frame answers, where it has one
abbrev pub reply_of : Option NmtTaken → Option NmtReply
reply_of (Some n) = Some (record { errors = reported n.errors; reset = passed n.reset })
reply_of None = None

-- what a frame that is ours says
abbrev pub taken_says : FrameTaken → Answer
taken_says d = frame_answer (reported d.logged) (reply_of d.nmt)

-- what a frame says that is not refused
abbrev pub frame_says : FrameAnswer → Answer
frame_says NotOurs = not_ours
frame_says (Ours d) = taken_says d

-- what a frame answers
abbrev pub frame_said : Result FrameAnswer Refusal → Answer
frame_said = answered frame_says

-- the words behind the DLL event of a message
abbrev pub received_words : List ℕ → Message → List ℕ
received_words ws m = on_dll_event_words ws (frame_cs_event (message_type m))

-- the words behind an NMT event, or none
abbrev pub given_words : List ℕ → Option NmtEvent → List ℕ
given_words ws (Some e) = processed_words ws e
given_words ws None = ws

-- the words behind the arming, which an SoC brings
abbrev pub arms_words : ℕ → Message → List ℕ → List ℕ
arms_words t SoC ws = armed_words ws t
arms_words t other ws = ws

-- the words where the DLL event brought no action
abbrev pub behind_dll_words : ℕ → Message → List ℕ → List ℕ
behind_dll_words t m ws = arms_words t m (given_words ws (nmt_event_of m))

-- the words behind a frame that is ours
unfoldable pub taken_words : List ℕ → List ℕ → List ℕ → ℕ → Message → List ℕ
taken_words ws q h t m =
    pick (received t (plain (head_of ws) q h) m).ended (received_words ws m)
    (behind_dll_words t m (received_words ws m))

-- the words by the reading of the bytes: one that is refused, or for another node, leaves them
abbrev pub words_by : List ℕ → List ℕ → List ℕ → ℕ → Result Frame Refusal → List ℕ
words_by ws q h t (Ok f) =
    pick (in_time t)
    (pick (is_ours (nmt_of ws).node_id f.destination) (taken_words ws q h t f.message) ws) ws
words_by ws q h t (Err r) = ws

-- the words behind the bytes of a frame
unfoldable pub frame_words : List ℕ → List ℕ → List ℕ → ℕ → List ℕ → List ℕ
frame_words ws q h t bytes = words_by ws q h t (read_frame bytes)

-- Of an NMT event of a frame, or none, on the words ws, which answered r and left ws': the plain
-- head's, queue and history stand where they stood, and the words are all known.
pub record GivenIn (ws : List ℕ) (e : Option NmtEvent) (r : Option NmtTaken) (ws' : List ℕ) : Type 0 where
  pub becomes : Becomes (head_of ws) (with_event e) (head_of ws')
  pub reply : (q h : List ℕ) → reply_of r ≡ reply_to e (plain (head_of ws) q h)
  pub words : ws' ≡ given_words ws e

-- Of a frame on the words ws and the memory q and h, of which the plain head's step k comes: head
-- and answer are its, the entries of its crossings have joined, and every word is known.
pub record FollowsIn (ws q h : List ℕ) (k : Step) (a : Answer) (ws' q' h' known : List ℕ) : Type 0 where
  pub head : plain (head_of ws') q' h' ≡ k.head
  pub answer : a ≡ k.answer
  pub lent : no_run ≡ k.lent
  pub joined : rings (head_of ws') q' h' ≡ joins_all (rings (head_of ws) q h) k.crossings
  pub words : ws' ≡ known

-- of a message that is ours
abbrev pub TakenIn : List ℕ → List ℕ → List ℕ → ℕ → Message → FrameTaken → List ℕ → List ℕ → List ℕ → Type 0
TakenIn ws q h t m d ws' q' h' =
    FollowsIn ws q h (frame_taken t (plain (head_of ws) q h) m) (taken_says d) ws' q' h'
    (taken_words ws q h t m)

-- Of a frame's bytes that arrived at t, on the words ws and the memory q and h, which answered a
-- and left ws', q' and h': head and answer are the plain head's; every byte of both memories with
-- the places of both rings, and every word of the head, is known.
pub record FrameIn (ws q h : List ℕ) (t : ℕ) (bytes : List ℕ) (a : Result FrameAnswer Refusal) (ws' q' h' : List ℕ) : Type 0 where
  pub refines :
      Refines (head_of ws) q h (Call.frame t bytes) (left (head_of ws') (frame_said a)) q' h' no_run
  pub rings :
      rings (head_of ws') q' h' ≡
      joins_all (rings (head_of ws) q h) (step (plain (head_of ws) q h) (Call.frame t bytes)).crossings
  pub words : ws' ≡ frame_words ws q h t bytes
