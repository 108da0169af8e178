-- What a frame owes to the claim: its DLL event is a part as a tick's are, and behind it comes its own
-- NMT event.
-- Assumes nothing.
use Prim.Native.Nat.{ℕ, ◌≤◌}
use mathlib.Core.Path.{◌≡◌, refl, sym, subst, ◌∙◌}
use mathlib.Core.Bool.{Bool, true, false}
use mathlib.Core.List.{List, [], ◌∷◌}
use lib.Dec.{ltb}
use lib.ListN.{length}
use borrow.Author.Tests.{leb-true}
use Rattle.types.specs.Pick.{pick}
use Rattle.types.specs.Frames.{frame_cs_event}
use Rattle.types.specs.Refusals.{refusal_number}
use Rattle.types.specs.declared.refusals.Refusal.{Refusal}
use Rattle.types.specs.declared.nmt.events.NmtEvent.{NmtEvent}
use Rattle.types.specs.declared.frame.cs_state_machine.DllCsEvent.{DllCsEvent}
use Rattle.types.specs.declared.frame.error.types.DllError.{DllError}
use Rattle.std.specs.declared.result.Result.{Result}
use Rattle.std.specs.declared.result.Result.TheVariants.{Ok, Err}
use Rattle.std.specs.declared.option.Option.{Option}
use Rattle.std.specs.declared.option.Option.TheVariants.{Some, None}
use Rattle.frames.specs.declared.Message.{Message}
use Rattle.frames.specs.declared.Message.TheVariants.{SoC, PReq, PRes, SoA, ASnd}
use Rattle.frames.specs.declared.Frame.{Frame}
use Rattle.frames.specs.Frame.{message_type, nmt_event_of, read_frame}
use Rattle.nmt.specs.Resets.{is_reset}
use Rattle.nmt.specs.Nmt as Nmt
use Rattle.nmt.specs.declared.cn_state_machine.CnNmtStateMachine.{CnNmtStateMachine}
use Rattle.counters.specs.Counters.{handled, HandledError}
use Rattle.counters.specs.Marks.{is_crossing, count_of, crosses}
use Rattle.counters.proofs.Counts.{Counting}
use Rattle.entries.specs.Entry.{crossing_entry}
use Rattle.entries.specs.declared.status_response.ErrorEntry.{ErrorEntry}
use Rattle.watched.specs.Watched.{in_time, latest}
use Rattle.head.specs.declared.state.SocWatch.{SocWatch}
use Rattle.node.specs.Plain.{Plain, not_ours, EventMade, made, Step}
use Rattle.node.specs.Steps.{no_run, answers, declines, with_nmt, with_dll, with_errors, dll_outcome, forgets, armed, cycle_of}
use Rattle.node.specs.Phases.{Ticked, acts, signalled}
use Rattle.node.specs.DllErrors.{counter1, kept, dropped_one, queued, on_dll_error, on_dll_errors}
use Rattle.node.specs.FrameSteps.{is_ours, received, with_event, made_by, arms, stops, follows, frame_taken, by_frame, frame_step}
use Rattle.trace.specs.Tally.{Orders, orders_made, handed_by}
use Rattle.trace.proofs.Modes.{mode, mode_event}
use Rattle.trace.proofs.Ticking.{Seen, seen, InTick, tells, Enters, WalkOf, picked, on_dll_event_walk}

-- what a frame does to the machine: as a tick, or the event that it gives
pub data Moved (m : CnNmtStateMachine) : EventMade → CnNmtStateMachine → Type 0 where
  in_tick : {e : EventMade} {m' : CnNmtStateMachine} → InTick m e m' → Moved m e m'
  by_event : (e : NmtEvent) → Moved m (made e) (Nmt.processed m e).machine

pub tells_moved : {m m' : CnNmtStateMachine} {e : EventMade} → Moved m e m' → (w : Orders) → mode m w ≡ true → mode m' (orders_made m e m' w) ≡ true
tells_moved (in_tick i) w h = tells i w h
tells_moved {m = m} (by_event e) w h = mode_event m e w h

-- of a frame that arrived at t, on the head p, of which k came
pub record Receives (p : Plain) (t : ℕ) (k : Step) : Type 0 where
  pub moves : Moved p.nmt k.event k.head.nmt
  pub counts : Counting p.errors k.marks k.head.errors
  pub enters : Enters (seen p) k.crossings k.head.queue k.head.od.counter_3
  pub crossed : length k.crossings ≡ count_of is_crossing k.checked
  pub handed : handed_by k.answer ≡ []
  pub earliest : k.head.earliest ≡ p.earliest
  pub last : p.soc.last_soc_reception_time_us ≤ latest → k.head.soc.last_soc_reception_time_us ≤ latest

-- the errors of a DLL event leave the earliest moment
errors_earliest : (t : ℕ) (p : Plain) (es : List DllError) → (on_dll_errors t p es).head.earliest ≡ p.earliest
unfolding on_dll_errors on_dll_error queued
errors_earliest t p [] = refl
errors_earliest t p (e ∷ es) =
    picked (λ (k : Ticked). k.head.earliest ≡ p.earliest) (on_dll_error t p e).ended (error_earliest t p e)
    (errors_earliest t (on_dll_error t p e).head es ∙ error_earliest t p e)
  where
    error_earliest : (t : ℕ) (p : Plain) (e : DllError) → (on_dll_error t p e).head.earliest ≡ p.earliest
    error_earliest t p e =
        let r : HandledError = handled p.errors e in
        let g : Plain = with_errors (counter1 p) r.counters in
        let s : Plain = signalled g in
        let x = crossing_entry e t in
        let q : (queued s x).earliest ≡ p.earliest =
        picked (λ (h : Plain). h.earliest ≡ p.earliest) (ltb (length s.queue) s.capacity) {x = kept s x} {y = dropped_one s} refl refl in
        let c : (pick (crosses p.errors e) (queued s x) g).earliest ≡ p.earliest =
        picked (λ (h : Plain). h.earliest ≡ p.earliest) (crosses p.errors e) {x = queued s x} {y = g} q refl in
        picked (λ (h : Plain). h.earliest ≡ p.earliest) (acts r.action) c c

-- the frame's own event and an SoC's arming leave all that the claim sees, but for the machine and
-- the last SoC
record Same (g h : Plain) : Type 0 where
  errors : h.errors ≡ g.errors
  queue : h.queue ≡ g.queue
  lost : h.od.counter_3 ≡ g.od.counter_3
  earliest : h.earliest ≡ g.earliest

forgets_same : (b : Bool) (h : Plain) → Same h (pick b (forgets h) h)
forgets_same true h = record { errors = refl; queue = refl; lost = refl; earliest = refl }
forgets_same false h = record { errors = refl; queue = refl; lost = refl; earliest = refl }

event_same : (e : Option NmtEvent) (g : Plain) → Same g (with_event e g)
event_same (Some e) g =
    let z = forgets_same (is_reset e) (with_nmt g (Nmt.processed g.nmt e).machine) in
    record { errors = z.errors; queue = z.queue; lost = z.lost; earliest = z.earliest }
event_same None g = record { errors = refl; queue = refl; lost = refl; earliest = refl }

arms_same : (t : ℕ) (m : Message) (g : Plain) → Same g (arms t m g)
arms_same t SoC g = record { errors = refl; queue = refl; lost = refl; earliest = refl }
arms_same t PReq g = record { errors = refl; queue = refl; lost = refl; earliest = refl }
arms_same t PRes g = record { errors = refl; queue = refl; lost = refl; earliest = refl }
arms_same t SoA g = record { errors = refl; queue = refl; lost = refl; earliest = refl }
arms_same t (ASnd s) g = record { errors = refl; queue = refl; lost = refl; earliest = refl }

arms_nmt : (t : ℕ) (m : Message) (g : Plain) → (arms t m g).nmt ≡ g.nmt
arms_nmt t SoC g = refl
arms_nmt t PReq g = refl
arms_nmt t PRes g = refl
arms_nmt t SoA g = refl
arms_nmt t (ASnd s) g = refl

forgets_nmt : (b : Bool) (h : Plain) → (pick b (forgets h) h).nmt ≡ h.nmt
forgets_nmt true h = refl
forgets_nmt false h = refl

event_moves : (e : Option NmtEvent) (g : Plain) → Moved g.nmt (made_by e) (with_event e g).nmt
event_moves (Some e) g =
    subst (Moved g.nmt (made e)) (sym (forgets_nmt (is_reset e) (with_nmt g (Nmt.processed g.nmt e).machine))) (by_event e)
event_moves None g = in_tick InTick.still

abbrev last : Plain → ℕ
last p = p.soc.last_soc_reception_time_us

event_last : (e : Option NmtEvent) (g : Plain) → last (with_event e g) ≡ last g
event_last (Some e) g = by (is_reset e) (with_nmt g (Nmt.processed g.nmt e).machine)
  where
    by : (b : Bool) (h : Plain) → last (pick b (forgets h) h) ≡ last h
    by true h = refl
    by false h = refl
event_last None g = refl

arms_last : (t : ℕ) (m : Message) (g : Plain) → t ≤ latest → last g ≤ latest → last (arms t m g) ≤ latest
unfolding armed
arms_last t SoC g i h = picked (λ (s : SocWatch). s.last_soc_reception_time_us ≤ latest) (ltb 0 (cycle_of g.od)) i i
arms_last t PReq g i h = h
arms_last t PRes g i h = h
arms_last t SoA g i h = h
arms_last t (ASnd s) g i h = h

-- a frame that is ours
module _ (p : Plain) (t : ℕ) (m : Message) (i : in_time t ≡ true) where
  abbrev e : DllCsEvent
  e = frame_cs_event (message_type m)

  abbrev K : Ticked
  K = received t p m

  walk : WalkOf p K
  walk = on_dll_event_walk t p e

  walk_earliest : K.head.earliest ≡ p.earliest
  walk_earliest = errors_earliest t (with_dll p (dll_outcome p e true).state) (dll_outcome p e true).errors

  stops_lem : Receives p t (stops K)
  stops_lem =
      record {
        moves = in_tick walk.part.moves;
        counts = walk.part.counts;
        enters = walk.part.enters;
        crossed = walk.part.crossed;
        handed = refl;
        earliest = walk_earliest;
        last = λ h. subst (λ (n : ℕ). n ≤ latest) (sym walk.part.last) h;
      }

  follows_lem : K.ended ≡ false → Receives p t (follows t m K)
  follows_lem n =
      let z : seen K.head ≡ seen p = walk.stays n in
      let g : Plain = with_event (nmt_event_of m) K.head in
      let a = event_same (nmt_event_of m) K.head in
      let b = arms_same t m g in
      record {
        moves =
            subst (Moved p.nmt (made_by (nmt_event_of m))) (sym (arms_nmt t m g))
            (subst (λ (s : Seen). Moved s.nmt (made_by (nmt_event_of m)) g.nmt) z (event_moves (nmt_event_of m) K.head));
        counts = subst (Counting p.errors K.marks) (sym (b.errors ∙ a.errors)) walk.part.counts;
        enters =
            subst (λ (n : ℕ). Enters (seen p) K.crossings (arms t m g).queue n) (sym (b.lost ∙ a.lost))
            (subst (λ (q : List ErrorEntry). Enters (seen p) K.crossings q K.head.od.counter_3) (sym (b.queue ∙ a.queue)) walk.part.enters);
        crossed = walk.part.crossed;
        handed = refl;
        earliest = b.earliest ∙ a.earliest ∙ walk_earliest;
        last =
            λ h.
            arms_last t m g (leb-true t latest i)
            (subst (λ (n : ℕ). n ≤ latest) (sym (event_last (nmt_event_of m) K.head ∙ walk.part.last)) h);
      }

  taken_lem : Receives p t (frame_taken t p m)
  unfolding frame_taken
  taken_lem = by K.ended refl
    where
      by : (b : Bool) → K.ended ≡ b → Receives p t (pick b (stops K) (follows t m K))
      by true n = stops_lem
      by false n = follows_lem n

-- a frame, whatever its bytes and its time
pub data Framed (p : Plain) (t : ℕ) : Step → Type 0 where
  turned_away : (n : ℕ) → Framed p t (declines p no_run n)
  passed_by : Framed p t (answers p not_ours no_run)
  taken_as : (k : Step) → Receives p t k → Framed p t k

pub framed : (p : Plain) (t : ℕ) (bytes : List ℕ) → Framed p t (frame_step t p bytes)
unfolding frame_step
framed p t bytes = by (read_frame bytes)
  where
    by : (r : Result Frame Refusal) → Framed p t (by_frame t p r)
    by (Err r) = turned_away (refusal_number r)
    by (Ok f) = in_time_lem (in_time t) refl
      where
        ours : (b : Bool) → in_time t ≡ true → Framed p t (pick b (frame_taken t p f.message) (answers p not_ours no_run))
        ours true i = taken_as (frame_taken t p f.message) (taken_lem p t f.message i)
        ours false i = passed_by

        in_time_lem :
            (b : Bool) → in_time t ≡ b →
            Framed p t (pick b (pick (is_ours p.nmt.node_id f.destination) (frame_taken t p f.message) (answers p not_ours no_run)) (declines p no_run 5))
        in_time_lem true i = ours (is_ours p.nmt.node_id f.destination) i
        in_time_lem false i = turned_away 5
