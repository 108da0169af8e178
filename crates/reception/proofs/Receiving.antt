-- A frame over plain variables: what its parts left gives what the plain head's step leaves.
-- Assumes nothing.
use Prim.Native.Nat.{ℕ}
use mathlib.Core.Path.{◌≡◌, refl, sym, ap, ap₂, subst, ◌∙◌}
use mathlib.Core.Bool.{Bool, true, false}
use mathlib.Core.List.{List}
use lib.ListN.{length}
use Rattle.types.specs.Pick.{pick}
use Rattle.types.specs.Frames.{frame_cs_event}
use Rattle.types.specs.Events.{event_number}
use Rattle.types.specs.Refusals.{refusal_number}
use Rattle.types.specs.declared.refusals.Refusal.{Refusal}
use Rattle.types.specs.declared.refusals.Refusal.TheVariants.{TimeLimit}
use Rattle.types.specs.declared.nmt.events.NmtEvent.{NmtEvent}
use Rattle.types.specs.declared.frame.error.types.DllError.{DllError}
use Rattle.types.proofs.RoundTrips.{events_faithful}
use Rattle.std.specs.declared.result.Result.{Result}
use Rattle.std.specs.declared.result.Result.TheVariants.{Ok, Err}
use Rattle.std.specs.declared.option.Option.{Option}
use Rattle.std.specs.declared.option.Option.TheVariants.{Some, None}
use Rattle.frames.specs.declared.Message.{Message}
use Rattle.frames.specs.declared.Message.TheVariants.{SoC}
use Rattle.frames.specs.declared.Frame.{Frame}
use Rattle.frames.specs.Frame.{message_type, nmt_event_of, read_frame}
use Rattle.head.specs.Words.{nmt_of, head_of}
use Rattle.head.proofs.Laws.{soc_written_lem}
use Rattle.watched.specs.Watched.{in_time}
use Rattle.node.specs.Plain.{Plain, Answer, refused, not_ours, frame_answer, Step}
use Rattle.node.specs.Steps.{no_run, answers, declines, nmt_step, armed}
use Rattle.node.specs.Phases.{Ticked}
use Rattle.node.specs.DllErrors.{on_dll_event}
use Rattle.node.specs.FrameSteps.{is_ours, received, with_event, reply_to, arms, stops, follows, frame_taken, by_frame, frame_step}
use Rattle.node.specs.Refines.{plain, rings, joins_all}
use Rattle.node.specs.InPlace.{Processed, armed_words}
use Rattle.node.specs.declared.calls.NmtTaken.{NmtTaken}
use Rattle.node.proofs.Refining.{nmt_yes}
use Rattle.phases.specs.PartsIn.{Turns, TicksIn}
use Rattle.phases.specs.declared.PhaseOutcome.{PhaseOutcome}
use Rattle.phases.proofs.Turns.{turned}
use Rattle.tick.specs.TickWords.{on_dll_event_words}
use Rattle.reception.specs.declared.FrameTaken.{FrameTaken}
use Rattle.reception.specs.declared.FrameAnswer.{FrameAnswer}
use Rattle.reception.specs.declared.FrameAnswer.TheVariants.{NotOurs, Ours}
use Rattle.reception.specs.FrameIn.{taken_says, frame_said, received_words, given_words, arms_words, behind_dll_words, taken_words, words_by, frame_words, GivenIn, FollowsIn, TakenIn, FrameIn}

-- THE NMT EVENT: what the call by its number leaves
module _ (ws : List ℕ) (long : length ws ≡ 60) (ws' : List ℕ) where
  pub gives : (e : NmtEvent) (t : NmtTaken) → Processed ws e t ws' → GivenIn ws (Some e) (Some t) ws'
  unfolding head_of
  gives e t p =
      let n : ℕ = event_number e in
      let x = nmt_yes ws long ws' n e t (events_faithful.back e) p in
      record {
        becomes = (
          λ q h. (x.refines q h).head ∙ ap (λ (r : Result NmtEvent Refusal). (nmt_step (plain (head_of ws) q h) r).head) (events_faithful.back e),
          x.places,
        );
        reply = λ q h i. Some (record { errors = p.errors i; reset = p.reset i });
        words = p.words;
      }

  -- AN SOC ARMS
  pub arms_soc : (t : ℕ) → ws' ≡ armed_words ws t → Turns ws (arms t SoC) ws' (arms_words t SoC ws)
  unfolding head_of armed
  arms_soc t w =
      turned ws (arms t SoC) _ (armed_words ws t) _ ws' (λ q m. refl, record { queue = refl; history = refl })
      (soc_written_lem ws long _ _ _ _) refl w

pub gives_none : (ws : List ℕ) → GivenIn ws None None ws
gives_none ws = record { becomes = (λ q h. refl, record { queue = refl; history = refl }); reply = λ q h. refl; words = refl }

-- A FRAME THAT IS OURS
module _ (ws q m : List ℕ) (t : ℕ) (f : Message) (d : PhaseOutcome) (ws₁ q' m' : List ℕ) (w : TicksIn ws q m (on_dll_event t (plain (head_of ws) q m) (frame_cs_event (message_type f))) d ws₁ q' m' (on_dll_event_words ws (frame_cs_event (message_type f)))) where
  abbrev K : Ticked
  K = received t (plain (head_of ws) q m) f

  abbrev to : Bool → List ℕ
  to b = pick b (received_words ws f) (behind_dll_words t f (received_words ws f))

  went : (b : Bool) → d.ended ≡ b → pick b (stops K) (follows t f K) ≡ frame_taken t (plain (head_of ws) q m) f
  unfolding frame_taken
  went b e = ap (λ (b : Bool). pick b (stops K) (follows t f K)) (sym e ∙ w.ticks.ended)

  ended : (b : Bool) → d.ended ≡ b → K.ended ≡ b
  ended b e = sym w.ticks.ended ∙ e

  pub frame_stops : d.ended ≡ true → TakenIn ws q m t f (record { logged = d.logged; nmt = None }) ws₁ q' m'
  unfolding taken_words
  frame_stops e =
      subst (λ (k : Step). FollowsIn ws q m k (taken_says (record { logged = d.logged; nmt = None })) ws₁ q' m' (taken_words ws q m t f)) (went true e)
      (record {
        head = w.ticks.head;
        answer = ap (λ (l : List DllError). frame_answer l None) w.ticks.logged;
        lent = refl;
        joined = w.ticks.joined;
        words = w.words ∙ sym (ap to (ended true e));
      })

  pub frame_follows :
      d.ended ≡ false →
      (n : Option NmtTaken) (ws₂ : List ℕ) → GivenIn ws₁ (nmt_event_of f) n ws₂ →
      (ws₃ : List ℕ) → Turns ws₂ (arms t f) ws₃ (arms_words t f ws₂) →
      TakenIn ws q m t f (record { logged = d.logged; nmt = n }) ws₃ q' m'
  unfolding taken_words
  frame_follows e n ws₂ g ws₃ a =
      subst (λ (k : Step). FollowsIn ws q m k (taken_says (record { logged = d.logged; nmt = n })) ws₃ q' m' (taken_words ws q m t f)) (went false e)
      (record {
        head = a.becomes.0 q' m' ∙ ap (arms t f) (g.becomes.0 q' m' ∙ ap (with_event (nmt_event_of f)) w.ticks.head);
        answer = λ i. frame_answer (w.ticks.logged i) ((g.reply q' m' ∙ ap (reply_to (nmt_event_of f)) w.ticks.head) i);
        lent = refl;
        joined =
            (λ i. record {
              queue = (a.becomes.1.queue ∙ g.becomes.1.queue) i;
              queue_bytes = q';
              history = (a.becomes.1.history ∙ g.becomes.1.history) i;
              history_bytes = m';
            })
            ∙ w.ticks.joined;
        words =
            a.words ∙ ap (arms_words t f) (g.words ∙ ap (λ (l : List ℕ). given_words l (nmt_event_of f)) w.words)
            ∙ sym (ap to (ended false e));
      })

-- THE CALL: its refusals, and whose the frame is
module _ (ws q m : List ℕ) (t : ℕ) (bytes : List ℕ) where
  abbrev P : Plain
  P = plain (head_of ws) q m

  -- what the step comes to, and the words
  abbrev Owed : Answer → List ℕ → List ℕ → List ℕ → Type 0
  Owed a ws' q' m' = FollowsIn ws q m (frame_step t P bytes) a ws' q' m' (frame_words ws q m t bytes)

  framed : (a : Result FrameAnswer Refusal) (ws' q' m' : List ℕ) → Owed (frame_said a) ws' q' m' → FrameIn ws q m t bytes a ws' q' m'
  framed a ws' q' m' x =
      record { refines = record { head = x.head; answer = x.answer; lent = x.lent }; rings = x.joined; words = x.words }

  comes_to :
      (k : Step) (a : Answer) (ws' q' m' known : List ℕ) → frame_step t P bytes ≡ k → frame_words ws q m t bytes ≡ known →
      FollowsIn ws q m k a ws' q' m' known → Owed a ws' q' m'
  comes_to k a ws' q' m' known s n x =
      record {
        head = x.head ∙ sym (ap (λ (k : Step). k.head) s);
        answer = x.answer ∙ sym (ap (λ (k : Step). k.answer) s);
        lent = x.lent ∙ sym (ap (λ (k : Step). k.lent) s);
        joined = x.joined ∙ sym (ap (λ (k : Step). joins_all (rings (head_of ws) q m) k.crossings) s);
        words = x.words ∙ sym n;
      }

  unmoved : (a : Answer) → frame_step t P bytes ≡ answers P a no_run → frame_words ws q m t bytes ≡ ws → Owed a ws q m
  unmoved a s n =
      comes_to (answers P a no_run) a ws q m ws s n (record { head = refl; answer = refl; lent = refl; joined = refl; words = refl })

  pub unread : (r : Refusal) → read_frame bytes ≡ Err r → FrameIn ws q m t bytes (Err r) ws q m
  unfolding frame_step frame_words
  unread r e = framed (Err r) ws q m (unmoved (refused (refusal_number r)) (ap (by_frame t P) e) (ap (words_by ws q m t) e))

  module _ (f : Frame) (e : read_frame bytes ≡ Ok f) where
    abbrev by : Bool → Bool → Step
    by a b = pick a (pick b (frame_taken t P f.message) (answers P not_ours no_run)) (declines P no_run 5)

    abbrev words_of : Bool → Bool → List ℕ
    words_of a b = pick a (pick b (taken_words ws q m t f.message) ws) ws

    abbrev ours : Bool
    ours = is_ours (nmt_of ws).node_id f.destination

    pub too_late : in_time t ≡ false → FrameIn ws q m t bytes (Err TimeLimit) ws q m
    unfolding frame_step frame_words head_of
    too_late h =
        framed (Err TimeLimit) ws q m
        (unmoved (refused 5) (ap (by_frame t P) e ∙ ap (λ (a : Bool). by a ours) h) (ap (words_by ws q m t) e ∙ ap (λ (a : Bool). words_of a ours) h))

    module _ (h : in_time t ≡ true) where
      pub another : ours ≡ false → FrameIn ws q m t bytes (Ok NotOurs) ws q m
      unfolding frame_step frame_words head_of
      another z =
          framed (Ok NotOurs) ws q m (unmoved not_ours (ap (by_frame t P) e ∙ ap₂ by h z) (ap (words_by ws q m t) e ∙ ap₂ words_of h z))

      pub this_one :
          ours ≡ true → (d : FrameTaken) (ws' q' m' : List ℕ) → TakenIn ws q m t f.message d ws' q' m' →
          FrameIn ws q m t bytes (Ok (Ours d)) ws' q' m'
      unfolding frame_step frame_words head_of
      this_one z d ws' q' m' x =
          framed (Ok (Ours d)) ws' q' m'
          (comes_to (frame_taken t P f.message) (taken_says d) ws' q' m' (taken_words ws q m t f.message) (ap (by_frame t P) e ∙ ap₂ by h z)
          (ap (words_by ws q m t) e ∙ ap₂ words_of h z) x)
