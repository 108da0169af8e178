-- A refused call changes nothing: it has one of its numbers, the plain head's, and all that it was lent is as it was.
-- Assumes nothing.
use Prim.Native.Nat.{ℕ}
use mathlib.Core.Path.{◌≡◌, refl, sym, ap, subst, ◌∙◌}
use mathlib.Core.Bool.{Bool, true, false, not}
use mathlib.Core.List.{List, [], ◌∷◌}
use lib.ListN.{set}
use Rattle.types.specs.Pick.{pick}
use Rattle.types.specs.States.{same_state}
use Rattle.types.specs.Types.{node, is_node, read_node}
use Rattle.types.specs.Refusals.{refusal_number}
use Rattle.types.specs.Events.{events, event_number, read_event}
use Rattle.types.specs.CsEvents.{cs_events, cs_event_number, read_cs_event}
use Rattle.types.specs.Errors.{Kind, kinds, carried, read_error}
use Rattle.types.specs.declared.refusals.Refusal.{Refusal}
use Rattle.types.specs.declared.refusals.Refusal.TheVariants.{NodeNumber, UnknownNumber}
use Rattle.std.specs.declared.result.Result.{Result}
use Rattle.std.specs.declared.result.Result.TheVariants.{Ok, Err}
use Rattle.types.specs.declared.nmt.states.NmtState.TheVariants.{NmtReadyToOperate}
use Rattle.types.specs.declared.nmt.events.NmtEvent.{NmtEvent}
use Rattle.types.specs.declared.frame.cs_state_machine.DllCsEvent.{DllCsEvent}
use Rattle.types.specs.declared.frame.error.types.DllError.{DllError}
use Rattle.std.specs.List.{AllByRecursion}
use Rattle.types.proofs.Reading.{reads_holds}
use Rattle.watched.specs.Watched.{in_time, heard_at, unheard, Run, watching, changing}
use Rattle.node.specs.Plain.{Plain, Call, nmt_event, dll_event, error, cycle_complete, withdraw, heard, hand_out, load, arm, tick, range, margin, add, remove, next_due, frame, refused, taken, range_answer, margin_answer, due_answer, not_ours, Step, Start, Begun, begins, declined, FirstStep}
use Rattle.node.specs.Steps.{Test, tried, no_run, answers, declines, leaves, with_nmt, with_soc, nmt_step, dll_step, error_step, withdrawn, withdraw_tests, heard_tests, add_tests, remove_tests, added, removed, arm_tests, armed, fresh, start_tests, started}
use Rattle.node.specs.Heartbeats.{refreshed_at}
use Rattle.node.specs.Tick.{tick_tests, tick_taken, tick_answered}
use Rattle.node.specs.Range.{range_tests, margin_tests, verdict_of, margin_of}
use Rattle.node.specs.Due.{due, due_tests}
use Rattle.node.specs.FrameSteps.{is_ours, received, stops, follows, frame_taken, frame_tests, by_frame, frame_step}
use Rattle.frames.specs.declared.Message.{Message}
use Rattle.frames.specs.declared.Frame.{Frame}
use Rattle.frames.specs.Frame.{read_frame}
use Rattle.frames.specs.Reading.{IsRefused, short, other_ether_type, other_message_type, no_service, no_command, other_command}
use Rattle.frames.proofs.ReadingLaws.{refusals_lem}
use Rattle.reception.specs.FrameIn.{taken_words, words_by, frame_words}
use Rattle.node.specs.Run.{step}
use Rattle.node.specs.Refines.{plain, joins_all}
use Rattle.node.specs.InPlace.{withdraw_words, nmt_words, dll_words, error_words, arm_words}
use Rattle.node.proofs.Fixed.{parts, apart, refusal_of}
use Rattle.node.proofs.Refining.{picked}
use Rattle.head.specs.Places as at
use Rattle.head.specs.Words.{word, state_of, nmt_of, soc_of, od_of, head_of}
use Rattle.head.specs.Written.{soc_written}
use Rattle.start.specs.declared.start.Setup.{Setup}
use Rattle.start.specs.Started.{start_of, StartedOn}
use Rattle.calling.specs.declared.Call as made
use Rattle.calling.specs.declared.Call.TheVariants as call
use Rattle.calling.specs.Held.{Held, held, plain_at, rings_of}
use Rattle.calling.specs.Values.{call_of}
use Rattle.calling.specs.Table.{row_of, lent_in}
use Rattle.calling.specs.Made.{Made}
use Rattle.calling.specs.Declined.{start_refusals, is_among, Declined}
use Rattle.calling.proofs.Starting.{refused_lent}

-- a number is among these
abbrev pub Among : List ℕ → ℕ → Type 0
Among ns n = is_among n ns ≡ true

each_of : {A : Type 0} (P : A → Type 0) → ((x : A) → P x) → (xs : List A) → AllByRecursion P xs
each_of P f [] = tt
each_of P f (x ∷ xs) = (f x, each_of P f xs)

-- the readings: number 4, and of an error's node 1
abbrev event_fits : Result NmtEvent Refusal → Type 0
event_fits (Ok e) = Unit
event_fits (Err r) = Among (4 ∷ []) (refusal_number r)

read_event_lem : (n : ℕ) → event_fits (read_event n)
unfolding read_event
read_event_lem n =
    reads_holds event_number Ok (Err UnknownNumber) (λ n r. event_fits r) events n refl
    (each_of (λ (e : NmtEvent). event_fits (Ok e)) (λ e. tt) events)

abbrev cs_fits : Result DllCsEvent Refusal → Type 0
cs_fits (Ok e) = Unit
cs_fits (Err r) = Among (4 ∷ []) (refusal_number r)

read_cs : (n : ℕ) → cs_fits (read_cs_event n)
unfolding read_cs_event
read_cs n =
    reads_holds cs_event_number Ok (Err UnknownNumber) (λ n r. cs_fits r) cs_events n refl
    (each_of (λ (e : DllCsEvent). cs_fits (Ok e)) (λ e. tt) cs_events)

abbrev error_fits : Result DllError Refusal → Type 0
error_fits (Ok e) = Unit
error_fits (Err r) = Among (4 ∷ 1 ∷ []) (refusal_number r)

of_node_lem : (a : ℕ) (e : DllError) → error_fits (carried (read_node a) e)
unfolding read_node
of_node_lem a e = by (is_node a)
  where
    by : (b : Bool) → error_fits (carried (pick b (Ok (node a)) (Err NodeNumber)) e)
    by true = tt
    by false = refl

read_error_lem : (k a b : ℕ) → error_fits (read_error k a b)
unfolding read_error
read_error_lem k a b =
    reads_holds (λ (r : Kind). r.number) (λ (r : Kind). r.answer) (Err UnknownNumber) (λ n r. error_fits r) (kinds a b) k refl
    (tt, (tt, (tt, (tt, (tt, (tt, (tt, (tt, (tt, (of_node_lem a _, (of_node_lem a _, (tt, (of_node_lem a _, (tt, (tt, (tt, (tt, (tt, (tt, (of_node_lem a _, (of_node_lem a _, (of_node_lem a _, tt))))))))))))))))))))))

-- what the plain head does at a call that it declines
abbrev pub Plainly : List ℕ → Run → Step → ℕ → Type 0
Plainly ns l t r = Among ns r × (t.lent ≡ l) × (t.crossings ≡ [])

nmt_declines : (p : Plain) (x : Result NmtEvent Refusal) → event_fits x → (r : ℕ) → (nmt_step p x).answer ≡ refused r → Plainly (4 ∷ []) no_run (nmt_step p x) r
nmt_declines p (Ok e) f r h = apart (sym h) refl refl
nmt_declines p (Err x) f r h = (subst (Among (4 ∷ [])) (refusal_of h) f, refl, refl)

dll_declines : (p : Plain) (y : Bool) (x : Result DllCsEvent Refusal) → cs_fits x → (r : ℕ) → (dll_step p y x).answer ≡ refused r → Plainly (4 ∷ []) no_run (dll_step p y x) r
dll_declines p y (Ok e) f r h = apart (sym h) refl refl
dll_declines p y (Err x) f r h = (subst (Among (4 ∷ [])) (refusal_of h) f, refl, refl)

error_declines : (p : Plain) (x : Result DllError Refusal) → error_fits x → (r : ℕ) → (error_step p x).answer ≡ refused r → Plainly (4 ∷ 1 ∷ []) no_run (error_step p x) r
error_declines p (Ok e) f r h = apart (sym h) refl refl
error_declines p (Err x) f r h = (subst (Among (4 ∷ 1 ∷ [])) (refusal_of h) f, refl, refl)

tried_declines :
    (ns : List ℕ) (p : Plain) (l : Run) (ts : List (Test ℕ)) (accept : Step) → AllByRecursion (λ (t : Test ℕ). Among ns t.otherwise) ts → (parts accept.answer).declines ≡ false →
    (r : ℕ) → (tried ts (declines p l) accept).answer ≡ refused r → Plainly ns l (tried ts (declines p l) accept) r
tried_declines ns p l [] accept f x r h = apart (sym h) refl x
tried_declines ns p l (t ∷ ts) accept f x r h = by t.holds (tried_declines ns p l ts accept f.1 x r) h
  where
    by :
        (b : Bool) →
        ((tried ts (declines p l) accept).answer ≡ refused r → Plainly ns l (tried ts (declines p l) accept) r) →
        (pick b (tried ts (declines p l) accept) (declines p l t.otherwise)).answer ≡ refused r →
        Plainly ns l (pick b (tried ts (declines p l) accept) (declines p l t.otherwise)) r
    by true more h = more h
    by false more h = (subst (Among ns) (refusal_of h) f.0, refl, refl)

-- a frame: the refusals of its reading, and of its time; one that is ours is taken
abbrev frame_refusals : List ℕ
frame_refusals = 18 ∷ 19 ∷ 20 ∷ 4 ∷ 5 ∷ []

read_among : {b : List ℕ} {r : Refusal} → IsRefused b r → Among frame_refusals (refusal_number r)
read_among (short n) = refl
read_among (other_ether_type n) = refl
read_among (other_message_type n) = refl
read_among no_service = refl
read_among no_command = refl
read_among (other_command n) = refl

taken_accepts : (t : ℕ) (p : Plain) (m : Message) → (parts (frame_taken t p m).answer).declines ≡ false
unfolding frame_taken
taken_accepts t p m =
    picked (λ (k : Step). (parts k.answer).declines ≡ false) (received t p m).ended (stops (received t p m)) (follows t m (received t p m)) refl refl

frame_declines :
    (p : Plain) (t : ℕ) (b : List ℕ) (r : ℕ) → (frame_step t p b).answer ≡ refused r →
    Plainly frame_refusals no_run (frame_step t p b) r
unfolding frame_step
frame_declines p t b r h = by (read_frame b) refl h
  where
    by :
        (x : Result Frame Refusal) → read_frame b ≡ x → (by_frame t p x).answer ≡ refused r →
        Plainly frame_refusals no_run (by_frame t p x) r
    by (Ok f) e g =
        tried_declines frame_refusals p no_run (frame_tests t)
        (pick (is_ours p.nmt.node_id f.destination) (frame_taken t p f.message) (answers p not_ours no_run)) (refl, tt)
        (picked (λ (k : Step). (parts k.answer).declines ≡ false) (is_ours p.nmt.node_id f.destination) (frame_taken t p f.message) (answers p not_ours no_run)
        (taken_accepts t p f.message) refl) r g
    by (Err x) e g = (subst (Among frame_refusals) (refusal_of g) (read_among ((refusals_lem b x).0 e)), refl, refl)

-- the run that a call is lent
abbrev pub lent_to : Call → Run
lent_to c = lent_in (row_of c).lends

pub plain_declines :
    (p : Plain) (c : Call) (r : ℕ) → (step p c).answer ≡ refused r →
    Plainly (row_of c).refusals (lent_to c) (step p c) r
plain_declines p (nmt_event n) r h = nmt_declines p (read_event n) (read_event_lem n) r h
plain_declines p (dll_event n x) r h = dll_declines p x (read_cs_event n) (read_cs n) r h
plain_declines p (error k a b) r h = error_declines p (read_error k a b) (read_error_lem k a b) r h
plain_declines p cycle_complete r h = apart (sym h) refl refl
plain_declines p withdraw r h =
    tried_declines (8 ∷ []) p no_run (withdraw_tests p)
    (answers (with_nmt p (withdrawn p.nmt)) taken no_run) (refl, tt) refl r h
plain_declines p (heard n t l) r h =
    tried_declines (3 ∷ 5 ∷ 7 ∷ []) p l (heard_tests n t l) (leaves p (changing (heard_at n t) l)) (refl, (refl, (refl, tt))) refl r h
plain_declines p hand_out r h = apart (sym h) refl refl
plain_declines p (load v u) r h = apart (sym h) refl refl
plain_declines p (arm t) r h =
    tried_declines (5 ∷ []) p no_run (arm_tests t) (answers (with_soc p (armed p.soc p.od t)) taken no_run) (refl, tt) refl r h
plain_declines p (tick t l) r h =
    tried_declines (3 ∷ 5 ∷ 6 ∷ []) p l (tick_tests p t l) (tick_answered (tick_taken p t (watching l)) (refreshed_at p t l)) (refl, (refl, (refl, tt))) refl r h
plain_declines p (range a b) r h =
    tried_declines (5 ∷ 21 ∷ []) p no_run (range_tests a b) (answers p (range_answer (verdict_of p a b)) no_run) (refl, (refl, (refl, tt))) refl r h
plain_declines p (margin t) r h =
    tried_declines (5 ∷ []) p no_run (margin_tests t) (answers p (margin_answer (margin_of p t)) no_run) (refl, tt) refl r h
plain_declines p (add n o l) r h =
    tried_declines (1 ∷ 3 ∷ 10 ∷ 9 ∷ []) p l (add_tests n o l) (leaves p (added n o l)) (refl, (refl, (refl, (refl, tt)))) refl r h
plain_declines p (remove n l) r h =
    tried_declines (3 ∷ 7 ∷ []) p l (remove_tests n l) (leaves p (removed n l)) (refl, (refl, tt)) refl r h
plain_declines p (next_due l) r h = tried_declines (3 ∷ []) p l (due_tests l) (answers p (due_answer (due p (watching l))) l) (refl, tt) refl r h
plain_declines p (frame t b) r h = frame_declines p t b r h

-- the words that a declined call leaves
frame_words_lem :
    (ws q m : List ℕ) (t : ℕ) (b : List ℕ) (r : ℕ) →
    (frame_step t (plain (head_of ws) q m) b).answer ≡ refused r → frame_words ws q m t b ≡ ws
unfolding frame_step frame_words head_of
frame_words_lem ws q m t b r h = by (read_frame b) h
  where
    p : Plain
    p = plain (head_of ws) q m

    by : (x : Result Frame Refusal) → (by_frame t p x).answer ≡ refused r → words_by ws q m t x ≡ ws
    by (Err x) g = refl
    by (Ok f) g = ours (in_time t) (is_ours (nmt_of ws).node_id f.destination) g
      where
        ours :
            (a b : Bool) →
            (pick a (pick b (frame_taken t p f.message) (answers p not_ours no_run)) (declines p no_run 5)).answer ≡ refused r →
            pick a (pick b (taken_words ws q m t f.message) ws) ws ≡ ws
        ours false b g = refl
        ours true false g = refl
        ours true true g = apart (sym g) refl (taken_accepts t p f.message)

pub nmt_words_lem : (ws : List ℕ) (p : Plain) (x : Result NmtEvent Refusal) (r : ℕ) → (nmt_step p x).answer ≡ refused r → nmt_words ws x ≡ ws
nmt_words_lem ws p (Ok e) r h = apart (sym h) refl refl
nmt_words_lem ws p (Err x) r h = refl

pub dll_words_lem : (ws : List ℕ) (p : Plain) (y : Bool) (x : Result DllCsEvent Refusal) (r : ℕ) → (dll_step p y x).answer ≡ refused r → dll_words ws y x ≡ ws
dll_words_lem ws p y (Ok e) r h = apart (sym h) refl refl
dll_words_lem ws p y (Err x) r h = refl

pub error_words_lem : (ws : List ℕ) (p : Plain) (x : Result DllError Refusal) (r : ℕ) → (error_step p x).answer ≡ refused r → error_words ws x ≡ ws
error_words_lem ws p (Ok e) r h = apart (sym h) refl refl
error_words_lem ws p (Err x) r h = refl

pub withdraw_words_lem : (ws q m : List ℕ) (r : ℕ) → (step (plain (head_of ws) q m) withdraw).answer ≡ refused r → withdraw_words ws ≡ ws
unfolding head_of
withdraw_words_lem ws q m r h = by (same_state (state_of (word ws at.state)) NmtReadyToOperate) h
  where
    by :
        (b : Bool) →
        (pick (not b) (answers (with_nmt (plain (head_of ws) q m) (withdrawn (nmt_of ws))) taken no_run) (declines (plain (head_of ws) q m) no_run 8)).answer ≡ refused r →
        pick b ws (set ws at.ready 0) ≡ ws
    by true g = refl
    by false g = apart (sym g) refl refl

pub arm_words_lem : (ws : List ℕ) (p : Plain) (t : ℕ) (r : ℕ) → (step p (arm t)).answer ≡ refused r → arm_words ws t ≡ ws
arm_words_lem ws p t r h = by (in_time t) h
  where
    by :
        (b : Bool) →
        (pick b (answers (with_soc p (armed p.soc p.od t)) taken no_run) (declines p no_run 5)).answer ≡ refused r →
        pick b (soc_written ws (armed (soc_of ws) (od_of ws) t)) ws ≡ ws
    by true g = apart (sym g) refl refl
    by false g = refl

-- nothing that was lent has changed
pub same_held : {x x' : Held} → x'.head ≡ x.head → x'.lent ≡ x.lent → rings_of x' ≡ rings_of x → x' ≡ x
same_held ws l r = λ i. held (ws i) ((r i).queue_bytes) ((r i).history_bytes) (l i)

module _ {x x' : Held} (r : Refusal) where
  stays : (c : made.Call) → Made x c (Err r) x' → x' ≡ x
  stays (call.NmtEvent i) t = same_held (t.words ∙ nmt_words_lem x.head (plain_at x) (read_event i) (refusal_number r) (sym t.refines.answer)) t.lent t.rings
  stays (call.DllEvent i b) t = same_held (t.words ∙ dll_words_lem x.head (plain_at x) b (read_cs_event i) (refusal_number r) (sym t.refines.answer)) t.lent t.rings
  stays (call.Error i a b) t = same_held (t.words ∙ error_words_lem x.head (plain_at x) (read_error i a b) (refusal_number r) (sym t.refines.answer)) t.lent t.rings
  stays call.CycleComplete t = apart t.refines.answer refl refl
  stays call.Withdraw t = same_held (t.words ∙ withdraw_words_lem x.head x.queue x.history (refusal_number r) (sym t.refines.answer)) t.lent t.rings
  stays (call.Heard i s) t = same_held t.words (t.lent ∙ (plain_declines (plain_at x) (heard i s x.lent) (refusal_number r) (sym t.refines.answer)).1) t.rings
  stays call.HandOut t = apart t.refines.answer refl refl
  stays (call.Load u h) t = apart t.refines.answer refl refl
  stays (call.Arm s) t = same_held (t.words ∙ arm_words_lem x.head (plain_at x) s (refusal_number r) (sym t.refines.answer)) t.lent t.rings
  stays (call.Tick s) t =
      let d = plain_declines (plain_at x) (tick s x.lent) (refusal_number r) (sym t.refines.answer) in
      same_held t.words (t.lent ∙ d.1) (t.rings ∙ ap (joins_all (rings_of x)) d.2)
  stays (call.Range a b) t = same_held t.words t.lent t.rings
  stays (call.Margin s) t = same_held t.words t.lent t.rings
  stays (call.Add i o) t = same_held t.words (t.lent ∙ (plain_declines (plain_at x) (add i o x.lent) (refusal_number r) (sym t.refines.answer)).1) t.rings
  stays (call.Remove i) t = same_held t.words (t.lent ∙ (plain_declines (plain_at x) (remove i x.lent) (refusal_number r) (sym t.refines.answer)).1) t.rings
  stays call.NextDue t = same_held t.words (t.lent ∙ (plain_declines (plain_at x) (next_due x.lent) (refusal_number r) (sym t.refines.answer)).1) t.rings
  stays (call.Frame s b) t =
      let d = plain_declines (plain_at x) (frame s b.now) (refusal_number r) (sym t.refines.answer) in
      same_held (t.words ∙ frame_words_lem x.head x.queue x.history s b.now (refusal_number r) (sym t.refines.answer)) t.lent
      (t.rings ∙ ap (joins_all (rings_of x)) d.2)

  -- OF ANY CALL ON ANY HEAD
  pub refused_changes_nothing : (c : made.Call) → Made x c (Err r) x' → Declined x c (refusal_number r) x'
  refused_changes_nothing c t =
      let f = sym t.refines.answer in
      record { number = (plain_declines (plain_at x) (call_of c x.lent) (refusal_number r) f).0; first = f; same = stays c t }

-- AND OF A START: one of its numbers, the plain start's, so the first that applies; and nothing has changed
abbrev Numbered : Begun → Type 0
Numbered (begins p) = Unit
Numbered (declined n) = Among start_refusals n

plain_start_numbered : (s : Start) → Numbered (started s).begun
unfolding started
plain_start_numbered s = by (start_tests s) (refl, (refl, (refl, (refl, tt))))
  where
    Fits : FirstStep → Type 0
    Fits f = Numbered f.begun

    accepted : FirstStep
    accepted = record { begun = begins (fresh s); lent = changing unheard s.watched }

    by :
        (ts : List (Test ℕ)) → AllByRecursion (λ (t : Test ℕ). Among start_refusals t.otherwise) ts →
        Fits (tried ts (λ r. record { begun = declined r; lent = s.watched }) accepted)
    by [] f = tt
    by (t ∷ ts) f = picked Fits t.holds _ _ (by ts f.1) f.0

pub start_declined :
    {s : Setup} {r : Refusal} {l l' : Run} {ws ws' : List ℕ} →
    StartedOn ws l s (Err r) ws' l' →
    (is_among (refusal_number r) start_refusals ≡ true)
    × (declined (refusal_number r) ≡ (started (start_of s l)).begun)
    × (l' ≡ l)
    × (ws' ≡ ws)
start_declined {s} {l = l} b =
    let e = b.begins.begun [] [] in
    (subst Numbered (sym e) (plain_start_numbered (start_of s l)), e, refused_lent b, b.words)
