-- What a call owes to the claim, its share, and the share of each call.
-- Assumes nothing.
use Prim.Native.Nat.{ℕ, ◌+◌, ◌%◌, ◌≤◌}
use mathlib.Core.Path.{◌≡◌, refl, ap₂, ◌∙◌}
use mathlib.Core.Bool.{Bool, true, false, not}
use mathlib.Core.List.{List, [], ◌∷◌, ◌++◌}
use native.Mathlib.Omega.{arith}
use borrow.Author.Tests.{leb-true, leb-false}
use lib.ListN.{length}
use Rattle.types.specs.Pick.{pick}
use Rattle.types.specs.States.{same_state}
use Rattle.types.specs.Events.{read_event}
use Rattle.types.specs.CsEvents.{read_cs_event}
use Rattle.types.specs.Errors.{read_error}
use Rattle.types.specs.Refusals.{refusal_number}
use Rattle.types.specs.declared.nmt.states.NmtState.TheVariants.{NmtReadyToOperate}
use Rattle.std.specs.declared.result.Result.{Result}
use Rattle.std.specs.declared.option.Option.{Option}
use Rattle.std.specs.declared.result.Result.TheVariants.{Ok, Err}
use Rattle.std.specs.declared.option.Option.TheVariants.{Some, None}
use Rattle.types.specs.declared.nmt.events.NmtEvent.{NmtEvent}
use Rattle.types.specs.declared.refusals.Refusal.{Refusal}
use Rattle.types.specs.declared.frame.cs_state_machine.DllCsEvent.{DllCsEvent}
use Rattle.types.specs.declared.frame.error.types.DllError.{DllError}
use Rattle.nmt.specs.Resets.{is_reset}
use Rattle.nmt.specs.Nmt as Nmt
use Rattle.counters.specs.Counters.{top}
use Rattle.counters.specs.Marks.{is_crossing, count_of}
use Rattle.entries.specs.Ring.{nth, rest}
use Rattle.entries.specs.declared.status_response.ErrorEntry.{ErrorEntry}
use Rattle.node.specs.declared.load.DictionaryUpdate.{DictionaryUpdate}
use Rattle.watched.specs.Watched.{heard_at, Run, watching, changing}
use Rattle.node.specs.Plain.{Plain, HistoryUpdate, Call, nmt_event, dll_event, error, cycle_complete, withdraw, heard, hand_out, load, arm, tick, range, margin, add, remove, next_due, frame, Answer, taken, nmt_answer, hand_out_answer, range_answer, margin_answer, due_answer, not_ours, made, Step}
use Rattle.node.specs.Steps.{Test, tried, no_run, answers, declines, leaves, forgets, with_nmt, with_soc, nmt_step, dll_step, error_step, withdrawn, heard_tests, add_tests, remove_tests, added, removed, updated_counter, updated, arm_tests, armed}
use Rattle.node.specs.Phases.{Ticked}
use Rattle.node.specs.Heartbeats.{refreshed_at}
use Rattle.node.specs.Tick.{tick_tests, tick_taken, tick_answered}
use Rattle.node.specs.Range.{range_tests, margin_tests, verdict_of, margin_of}
use Rattle.node.specs.Due.{due, due_tests}
use Rattle.node.specs.Run.{step}
use Rattle.trace.specs.Tally.{Orders, orders_at, handed_by, dropped_by, is_full, is_set, loads_counter3}
use Rattle.trace.specs.Claim.{Queued, still, kept, dropped, handed, Rule}
use Rattle.node.proofs.Refining.{tried_by_lem}
use Rattle.trace.proofs.Modes.{mode, mode_event, mode_withdraw}
use Rattle.counters.proofs.Counts.{Counting, counting_none, counting_handled, counting_completed}
use Rattle.trace.proofs.Framing.{tells_moved, Framed, turned_away, passed_by, taken_as, framed}
use Rattle.trace.proofs.Ticking.{seen, Enters, none, one, PartOf, tells, tick_part}

-- the mode's share, the queue's, the counters', that of crossings, and counter 3's
abbrev pub ModeShare : Plain → Call → Step → Type 0
ModeShare p c t = (w : Orders) → mode p.nmt w ≡ true → mode t.head.nmt (orders_at p c t w) ≡ true

abbrev pub QueueShare : Plain → Step → Type 0
QueueShare p t =
    Queued p.capacity p.queue t.crossings (handed_by t.answer) (dropped_by p t.crossings) t.head.queue

abbrev pub CountShare : Plain → Step → Type 0
CountShare p t = Counting p.errors t.marks t.head.errors

abbrev pub LostShare : Plain → Call → Step → Type 0
LostShare p c t =
    loads_counter3 c ≡ false →
    p.od.counter_3 + length (dropped_by p t.crossings) ≤ top →
    t.head.od.counter_3 ≡ p.od.counter_3 + length (dropped_by p t.crossings)

abbrev pub CrossedShare : Step → Type 0
CrossedShare t = length t.crossings ≡ count_of is_crossing t.checked

pub record Shares (p : Plain) (c : Call) (t : Step) : Type 0 where
  pub orders : ModeShare p c t
  pub queue : QueueShare p t
  pub counts : CountShare p t
  pub crossed : CrossedShare t
  pub lost : LostShare p c t

-- A call without a crossing that hands out nothing and leaves the queue and, but for a load, counter 3.
pub record Quiet (p : Plain) (c : Call) (t : Step) : Type 0 where
  pub queue : t.head.queue ≡ p.queue
  pub crossings : t.crossings ≡ []
  pub crossed : CrossedShare t
  pub handed : handed_by t.answer ≡ []
  pub lost : loads_counter3 c ≡ false → t.head.od.counter_3 ≡ p.od.counter_3

none_dropped : (b : Bool) → ◌≡◌ {A = List ErrorEntry} (pick b [] []) []
none_dropped true = refl
none_dropped false = refl

lost_none : (p : Plain) (c : Call) (t : Step) → t.crossings ≡ [] → (loads_counter3 c ≡ false → t.head.od.counter_3 ≡ p.od.counter_3) → LostShare p c t
lost_none p c t e h l b = rw (e, none_dropped (is_full p)) (let g = h l in omega arith)

-- what such a call owes besides: its mode, and its counters
pub quiet : (p : Plain) (c : Call) (t : Step) → Quiet p c t → ModeShare p c t → CountShare p t → Shares p c t
quiet p c t h m n =
    record {
      orders = m;
      queue = rw (h.crossings, h.handed, h.queue, none_dropped (is_full p)) still;
      counts = n;
      crossed = h.crossed;
      lost = lost_none p c t h.crossings h.lost;
    }

-- A call with one crossing: its entry waits behind the others, or is dropped with the queue full and counter 3 rises, which
-- goes from its top to 0.
pub crossed_queue :
    (p : Plain) (e : ErrorEntry) →
    Queued p.capacity p.queue (e ∷ []) [] (dropped_by p (e ∷ [])) (pick (is_full p) p.queue (p.queue ++ (e ∷ [])))
crossed_queue p e = by (is_full p) refl
  where
    by :
        (b : Bool) →
        is_full p ≡ b →
        Queued p.capacity p.queue (e ∷ []) [] (pick b (e ∷ []) []) (pick b p.queue (p.queue ++ (e ∷ [])))
    by true h = dropped (leb-true p.capacity (length p.queue) h)
    by false h = kept (leb-false p.capacity (length p.queue) h)

pub crossed_lost :
    (p : Plain) (c : Call) (t : Step) (e : ErrorEntry) →
    t.crossings ≡ e ∷ [] →
    t.head.od.counter_3 ≡ pick (is_full p) ((p.od.counter_3 + 1) % 4294967296) p.od.counter_3 →
    LostShare p c t
crossed_lost p c t e x h l = rw (x, h) (by (is_full p))
  where
    by :
        (b : Bool) →
        p.od.counter_3 + length (pick b (e ∷ []) []) ≤ top →
        pick b ((p.od.counter_3 + 1) % 4294967296) p.od.counter_3 ≡ p.od.counter_3 + length (pick b (e ∷ []) [])
    by true f = omega arith
    by false f = omega arith

-- A call that changes neither the NMT machine nor the queue, the counters or counter 3, and tells nothing.
pub untouched :
    (p : Plain) (c : Call) (t : Step) →
    Quiet p c t →
    t.head.nmt ≡ p.nmt →
    ((w : Orders) → orders_at p c t w ≡ w) →
    t.head.errors ≡ p.errors →
    t.marks ≡ [] →
    Shares p c t
untouched p c t h m w e n =
    quiet p c t h (λ v g. ap₂ mode m (w v) ∙ g) (rw (e, n) (counting_none p.errors))

-- a declined call
declined : (p : Plain) (c : Call) (l : Run) (r : ℕ) → ((w : Orders) → orders_at p c (declines p l r) w ≡ w) → Shares p c (declines p l r)
declined p c l r w =
    untouched p c (declines p l r) (record { queue = refl; crossings = refl; crossed = refl; handed = refl; lost = λ h. refl }) refl w refl refl

nmt_shares : (p : Plain) (n : ℕ) (r : Result NmtEvent Refusal) → read_event n ≡ r → Shares p (nmt_event n) (nmt_step p r)
nmt_shares p n (Ok e) h = by (is_reset e)
  where
    o : Nmt.Outcome
    o = Nmt.processed p.nmt e

    by :
        (b : Bool) →
        Shares p (nmt_event n)
        (record { head = pick b (forgets (with_nmt p o.machine)) (with_nmt p o.machine); answer = nmt_answer o.errors o.reset; lent = no_run; event = made e; marks = []; checked = []; crossings = [] })
    by true =
        quiet p (nmt_event n) _ (record { queue = refl; crossings = refl; crossed = refl; handed = refl; lost = λ l. refl })
        (λ w g. mode_event p.nmt e w g) (counting_none p.errors)
    by false =
        quiet p (nmt_event n) _ (record { queue = refl; crossings = refl; crossed = refl; handed = refl; lost = λ l. refl })
        (λ w g. mode_event p.nmt e w g) (counting_none p.errors)
nmt_shares p n (Err r) h = declined p (nmt_event n) no_run (refusal_number r) (λ w. refl)

dll_shares : (p : Plain) (n : ℕ) (x : Bool) (r : Result DllCsEvent Refusal) → Shares p (dll_event n x) (dll_step p x r)
dll_shares p n x (Ok e) =
    untouched p (dll_event n x) (dll_step p x (Ok e))
    (record { queue = refl; crossings = refl; crossed = refl; handed = refl; lost = λ l. refl }) refl (λ w. refl) refl refl
dll_shares p n x (Err r) = declined p (dll_event n x) no_run (refusal_number r) (λ w. refl)

error_shares : (p : Plain) (k a b : ℕ) (r : Result DllError Refusal) → Shares p (error k a b) (error_step p r)
error_shares p k a b (Ok e) =
    quiet p (error k a b) (error_step p (Ok e))
    (record { queue = refl; crossings = refl; crossed = refl; handed = refl; lost = λ l. refl }) (λ w g. g)
    (counting_handled p.errors e)
error_shares p k a b (Err r) = declined p (error k a b) no_run (refusal_number r) (λ w. refl)

cycle_shares : (p : Plain) → Shares p cycle_complete (step p cycle_complete)
cycle_shares p =
    quiet p cycle_complete (step p cycle_complete) (record { queue = refl; crossings = refl; crossed = refl; handed = refl; lost = λ l. refl })
    (λ w g. g) (counting_completed p.errors)

withdraw_shares : (p : Plain) → Shares p withdraw (step p withdraw)
withdraw_shares p = by (not (same_state p.nmt.current_state NmtReadyToOperate)) refl
  where
    by :
        (b : Bool) →
        not (same_state p.nmt.current_state NmtReadyToOperate) ≡ b →
        Shares p withdraw (pick b (answers (with_nmt p (withdrawn p.nmt)) taken no_run) (declines p no_run 8))
    by true h =
        quiet p withdraw (answers (with_nmt p (withdrawn p.nmt)) taken no_run)
        (record { queue = refl; crossings = refl; crossed = refl; handed = refl; lost = λ l. refl })
        (λ w g. mode_withdraw p.nmt w h g) (counting_none p.errors)
    by false h = declined p withdraw no_run 8 (λ w. refl)

-- heard, add and removal are one of these: what they change of a head is its earliest moment alone
pub data Leaves (p : Plain) : Step → Type 0 where
  stays : (r : Run) (n : ℕ) → Leaves p (declines p r n)
  goes : (r : Run) → Leaves p (leaves p r)

pub run_call : (p : Plain) (ts : List (Test ℕ)) (r r' : Run) → Leaves p (tried ts (declines p r) (leaves p r'))
run_call p ts r r' = tried_by_lem (Leaves p) ts (declines p r) (leaves p r') (λ n. stays r n) (goes r')

run_shares : (p : Plain) (c : Call) {t : Step} → Leaves p t → ((t : Step) (w : Orders) → orders_at p c t w ≡ w) → Shares p c t
run_shares p c (stays r n) w = declined p c r n (w (declines p r n))
run_shares p c (goes r) w =
    untouched p c (leaves p r) (record { queue = refl; crossings = refl; crossed = refl; handed = refl; lost = λ l. refl }) refl (w (leaves p r)) refl refl

-- the oldest leaves, or none
hand_out_queue :
    (n : ℕ) (q : List ErrorEntry) (b : Bool) → Queued n q [] (handed_by (hand_out_answer (nth q 0))) (pick b [] []) (rest q)
unfolding nth
hand_out_queue n [] b = rw (none_dropped b) still
hand_out_queue n (e ∷ q) b = rw (none_dropped b) handed

hand_out_shares : (p : Plain) → Shares p hand_out (step p hand_out)
hand_out_shares p =
    record {
      orders = λ w g. g;
      queue = hand_out_queue p.capacity p.queue (is_full p);
      counts = counting_none p.errors;
      crossed = refl;
      lost = lost_none p hand_out (step p hand_out) refl (λ l. refl);
    }

-- a counter that is not loaded stays
counter_kept : (x : ℕ) (u : Option ℕ) → is_set u ≡ false → updated_counter x u ≡ x
counter_kept x (Some n) h = let z : ◌≡◌ {A = ℕ} 0 1 = cc in absurd (let f : ⊥ = omega arith in f)
counter_kept x None h = refl

load_shares : (p : Plain) (v : DictionaryUpdate) (h : HistoryUpdate) → Shares p (load v h) (step p (load v h))
unfolding updated
load_shares p v h =
    untouched p (load v h) (step p (load v h))
    (record {
      queue = refl;
      crossings = refl;
      crossed = refl;
      handed = refl;
      lost = counter_kept p.od.counter_3 v.counter_3;
    })
    refl (λ w. refl) refl refl

arm_shares : (p : Plain) (t : ℕ) → Shares p (arm t) (step p (arm t))
arm_shares p t =
    tried_by_lem (Shares p (arm t)) (arm_tests t) (declines p no_run)
    (answers (with_soc p (armed p.soc p.od t)) taken no_run)
    (λ r. declined p (arm t) no_run r (λ w. refl))
    (untouched p (arm t) (answers (with_soc p (armed p.soc p.od t)) taken no_run)
    (record { queue = refl; crossings = refl; crossed = refl; handed = refl; lost = λ l. refl }) refl (λ w. refl) refl refl)

-- what a tick's crossing does, if it has one: its entry waits or is dropped, and counter 3
enters_queue :
    (p : Plain) {cs q : List ErrorEntry} {n : ℕ} →
    Enters (seen p) cs q n →
    Queued p.capacity p.queue cs [] (dropped_by p cs) q
enters_queue p none = rw (none_dropped (is_full p)) still
enters_queue p (one {x = x}) = crossed_queue p x

enters_lost :
    (p : Plain) (c : Call) (t : Step) {cs q : List ErrorEntry} {n : ℕ} →
    Enters (seen p) cs q n →
    t.crossings ≡ cs →
    t.head.od.counter_3 ≡ n →
    LostShare p c t
enters_lost p c t none e h = lost_none p c t e (λ l. h)
enters_lost p c t (one {x = x}) e h = crossed_lost p c t x e h

tick_taken_shares : (p : Plain) (t : ℕ) (r l : Run) (k : Ticked) → PartOf p k → Shares p (tick t r) (tick_answered k l)
tick_taken_shares p t r l k h =
    record {
      orders = tells h.moves;
      queue = enters_queue p h.enters;
      counts = h.counts;
      crossed = h.crossed;
      lost = enters_lost p (tick t r) (tick_answered k l) h.enters refl refl;
    }

tick_shares : (p : Plain) (t : ℕ) (r : Run) → Shares p (tick t r) (step p (tick t r))
tick_shares p t r =
    tried_by_lem (Shares p (tick t r)) (tick_tests p t r) (declines p r) (tick_answered (tick_taken p t (watching r)) (refreshed_at p t r))
    (λ n. declined p (tick t r) r n (λ w. refl))
    (tick_taken_shares p t r (refreshed_at p t r) (tick_taken p t (watching r)) (tick_part p t (watching r)))

-- what changes nothing owes nothing
asked_shares :
    (p : Plain) (c : Call) (l : Run) (ts : List (Test ℕ)) (a : Answer) →
    handed_by a ≡ [] →
    ((t : Step) (w : Orders) → orders_at p c t w ≡ w) →
    Shares p c (tried ts (declines p l) (answers p a l))
asked_shares p c l ts a h w =
    tried_by_lem (Shares p c) ts (declines p l) (answers p a l) (λ r. declined p c l r (w (declines p l r)))
    (untouched p c (answers p a l) (record { queue = refl; crossings = refl; crossed = refl; handed = h; lost = λ l. refl }) refl (w (answers p a l)) refl refl)

range_shares : (p : Plain) (a b : ℕ) → Shares p (range a b) (step p (range a b))
range_shares p a b = asked_shares p (range a b) no_run (range_tests a b) (range_answer (verdict_of p a b)) refl (λ t w. refl)

margin_shares : (p : Plain) (t : ℕ) → Shares p (margin t) (step p (margin t))
margin_shares p t = asked_shares p (margin t) no_run (margin_tests t) (margin_answer (margin_of p t)) refl (λ t w. refl)

-- a frame
frame_shares : (p : Plain) (t : ℕ) (b : List ℕ) → Shares p (frame t b) (step p (frame t b))
frame_shares p t b = by (framed p t b)
  where
    by : {k : Step} → Framed p t k → Shares p (frame t b) k
    by (turned_away n) = declined p (frame t b) no_run n (λ w. refl)
    by passed_by =
        untouched p (frame t b) (answers p not_ours no_run)
        (record { queue = refl; crossings = refl; crossed = refl; handed = refl; lost = λ l. refl }) refl (λ w. refl) refl refl
    by (taken_as k g) =
        record {
          orders = tells_moved g.moves;
          queue = rw g.handed (enters_queue p g.enters);
          counts = g.counts;
          crossed = g.crossed;
          lost = enters_lost p (frame t b) k g.enters refl refl;
        }

-- each call
pub shares : (p : Plain) (c : Call) → Shares p c (step p c)
shares p (nmt_event n) = nmt_shares p n (read_event n) refl
shares p (dll_event n x) = dll_shares p n x (read_cs_event n)
shares p (error k a b) = error_shares p k a b (read_error k a b)
shares p cycle_complete = cycle_shares p
shares p withdraw = withdraw_shares p
shares p (heard n t r) = run_shares p (heard n t r) (run_call p (heard_tests n t r) r (changing (heard_at n t) r)) (λ t w. refl)
shares p hand_out = hand_out_shares p
shares p (load v h) = load_shares p v h
shares p (arm t) = arm_shares p t
shares p (tick t r) = tick_shares p t r
shares p (range a b) = range_shares p a b
shares p (margin t) = margin_shares p t
shares p (add n o r) = run_shares p (add n o r) (run_call p (add_tests n o r) r (added n o r)) (λ t w. refl)
shares p (remove n r) = run_shares p (remove n r) (run_call p (remove_tests n r) r (removed n r)) (λ t w. refl)
shares p (next_due r) = asked_shares p (next_due r) r (due_tests r) (due_answer (due p (watching r))) refl (λ t w. refl)
shares p (frame t b) = frame_shares p t b

-- a hand-out answers none exactly where the queue was empty
none_out :
    (q : List ErrorEntry) →
    (hand_out_answer (nth q 0) ≡ hand_out_answer None → q ≡ []) × (q ≡ [] → hand_out_answer (nth q 0) ≡ hand_out_answer None)
unfolding nth
none_out [] = (λ h. refl, λ h. refl)
none_out (e ∷ q) = (
  λ h. let z : ◌≡◌ {A = ℕ} 0 1 = cc in absurd (let f : ⊥ = omega arith in f),
  λ h. let z : ◌≡◌ {A = ℕ} 0 1 = cc in absurd (let f : ⊥ = omega arith in f),
)

pub rule : (p : Plain) (c : Call) → Rule p c
rule p c = record { queue = (shares p c).queue; none = λ h. rw h (none_out p.queue) }
