-- The tick's share: what each part of a tick does to the mode, the counters, the queue and counter 3.
-- Assumes nothing.
use Prim.Native.Nat.{ℕ, ◌+◌}
use mathlib.Core.Path.{◌≡◌, refl, sym, ap, ap₂, subst, ◌∙◌}
use mathlib.Core.Bool.{Bool, true, false, not, true≢false}
use mathlib.Core.List.{List, [], ◌∷◌, ◌++◌}
use lib.Dec.{leb, ltb}
use lib.ListN.{length, length-append}
use borrow.Author.Tests.{leb-true, leb-false, lt-ltb, le-ltb}
use Rattle.types.specs.Pick.{pick, both, all_of}
use Rattle.types.specs.declared.nmt.events.NmtEvent.TheVariants.{Error, Timeout}
use Rattle.types.specs.declared.frame.error.types.DllError.{DllError}
use Rattle.types.proofs.Tests.{both_first, both_second}
use Rattle.nmt.specs.Nmt as Nmt
use Rattle.nmt.specs.declared.cn_state_machine.CnNmtStateMachine.{CnNmtStateMachine}
use Rattle.types.specs.declared.frame.cs_state_machine.DllCsEvent.{DllCsEvent}
use Rattle.types.specs.declared.frame.cs_state_machine.DllCsEvent.TheVariants.{SocTimeout}
use Rattle.counters.specs.Counters.{counter, after_error, Effect, counts, loses_link, is_logged, nothing, effect, handled, HandledError}
use Rattle.counters.specs.Marks.{Mark, given, crossed, is_crossing, count_of, effect_crosses, crosses, effect_marks, error_marks}
use Rattle.counters.specs.declared.counters.CounterKind.{CounterKind}
use Rattle.counters.specs.declared.counters.CnErrorCounters.{CnErrorCounters}
use Rattle.entries.specs.Entry.{crossing_entry}
use Rattle.entries.specs.declared.status_response.ErrorEntry.{ErrorEntry}
use Rattle.head.specs.declared.state.Deadline.{Deadline}
use Rattle.head.specs.declared.state.Deadline.TheVariants.{At, Nothing}
use Rattle.watched.specs.declared.nodes.WatchedNode.{WatchedNode}
use Rattle.node.specs.Plain.{Plain, EventMade, made, no_event}
use Rattle.node.specs.Steps.{dll_outcome, with_dll, with_errors, with_soc, cycle_of, limit_of}
use Rattle.node.specs.Phases.{Ticked, goes_on, behind, acts, one_more, signalled, check_off, finished, on_handled, event_in_tick}
use Rattle.node.specs.Heartbeats.{checks_heartbeats, on_late_by, timeout_of, on_late, on_late_all, late_ones, heartbeats}
use Rattle.node.specs.DllErrors.{counter1, kept, dropped_one, queued, on_dll_error_by, on_dll_error, on_dll_errors, on_dll_event}
use Rattle.node.specs.Deadline.{with_deadline, at_not_active, basic_timeout, timed_out, last_soc, elapsed, next_deadline, rescheduled, within_limit, lost, soc_check, used_up, by_deadline}
use Rattle.node.specs.Tick.{tick_taken}
use Rattle.phases.specs.Parts.{is_quiet}
use Rattle.phases.proofs.PartLaws.{handled_quiet, quiet_crosses}
use Rattle.tick.proofs.DllEvents.{events_quiet}
use Rattle.trace.specs.Tally.{Orders, orders_made}
use Rattle.trace.proofs.Modes.{mode, mode_event}
use Rattle.counters.proofs.Balance.{count_append}
use Rattle.counters.proofs.Counts.{Counting, counting_none, counting_then, counting_handled}

-- what the shares see of a head, besides the counters
pub record Seen : Type 0 where
  pub nmt : CnNmtStateMachine
  pub capacity : ℕ
  pub queue : List ErrorEntry
  pub lost : ℕ
  pub last : ℕ

abbrev pub seen : Plain → Seen
seen p =
    record {
      nmt = p.nmt;
      capacity = p.capacity;
      queue = p.queue;
      lost = p.od.counter_3;
      last = p.soc.last_soc_reception_time_us;
    }

abbrev full : Seen → Bool
full s = leb s.capacity (length s.queue)

-- what a tick does to the machine: nothing, or the event Error or Timeout
pub data InTick (m : CnNmtStateMachine) : EventMade → CnNmtStateMachine → Type 0 where
  still : InTick m no_event m
  fails : InTick m (made Error) (Nmt.processed m Error).machine
  times_out_lem : InTick m (made Timeout) (Nmt.processed m Timeout).machine

-- the mode, over it
pub tells : {m m' : CnNmtStateMachine} {e : EventMade} → InTick m e m' → (w : Orders) → mode m w ≡ true → mode m' (orders_made m e m' w) ≡ true
tells {m = m} still w h = h
tells {m = m} fails w h = mode_event m Error w h
tells {m = m} times_out_lem w h = mode_event m Timeout w h

-- No crossing, and queue and counter 3 stay; or one, whose entry waits or, with the queue full, is dropped with counter 3.
pub data Enters (s : Seen) : List ErrorEntry → List ErrorEntry → ℕ → Type 0 where
  none : Enters s [] s.queue s.lost
  one :
      {x : ErrorEntry} →
      Enters s (x ∷ []) (pick (full s) s.queue (s.queue ++ (x ∷ []))) (pick (full s) (one_more s.lost) s.lost)

-- a part of a tick, from a head of which s is seen, with the counters e
pub record Part (s : Seen) (e : CnErrorCounters) (k : Ticked) : Type 0 where
  pub moves : InTick s.nmt k.event k.head.nmt
  pub counts : Counting e k.marks k.head.errors
  pub enters : Enters s k.crossings k.head.queue k.head.od.counter_3
  -- a crossing is one that reached the threshold
  pub crossed : length k.crossings ≡ count_of is_crossing k.checked
  -- a tick leaves the last SoC time
  pub last : k.head.soc.last_soc_reception_time_us ≡ s.last

abbrev pub PartOf : Plain → Ticked → Type 0
PartOf p k = Part (seen p) p.errors k

-- and one that leaves what is seen, and crosses nothing, unless it ends the tick
pub record Walk (s : Seen) (e : CnErrorCounters) (k : Ticked) : Type 0 where
  pub part : Part s e k
  pub stays : k.ended ≡ false → seen k.head ≡ s
  pub uncrossed : k.ended ≡ false → k.crossings ≡ []

abbrev pub WalkOf : Plain → Ticked → Type 0
WalkOf p k = Walk (seen p) p.errors k

pub picked : {A : Type 0} (P : A → Type 0) (b : Bool) {x y : A} → P x → P y → P (pick b x y)
picked P true h g = h
picked P false h g = g

-- nothing is done but to what is not seen
idle : (p : Plain) → WalkOf p (goes_on p)
idle p =
    record {
      part = record { moves = still; counts = counting_none p.errors; enters = none; crossed = refl; last = refl };
      stays = λ h. refl;
      uncrossed = λ h. refl;
    }

-- one part behind another that has not ended
module _ (s : Seen) (e : CnErrorCounters) (a : Ticked) (w : Walk s e a) (b : Ticked) where
  part_behind : a.ended ≡ false → PartOf a.head b → Part s e (behind a b)
  part_behind h g =
      let z : seen a.head ≡ s = w.stays h in
      record {
        moves = subst (λ (s : Seen). InTick s.nmt b.event b.head.nmt) z g.moves;
        counts = counting_then w.part.counts g.counts;
        enters =
            subst (λ (cs : List ErrorEntry). Enters s (cs ++ b.crossings) b.head.queue b.head.od.counter_3) (sym (w.uncrossed h))
            (subst (λ (s : Seen). Enters s b.crossings b.head.queue b.head.od.counter_3) z g.enters);
        crossed =
            length-append a.crossings b.crossings
            ∙ ap₂ (λ (m n : ℕ). m + n) w.part.crossed g.crossed
            ∙ sym (count_append is_crossing a.checked b.checked);
        last = g.last ∙ ap (λ (s : Seen). s.last) z;
      }

  part_then : PartOf a.head b → Part s e (pick a.ended a (behind a b))
  part_then g = by a.ended refl
    where
      by : (x : Bool) → a.ended ≡ x → Part s e (pick x a (behind a b))
      by true h = w.part
      by false h = part_behind h g

  walk_then : WalkOf a.head b → Walk s e (pick a.ended a (behind a b))
  walk_then g = by a.ended refl
    where
      by : (x : Bool) → a.ended ≡ x → Walk s e (pick x a (behind a b))
      by true h = w
      by false h =
          record {
            part = part_behind h g.part;
            stays = λ y. g.stays y ∙ w.stays h;
            uncrossed = λ y. ap₂ (λ (c d : List ErrorEntry). c ++ d) (w.uncrossed h) (g.uncrossed y);
          }

-- an error was handled, which left g of the head p: the event Error, where it ends the tick
finishes :
    (p g : Plain) (ends : Bool) (es : List DllError) (ms checked : List Mark) (cs : List ErrorEntry) →
    g.nmt ≡ p.nmt →
    g.soc.last_soc_reception_time_us ≡ p.soc.last_soc_reception_time_us →
    Counting p.errors ms g.errors →
    Enters (seen p) cs g.queue g.od.counter_3 →
    length cs ≡ count_of is_crossing checked →
    (ends ≡ false → seen g ≡ seen p) →
    (ends ≡ false → cs ≡ []) →
    WalkOf p (finished ends es ms checked cs g)
finishes p g true es ms checked cs m l c n x s u =
    record {
      part =
          record {
            moves = subst (λ (m : CnNmtStateMachine). InTick p.nmt (made Error) (Nmt.processed m Error).machine) (sym m) fails;
            counts = c;
            enters = n;
            crossed = x;
            last = l;
          };
      stays = λ h. absurd (true≢false h);
      uncrossed = λ h. absurd (true≢false h);
    }
finishes p g false es ms checked cs m l c n x s u =
    record {
      part =
          record {
            moves = subst (λ (m : CnNmtStateMachine). InTick p.nmt no_event m) (sym m) still;
            counts = c;
            enters = n;
            crossed = x;
            last = l;
          };
      stays = s;
      uncrossed = u;
    }

-- a heartbeat's error
on_late_by_lem : (p : Plain) (ms : List Mark) (r : HandledError) → Counting p.errors ms r.counters → WalkOf p (on_late_by p ms r)
on_late_by_lem p ms r c = by r.signal
  where
    by : (b : Bool) → WalkOf p (on_handled r ms [] [] (pick b (signalled (with_errors p r.counters)) (with_errors p r.counters)))
    by true =
        finishes p (signalled (with_errors p r.counters)) (acts r.action) _ ms [] [] refl refl c none refl (λ h. refl) (λ h. refl)
    by false = finishes p (with_errors p r.counters) (acts r.action) _ ms [] [] refl refl c none refl (λ h. refl) (λ h. refl)

pub on_late_walk : (p : Plain) (w : WatchedNode) → WalkOf p (on_late p w)
unfolding on_late
on_late_walk p w =
    on_late_by_lem p (error_marks p.errors (timeout_of w)) (handled p.errors (timeout_of w)) (counting_handled p.errors (timeout_of w))

pub on_late_all_walk : (p : Plain) (ws : List WatchedNode) → WalkOf p (on_late_all p ws)
unfolding on_late_all
on_late_all_walk p [] = idle p
on_late_all_walk p (w ∷ ws) =
    walk_then (seen p) p.errors (on_late p w) (on_late_walk p w) (on_late_all (on_late p w).head ws) (on_late_all_walk (on_late p w).head ws)

pub heartbeats_walk : (p : Plain) (t : ℕ) (ws : List WatchedNode) → WalkOf p (heartbeats p t ws)
heartbeats_walk p t ws =
    picked (WalkOf p) (checks_heartbeats p.nmt.current_state) (on_late_all_walk p (late_ones t ws)) (idle p)

-- there is room, or the queue is full
pub room_or_full : (n c : ℕ) → ltb n c ≡ not (leb c n)
room_or_full n c = by (leb c n) refl
  where
    by : (b : Bool) → leb c n ≡ b → ltb n c ≡ not b
    by true h = le-ltb n c (leb-true c n h)
    by false h = lt-ltb n c (leb-false c n h)

-- one crossing, by whether the queue is full
entered :
    (s : Seen) (x : ErrorEntry) (b : Bool) →
    full s ≡ b →
    Enters s (x ∷ []) (pick b s.queue (s.queue ++ (x ∷ []))) (pick b (one_more s.lost) s.lost)
entered s x b f =
    subst (λ (b : Bool). Enters s (x ∷ []) (pick b s.queue (s.queue ++ (x ∷ []))) (pick b (one_more s.lost) s.lost)) f one

-- an error that crosses leaves one mark of it
crossed_once : (s : CnErrorCounters) (e : DllError) → count_of is_crossing (error_marks s e) ≡ pick (crosses s e) 1 0
unfolding error_marks crosses
crossed_once s e = by (effect e)
  where
    reached : (k : CounterKind) (b : Bool) → count_of is_crossing (given k ∷ pick b (crossed k ∷ []) []) ≡ pick b 1 0
    reached k true = refl
    reached k false = refl

    by : (f : Effect) → count_of is_crossing (effect_marks f s) ≡ pick (effect_crosses f s) 1 0
    by (counts k) = reached k (after_error (counter k s)).reached
    by loses_link = refl
    by is_logged = refl
    by nothing = refl

-- An error of the SoC check that crosses only with an action: it crosses at most once, and then ends the tick.
module _ (p : Plain) (ms : List Mark) (crosses : Bool) (x : ErrorEntry) (r : HandledError) (c : Counting p.errors ms r.counters) (q : acts r.action ≡ false → crosses ≡ false) (n : count_of is_crossing ms ≡ pick crosses 1 0) where
  abbrev g : Plain
  g = with_errors (counter1 p) r.counters

  abbrev joins : Bool → Plain
  joins room = pick room (kept (signalled g) x) (dropped_one (signalled g))

  enters_one : crosses ≡ true → (b : Bool) → full (seen p) ≡ b → WalkOf p (on_handled r ms ms (x ∷ []) (joins (not b)))
  enters_one h true f =
      finishes p (joins false) (acts r.action) _ ms ms (x ∷ []) refl refl c (entered (seen p) x true f) (sym (n ∙ ap (λ (b : Bool). pick b 1 0) h))
      (λ a. absurd (true≢false (sym h ∙ q a))) (λ a. absurd (true≢false (sym h ∙ q a)))
  enters_one h false f =
      finishes p (joins true) (acts r.action) _ ms ms (x ∷ []) refl refl c (entered (seen p) x false f) (sym (n ∙ ap (λ (b : Bool). pick b 1 0) h))
      (λ a. absurd (true≢false (sym h ∙ q a))) (λ a. absurd (true≢false (sym h ∙ q a)))

  on_dll_error_by_lem : WalkOf p (on_dll_error_by p ms crosses x r)
  unfolding queued
  on_dll_error_by_lem = by crosses refl
    where
      by : (b : Bool) → crosses ≡ b → WalkOf p (on_handled r ms ms (pick b (x ∷ []) []) (pick b (queued (signalled g) x) g))
      by true h =
          subst (λ (b : Bool). WalkOf p (on_handled r ms ms (x ∷ []) (joins b))) (sym (room_or_full (length p.queue) p.capacity))
          (enters_one h (full (seen p)) refl)
      by false h = finishes p g (acts r.action) _ ms ms [] refl refl c none (sym (n ∙ ap (λ (b : Bool). pick b 1 0) h)) (λ a. refl) (λ a. refl)

pub on_dll_error_walk : (t : ℕ) (p : Plain) (e : DllError) → is_quiet e ≡ true → WalkOf p (on_dll_error t p e)
unfolding on_dll_error
on_dll_error_walk t p e q =
    on_dll_error_by_lem p (error_marks p.errors e) (crosses p.errors e) (crossing_entry e t) (handled p.errors e) (counting_handled p.errors e)
    (λ a. sym (quiet_crosses p.errors e q) ∙ (handled_quiet p.errors e q a).signal) (crossed_once p.errors e)

pub on_dll_errors_walk : (t : ℕ) (p : Plain) (es : List DllError) → all_of is_quiet es ≡ true → WalkOf p (on_dll_errors t p es)
unfolding on_dll_errors
on_dll_errors_walk t p [] q = idle p
on_dll_errors_walk t p (e ∷ es) q =
    walk_then (seen p) p.errors (on_dll_error t p e) (on_dll_error_walk t p e (both_first (is_quiet e) (all_of is_quiet es) q))
    (on_dll_errors t (on_dll_error t p e).head es)
    (on_dll_errors_walk t (on_dll_error t p e).head es (both_second (is_quiet e) (all_of is_quiet es) q))

-- a DLL event with its errors
pub on_dll_event_walk : (t : ℕ) (p : Plain) (e : DllCsEvent) → WalkOf p (on_dll_event t p e)
on_dll_event_walk t p e =
    on_dll_errors_walk t (with_dll p (dll_outcome p e true).state) (dll_outcome p e true).errors
    (events_quiet p.dll e p.nmt.current_state)

pub rescheduled_walk : (p : Plain) (t : ℕ) → WalkOf p (goes_on (rescheduled p t))
rescheduled_walk p t =
    picked (λ (g : Plain). WalkOf p (goes_on g)) (ltb 0 (cycle_of p.od)) (idle (with_deadline p (At (next_deadline p t))))
    (idle (with_soc p (check_off p.soc)))

within_walk : (p : Plain) (t : ℕ) → WalkOf p (goes_on (within_limit p t))
within_walk p t =
    picked (λ (g : Plain). WalkOf p (goes_on g)) (both (ltb 0 (cycle_of p.od)) (ltb t (last_soc p + limit_of p.od)))
    (idle (with_deadline p (At (last_soc p + limit_of p.od)))) (rescheduled_walk p t)

lost_walk : (p : Plain) (t : ℕ) → WalkOf p (lost p t)
lost_walk p t =
    let k = on_dll_event t p SocTimeout in
    walk_then (seen p) p.errors k (on_dll_event_walk t p SocTimeout) (goes_on (rescheduled k.head t))
    (rescheduled_walk k.head t)

pub soc_check_walk : (p : Plain) (t : ℕ) → WalkOf p (soc_check p t)
unfolding soc_check
soc_check_walk p t =
    picked (WalkOf p) p.soc.soc_timeout_check_active
    (picked (WalkOf p) (ltb (limit_of p.od) (elapsed p t)) (lost_walk p t) (within_walk p t)) (idle p)

-- at NotActive: the event Timeout
pub times_out_part : (p : Plain) → PartOf p (timed_out p)
times_out_part p = by (ltb 0 (basic_timeout p))
  where
    by :
        (b : Bool) →
        PartOf p
        (record { head = pick b (event_in_tick p Timeout) p; logged = []; event = pick b (made Timeout) no_event; marks = []; checked = []; crossings = []; ended = false })
    by true = record { moves = times_out_lem; counts = counting_none p.errors; enters = none; crossed = refl; last = refl }
    by false = record { moves = still; counts = counting_none p.errors; enters = none; crossed = refl; last = refl }

pub passed_part : (p : Plain) (t : ℕ) → PartOf p (used_up p t)
passed_part p t = picked (PartOf p) (at_not_active p) (times_out_part p) (soc_check_walk p t).part

pub by_deadline_part : (p : Plain) (t : ℕ) (d : Deadline) → PartOf p (by_deadline p t d)
by_deadline_part p t Nothing =
    picked (λ (g : Plain). PartOf p (goes_on g)) (at_not_active p)
    (picked (λ (g : Plain). PartOf p (goes_on g)) (ltb 0 (basic_timeout p)) (idle (with_deadline p (At (t + basic_timeout p)))).part (idle p).part)
    (idle p).part
by_deadline_part p t (At d) = picked (PartOf p) (leb d t) (passed_part (with_deadline p Nothing) t) (idle p).part

-- the tick
pub tick_part : (p : Plain) (t : ℕ) (ws : List WatchedNode) → PartOf p (tick_taken p t ws)
unfolding tick_taken
tick_part p t ws =
    let b = heartbeats p t ws in
    part_then (seen p) p.errors b (heartbeats_walk p t ws) (by_deadline b.head t b.head.soc.next_tick_us)
    (by_deadline_part b.head t b.head.soc.next_tick_us)
