-- How long the watch sleeps, of the plain tick and of arm's watch: no part of a tick but the check
-- of the SoC moves the deadline, and only an end of the tick puts the check off.
-- Assumes nothing.
use Prim.Native.Nat.{ℕ, ◌+◌, ◌-◌, ◌*◌, ◌/◌, ◌≤◌, ◌<◌, min, max}
use mathlib.Core.Path.{◌≡◌, refl, sym, ap, subst, ◌∙◌}
use mathlib.Core.Bool.{Bool, true, false, true≢false}
use mathlib.Core.List.{List, [], ◌∷◌}
use native.Mathlib.Nat.{div-mul-le_self, lt-div-mul-add, add-mul}
use native.Mathlib.Omega.{arith}
use lib.Dec.{ltb}
use lib.ListN.{length}
use borrow.Author.Tests.{leb-false, ltb-true, lt-ltb}
use Rattle.types.specs.Pick.{pick}
use Rattle.types.specs.declared.nmt.states.NmtState.{NmtState}
use Rattle.types.specs.declared.nmt.states.NmtState.TheVariants.{NmtNotActive}
use Rattle.types.specs.declared.frame.error.types.DllError.{DllError}
use Rattle.types.proofs.Tests.{both_second}
use Rattle.counters.specs.Counters.{handled, HandledError}
use Rattle.counters.specs.Marks.{Mark, crosses, error_marks}
use Rattle.types.specs.declared.frame.cs_state_machine.DllCsEvent.TheVariants.{SocTimeout}
use Rattle.entries.specs.Entry.{crossing_entry}
use Rattle.entries.specs.declared.status_response.ErrorEntry.{ErrorEntry}
use Rattle.std.specs.declared.option.Option.{Option}
use Rattle.head.specs.declared.state.Deadline.{Deadline}
use Rattle.head.specs.declared.state.Deadline.TheVariants.{At, Nothing}
use Rattle.head.specs.declared.state.SocWatch.{SocWatch}
use Rattle.head.specs.declared.state.Dictionary.{Dictionary}
use Rattle.head.proofs.Laws.{state_is}
use Rattle.watched.specs.declared.nodes.WatchedNode.{WatchedNode}
use Rattle.watched.specs.Watched.{latest}
use Rattle.node.specs.Plain.{Plain}
use Rattle.node.specs.Steps.{dll_outcome, with_dll, with_errors, cycle_of, tolerance_of, limit_of, value_or, armed}
use Rattle.node.specs.Phases.{Ticked, goes_on, behind, acts, signalled, finished}
use Rattle.node.specs.Heartbeats.{checks_heartbeats, on_late_by, timeout_of, on_late, on_late_all, late_ones, heartbeats}
use Rattle.node.specs.DllErrors.{counter1, kept, dropped_one, queued, on_dll_error_by, on_dll_error, on_dll_errors}
use Rattle.node.specs.Deadline.{with_deadline, at_not_active, timed_out, last_soc, elapsed, next_deadline, rescheduled, within_limit, lost, soc_check, by_deadline}
use Rattle.node.specs.Tick.{tick_taken}
use Rattle.node.specs.Watch.{Watching, OffOrLater, off, later, Sleeps, Raised, Moves}
use Rattle.node.proofs.Refining.{picked}

-- by a test, of whose outcome each side may know
pub tested : {A : Type 0} (P : A → Type 0) (b : Bool) {x y : A} → (b ≡ true → P x) → (b ≡ false → P y) → P (pick b x y)
tested P true f g = f refl
tested P false f g = g refl

-- what the deadline is made of
record Watch : Type 0 where
  state : NmtState
  last : ℕ
  check : Bool
  deadline : Deadline
  cycle : Option ℕ
  tolerance : Option ℕ

abbrev watch : Plain → Watch
watch p =
    record {
      state = p.nmt.current_state;
      last = p.soc.last_soc_reception_time_us;
      check = p.soc.soc_timeout_check_active;
      deadline = p.soc.next_tick_us;
      cycle = p.od.cycle_time;
      tolerance = p.od.tolerance;
    }

-- a part of a tick that handles errors: it leaves all of this, or ends the tick with the check off
-- and the deadline as it was
record Handles (p : Plain) (k : Ticked) : Type 0 where
  stays : k.ended ≡ false → watch k.head ≡ watch p
  ends : k.ended ≡ true → k.head.soc.soc_timeout_check_active ≡ false
  deadline : k.head.soc.next_tick_us ≡ p.soc.next_tick_us

handles_none : (p : Plain) → Handles p (goes_on p)
handles_none p = record { stays = λ h. refl; ends = λ h. absurd (true≢false (sym h)); deadline = refl }

handles_then : (p : Plain) (a b : Ticked) → Handles p a → Handles a.head b → Handles p (pick a.ended a (behind a b))
handles_then p a b f g =
    tested (Handles p) a.ended (λ h. f)
    (λ h. record { stays = λ y. g.stays y ∙ f.stays h; ends = g.ends; deadline = g.deadline ∙ f.deadline })

finishes :
    (p g : Plain) (ends : Bool) (es : List DllError) (ms checked : List Mark) (cs : List ErrorEntry) →
    watch g ≡ watch p →
    Handles p (finished ends es ms checked cs g)
finishes p g true es ms checked cs e =
    record { stays = λ h. absurd (true≢false h); ends = λ h. refl; deadline = ap (λ (w : Watch). w.deadline) e }
finishes p g false es ms checked cs e =
    record { stays = λ h. e; ends = λ h. absurd (true≢false (sym h)); deadline = ap (λ (w : Watch). w.deadline) e }

on_late_by_lem : (p : Plain) (ms : List Mark) (r : HandledError) → Handles p (on_late_by p ms r)
on_late_by_lem p ms r =
    finishes p _ (acts r.action) _ ms [] []
    (picked (λ (g : Plain). watch g ≡ watch p) r.signal (signalled (with_errors p r.counters)) (with_errors p r.counters) refl refl)

on_late_all_lem : (p : Plain) (ws : List WatchedNode) → Handles p (on_late_all p ws)
unfolding on_late_all on_late
on_late_all_lem p [] = handles_none p
on_late_all_lem p (w ∷ ws) =
    handles_then p (on_late p w) (on_late_all (on_late p w).head ws)
    (on_late_by_lem p (error_marks p.errors (timeout_of w)) (handled p.errors (timeout_of w)))
    (on_late_all_lem (on_late p w).head ws)

heartbeats_handle : (p : Plain) (t : ℕ) (ws : List WatchedNode) → Handles p (heartbeats p t ws)
heartbeats_handle p t ws =
    picked (Handles p) (checks_heartbeats p.nmt.current_state) (on_late_all p (late_ones t ws)) (goes_on p) (on_late_all_lem p (late_ones t ws)) (handles_none p)

on_dll_error_by_lem : (p : Plain) (ms : List Mark) (crosses : Bool) (x : ErrorEntry) (r : HandledError) → Handles p (on_dll_error_by p ms crosses x r)
unfolding queued
on_dll_error_by_lem p ms crosses x r =
    let g = with_errors (counter1 p) r.counters in
    let s = signalled g in
    finishes p _ (acts r.action) _ ms ms _
    (picked (λ (g : Plain). watch g ≡ watch p) crosses (queued s x) g
    (picked (λ (g : Plain). watch g ≡ watch p) (ltb (length s.queue) s.capacity) (kept s x) (dropped_one s) refl refl) refl)

on_dll_errors_lem : (t : ℕ) (p : Plain) (es : List DllError) → Handles p (on_dll_errors t p es)
unfolding on_dll_errors on_dll_error
on_dll_errors_lem t p [] = handles_none p
on_dll_errors_lem t p (e ∷ es) =
    handles_then p (on_dll_error t p e) (on_dll_errors t (on_dll_error t p e).head es)
    (on_dll_error_by_lem p (error_marks p.errors e) (crosses p.errors e) (crossing_entry e t) (handled p.errors e))
    (on_dll_errors_lem t (on_dll_error t p e).head es)

-- the errors of a DLL event leave the deadline, and an action puts the check off
pub on_dll_errors_deadline : (t : ℕ) (p : Plain) (es : List DllError) → (on_dll_errors t p es).head.soc.next_tick_us ≡ p.soc.next_tick_us
on_dll_errors_deadline t p es = (on_dll_errors_lem t p es).deadline

pub on_dll_errors_check :
    (t : ℕ) (p : Plain) (es : List DllError) → (on_dll_errors t p es).ended ≡ true →
    (on_dll_errors t p es).head.soc.soc_timeout_check_active ≡ false
on_dll_errors_check t p es h = (on_dll_errors_lem t p es).ends h

-- the cycles that have begun end at most one cycle after now, and after it
pub ahead : (e k : ℕ) → (e / k + 1) * k ≤ e + k
ahead e k = omega (arith, div-mul-le_self e k, add-mul (e / k) 1 k)

not_yet : (e k : ℕ) → 0 < k → e < (e / k + 1) * k
not_yet e k h = omega (arith, lt-div-mul-add {a = e} {b = k} h, add-mul (e / k) 1 k)

pub next_later : (l t k o : ℕ) → 0 < k → t < l + ((t - l) / k + 1) * k + o
next_later l t k o h = omega (arith, not_yet (t - l) k h)

next_soon : (l t k o : ℕ) → l + ((t - l) / k + 1) * k + o ≤ max t l + (k + o)
next_soon l t k o = omega (arith, ahead (t - l) k)

-- a deadline is one moment
abbrev due_of : Deadline → ℕ
due_of (At n) = n
due_of Nothing = 0

none_due : {A : Type 0} {d : Deadline} {e : ℕ} → d ≡ Nothing → d ≡ At e → A
none_due f g = absurd (true≢false (let e = sym f ∙ g in cc))

-- the latest that a new deadline may be, and what a tick leaves whose deadline was used up
abbrev most : Watch → ℕ → ℕ
most w t = max t (min w.last latest) + (value_or 0 w.cycle + value_or 100000 w.tolerance / 1000)

record Renewed (w : Watch) (t : ℕ) (s : SocWatch) : Type 0 where
  wakes : OffOrLater t s
  soon : (e : ℕ) → s.next_tick_us ≡ At e → e ≤ most w t

renewed_at : (p : Plain) (t n : ℕ) → n ≤ most (watch p) t → t < n → Renewed (watch p) t (with_deadline p (At n)).soc
renewed_at p t n f g = record { wakes = later n refl g; soon = λ e h. subst (λ (e : ℕ). e ≤ most (watch p) t) (ap due_of h) f }

rescheduled_renewed : (p : Plain) (t : ℕ) → p.soc.next_tick_us ≡ Nothing → Renewed (watch p) t (rescheduled p t).soc
rescheduled_renewed p t n =
    tested (λ (g : Plain). Renewed (watch p) t g.soc) _
    (λ h.
    renewed_at p t (next_deadline p t) (next_soon (last_soc p) t (cycle_of p.od) (tolerance_of p.od / 1000))
    (next_later (last_soc p) t (cycle_of p.od) (tolerance_of p.od / 1000) (ltb-true 0 (cycle_of p.od) h)))
    (λ h. record { wakes = off refl; soon = λ e g. none_due n g })

within_renewed : (p : Plain) (t : ℕ) → p.soc.next_tick_us ≡ Nothing → Renewed (watch p) t (within_limit p t).soc
within_renewed p t n =
    tested (λ (g : Plain). Renewed (watch p) t g.soc) _
    (λ h.
    renewed_at p t (last_soc p + limit_of p.od) (omega arith) (ltb-true t (last_soc p + limit_of p.od) (both_second (ltb 0 (cycle_of p.od)) _ h)))
    (λ h. rescheduled_renewed p t n)

lost_renewed : (p : Plain) (t : ℕ) → p.soc.next_tick_us ≡ Nothing → Renewed (watch p) t (lost p t).head.soc
lost_renewed p t n =
    let k = on_dll_errors t (with_dll p (dll_outcome p SocTimeout true).state) (dll_outcome p SocTimeout true).errors in
    let f = on_dll_errors_lem t (with_dll p (dll_outcome p SocTimeout true).state) (dll_outcome p SocTimeout true).errors in
    tested (λ (k : Ticked). Renewed (watch p) t k.head.soc) k.ended
    (λ h. record { wakes = off (f.ends h); soon = λ e g. none_due (f.deadline ∙ n) g })
    (λ h. subst (λ (w : Watch). Renewed w t (rescheduled k.head t).soc) (f.stays h) (rescheduled_renewed k.head t (f.deadline ∙ n)))

-- the check of the SoC, with the check on and the deadline used up
check_renewed : (p : Plain) (t : ℕ) → p.soc.soc_timeout_check_active ≡ true → p.soc.next_tick_us ≡ Nothing → Renewed (watch p) t (soc_check p t).head.soc
unfolding soc_check
check_renewed p t c n =
    subst
    (λ (b : Bool).
    Renewed (watch p) t (pick {A = Ticked} b (pick (ltb (limit_of p.od) (elapsed p t)) (lost p t) (goes_on (within_limit p t))) (goes_on p)).head.soc)
    (sym c)
    (picked (λ (k : Ticked). Renewed (watch p) t k.head.soc) (ltb (limit_of p.od) (elapsed p t)) (lost p t) (goes_on (within_limit p t)) (lost_renewed p t n) (within_renewed p t n))

not_there : (p : Plain) → (p.nmt.current_state ≡ NmtNotActive → ⊥) → at_not_active p ≡ false
not_there p f = by (at_not_active p) refl
  where
    by : (b : Bool) → at_not_active p ≡ b → b ≡ false
    by true h = absurd (f (state_is p.nmt.current_state NmtNotActive h))
    by false h = refl

-- by the deadline d
deadline_sleeps : (p : Plain) (t d : ℕ) → Watching p d → Sleeps p t d (by_deadline p t (At d)).head.soc
deadline_sleeps p t d w =
    tested (λ (k : Ticked). Sleeps p t d k.head.soc) _
    (λ h.
    let g = with_deadline p Nothing in
    let s =
    subst (λ (b : Bool). Renewed (watch g) t (pick {A = Ticked} b (timed_out g) (soc_check g t)).head.soc) (sym (not_there p w.outside))
    (check_renewed g t w.check refl) in
    record { wakes = s.wakes; soon = λ h. s.soon })
    (λ h. record { wakes = later d w.deadline (leb-false d t h); soon = λ g. let z = leb-false d t h in absurd (omega arith) })

-- THE TICK
pub tick_sleeps : (p : Plain) (t : ℕ) (ws : List WatchedNode) (d : ℕ) → Watching p d → Sleeps p t d (tick_taken p t ws).head.soc
unfolding tick_taken
tick_sleeps p t ws d w =
    tested (λ (k : Ticked). Sleeps p t d k.head.soc) b.ended
    (λ h. record { wakes = off (f.ends h); soon = λ g e x. let z : d ≡ e = ap due_of (sym stood ∙ x) in omega arith })
    (λ h.
    let same = f.stays h in
    let s =
    deadline_sleeps b.head t d
    (record {
      outside = λ g. w.outside (sym (ap (λ (w : Watch). w.state) same) ∙ g);
      check = ap (λ (w : Watch). w.check) same ∙ w.check;
      deadline = stood;
    }) in
    subst (λ (x : Deadline). Sleeps p t d (by_deadline b.head t x).head.soc) (sym stood)
    (record { wakes = s.wakes; soon = λ g e x. subst (λ (w : Watch). e ≤ most w t) same (s.soon g e x) }))
  where
    b : Ticked
    b = heartbeats p t ws

    f : Handles p b
    f = heartbeats_handle p t ws

    stood : b.head.soc.next_tick_us ≡ At d
    stood = f.deadline ∙ w.deadline

-- AN ARM
arm_sets : (s : SocWatch) (o : Dictionary) (t : ℕ) → 0 < cycle_of o → (armed s o t).next_tick_us ≡ At (t + limit_of o)
unfolding armed
arm_sets s o t c = rw (lt-ltb 0 (cycle_of o) c)

pub arm_moves :
    (t d : ℕ) (s s' : SocWatch) (o o' : Dictionary) →
    0 < cycle_of o →
    Raised d o o' →
    Moves d (armed s o t) (armed s' o' t)
arm_moves t d s s' o o' c r =
    record {
      from = t + limit_of o;
      to = t + limit_of o';
      stood = arm_sets s o t c;
      stands = arm_sets s' o' t (subst (λ (n : ℕ). 0 < n) (sym r.cycle) c);
      never_earlier = omega (arith, r.cycle, r.tolerance);
      at_most = omega (arith, r.cycle, r.tolerance);
    }
