-- Laws of a frame at the plain head: an action leaves the deadline and puts the check off (RULES
-- 13.4), and the errors of the NMT machine are not counted (RULES 13.5).
-- Assumes nothing.
use Prim.Native.Nat.{ℕ}
use mathlib.Core.Path.{◌≡◌, refl, sym, subst}
use mathlib.Core.Bool.{Bool, true, false}
use Rattle.types.specs.Pick.{pick}
use Rattle.types.specs.Frames.{frame_cs_event}
use Rattle.types.specs.declared.nmt.events.NmtEvent.{NmtEvent}
use Rattle.std.specs.declared.option.Option.{Option}
use Rattle.std.specs.declared.option.Option.TheVariants.{Some, None}
use Rattle.frames.specs.declared.Message.{Message}
use Rattle.frames.specs.Frame.{message_type}
use Rattle.nmt.specs.Resets.{is_reset}
use Rattle.nmt.specs.Nmt as Nmt
use Rattle.node.specs.Plain.{Plain, Step}
use Rattle.node.specs.Steps.{with_nmt, with_dll, dll_outcome, forgets}
use Rattle.node.specs.FrameSteps.{received, with_event, stops, follows, frame_taken}
use Rattle.node.proofs.Watch.{on_dll_errors_deadline, on_dll_errors_check}

-- behind an action the deadline stands as it stood, and the check is off
pub action_keeps :
    (t : ℕ) (p : Plain) (m : Message) → (received t p m).ended ≡ true →
    ((frame_taken t p m).head.soc.next_tick_us ≡ p.soc.next_tick_us)
    × ((frame_taken t p m).head.soc.soc_timeout_check_active ≡ false)
unfolding frame_taken
action_keeps t p m h =
    let o = dll_outcome p (frame_cs_event (message_type m)) true in
    let g = with_dll p o.state in
    subst
    (λ (b : Bool).
    let k : Step = pick b (stops (received t p m)) (follows t m (received t p m)) in
    (k.head.soc.next_tick_us ≡ p.soc.next_tick_us) × (k.head.soc.soc_timeout_check_active ≡ false))
    (sym h) (on_dll_errors_deadline t g o.errors, on_dll_errors_check t g o.errors h)

-- an event of a frame, a reset too, changes neither the error counters nor a value of the
-- dictionary, counter 1 among them
pub event_uncounted : (e : Option NmtEvent) (p : Plain) → ((with_event e p).errors ≡ p.errors) × ((with_event e p).od ≡ p.od)
event_uncounted (Some e) p = by (is_reset e) (with_nmt p (Nmt.processed p.nmt e).machine)
  where
    by : (b : Bool) (g : Plain) → ((pick b (forgets g) g).errors ≡ g.errors) × ((pick b (forgets g) g).od ≡ g.od)
    by true g = (refl, refl)
    by false g = (refl, refl)
event_uncounted None p = (refl, refl)
