-- What a tick does behind the heartbeats (RULES 7.5 to 7.8): the basic timeout, the deadline and
-- the SoC check.
-- Assumes nothing.
use Rattle.std.specs.Prelude.{ℕ, ◌+◌, ◌-◌, ◌*◌, ◌/◌, min, Bool, false, [], leb, ltb}
use Rattle.types.specs.Pick.{pick, both}
use Rattle.types.specs.States.{same_state}
use Rattle.types.specs.declared.nmt.states.NmtState.TheVariants.{NmtNotActive}
use Rattle.types.specs.declared.nmt.events.NmtEvent.TheVariants.{Timeout}
use Rattle.types.specs.declared.frame.cs_state_machine.DllCsEvent.TheVariants.{SocTimeout}
use Rattle.head.specs.declared.state.Deadline.{Deadline}
use Rattle.head.specs.declared.state.Deadline.TheVariants.{At, Nothing}
use Rattle.watched.specs.Watched.{latest}
use Rattle.node.specs.Plain.{Plain, made, no_event}
use Rattle.node.specs.Steps.{with_soc, cycle_of, tolerance_of, limit_of}
use Rattle.head.specs.Head.{soc_watch}
use Rattle.node.specs.Phases.{Ticked, goes_on, behind, check_off, event_in_tick}
use Rattle.node.specs.DllErrors.{on_dll_event}

-- the head with another deadline, or none
abbrev pub with_deadline : Plain → Deadline → Plain
with_deadline p d =
    with_soc p
    (soc_watch p.soc.last_soc_reception_time_us p.soc.soc_timeout_check_active d p.soc.error_status_changed)

-- the NMT state is NotActive
abbrev pub at_not_active : Plain → Bool
at_not_active p = same_state p.nmt.current_state NmtNotActive

-- the basic timeout in µs
abbrev pub basic_timeout : Plain → ℕ
basic_timeout p = p.nmt.basic_ethernet_timeout

-- at NotActive without a deadline, one is set at now + basic timeout, where that timeout is above 0
abbrev pub sets_basic : Plain → ℕ → Plain
sets_basic p t = pick (ltb 0 (basic_timeout p)) (with_deadline p (At (t + basic_timeout p))) p

-- at NotActive a deadline that passes gives the event Timeout and puts the check off, where the
-- basic timeout is above 0
abbrev pub times_out : Plain → Plain
times_out p = pick (ltb 0 (basic_timeout p)) (event_in_tick p Timeout) p

-- a deadline that passed at NotActive: the tick ends, with the event Timeout or without
abbrev pub timed_out : Plain → Ticked
timed_out p =
    record {
      head = times_out p;
      logged = [];
      event = pick (ltb 0 (basic_timeout p)) (made Timeout) no_event;
      marks = [];
      checked = [];
      crossings = [];
      ended = false;
    }

-- the time of the last SoC in µs. One above 2^62 − 1, which no call leaves, is read as 2^62 − 1.
abbrev pub last_soc : Plain → ℕ
last_soc p = min p.soc.last_soc_reception_time_us latest

-- the µs from the last SoC to the time t; 0 where t is before it
abbrev pub elapsed : Plain → ℕ → ℕ
elapsed p t = t - last_soc p

-- the end of the cycle that runs now, with the tolerance in µs
abbrev pub next_deadline : Plain → ℕ → ℕ
next_deadline p t =
    last_soc p + (elapsed p t / cycle_of p.od + 1) * cycle_of p.od + tolerance_of p.od / 1000

-- the deadline is set anew, or with cycle 0 the check goes off
abbrev pub rescheduled : Plain → ℕ → Plain
rescheduled p t =
    pick (ltb 0 (cycle_of p.od)) (with_deadline p (At (next_deadline p t))) (with_soc p (check_off p.soc))

-- not lost: with a cycle above 0 the deadline is last SoC + limit, where that is after now;
-- otherwise it is set anew
abbrev pub within_limit : Plain → ℕ → Plain
within_limit p t =
    pick (both (ltb 0 (cycle_of p.od)) (ltb t (last_soc p + limit_of p.od))) (with_deadline p (At (last_soc p + limit_of p.od)))
    (rescheduled p t)

-- the SoC is lost where strictly more than the limit has elapsed
abbrev pub is_loss : Plain → ℕ → Bool
is_loss p t = ltb (limit_of p.od) (elapsed p t)

-- a tick behind the errors of a lost SoC: where none ended it, the deadline is set anew
abbrev pub after_loss : ℕ → Ticked → Ticked
after_loss t k = pick k.ended k (behind k (goes_on (rescheduled k.head t)))

-- a lost SoC (RULES 7.8): the DLL event SocTimeout, and where none of its errors ends the tick the
-- deadline is set anew
abbrev pub lost : Plain → ℕ → Ticked
lost p t = after_loss t (on_dll_event t p SocTimeout)

-- the SoC check, where it is on; otherwise the tick ends
unfoldable pub soc_check : Plain → ℕ → Ticked
soc_check p t =
    pick p.soc.soc_timeout_check_active
    (pick (is_loss p t) (lost p t) (goes_on (within_limit p t))) (goes_on p)

-- a deadline that has passed and is used up: at NotActive the basic timeout, elsewhere the SoC
-- check
abbrev pub used_up : Plain → ℕ → Ticked
used_up p t = pick (at_not_active p) (timed_out p) (soc_check p t)

-- what follows from the deadline, or from none (RULES 7.5)
abbrev pub by_deadline : Plain → ℕ → Deadline → Ticked
by_deadline p t Nothing = goes_on (pick (at_not_active p) (sets_basic p t) p)
by_deadline p t (At d) = pick (leb d t) (used_up (with_deadline p Nothing) t) (goes_on p)
