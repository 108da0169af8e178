-- The deadlines of the tick, over plain variables.
-- Assumes nothing.
use Prim.Native.Nat.{ℕ, ◌+◌, ◌-◌, ◌*◌, ◌/◌, ◌<◌, ◌≤◌, min}
use mathlib.Core.Path.{◌≡◌, refl, sym, ap, ap₂, ◌∙◌}
use mathlib.Core.Bool.{Bool, true, false}
use mathlib.Core.List.{List, [], append-nil}
use lib.Dec.{ltb}
use borrow.Author.Tests.{lt-ltb, le-ltb, le-leb, lt-leb}
use Rattle.types.specs.Pick.{pick, both}
use Rattle.types.specs.declared.frame.error.types.DllErrors.TheVariants as errors
use Rattle.types.specs.declared.nmt.events.NmtEvent.TheVariants.{Timeout}
use Rattle.types.specs.declared.frame.cs_state_machine.DllCsEvent.TheVariants.{SocTimeout}
use Rattle.head.specs.declared.state.Deadline.TheVariants.{At, Nothing}
use Rattle.head.specs.Head.{Head}
use Rattle.watched.specs.Watched.{latest}
use Rattle.node.specs.Plain.{Plain}
use Rattle.node.specs.Steps.{with_soc, cycle_of, tolerance_of, limit_of}
use Rattle.node.specs.Phases.{Ticked, goes_on, behind, check_off, event_in_tick}
use Rattle.node.specs.DllErrors.{on_dll_event}
use Rattle.node.specs.Deadline.{with_deadline, next_deadline, rescheduled, within_limit, is_loss, lost, soc_check, at_not_active, sets_basic, times_out, timed_out, used_up, by_deadline}
use Rattle.node.specs.Refines.{plain, Becomes, rings, joins_all}
use Rattle.phases.specs.Parts.{PartLeft, Ticks}

module _ (h : Head) (t : ℕ) where
  pub next_is :
      (l y e o : ℕ) →
      l ≡ min h.soc.last_soc_reception_time_us latest →
      y ≡ cycle_of h.od →
      e ≡ t - l →
      o ≡ tolerance_of h.od / 1000 →
      l + (e / y + 1) * y + o ≡ next_deadline (plain h [] []) t
  next_is l y e o a b c d = rw (d, c, b, a)

  module _ (y : ℕ) (b : y ≡ cycle_of h.od) (g : Head) where
    pub resched_on : 0 < y → (n : ℕ) → n ≡ next_deadline (plain h [] []) t → Becomes h (λ p. with_deadline p (At n)) g → Becomes h (λ p. rescheduled p t) g
    resched_on z n e k = (
      λ q m.
          let p : Plain = plain h q m in
          k.0 q m
          ∙ ap (λ (n : ℕ). with_deadline p (At n)) e
          ∙ sym (ap (λ (c : Bool). pick c (with_deadline p (At (next_deadline p t))) (with_soc p (check_off p.soc))) (ap (ltb 0) (sym b) ∙ lt-ltb 0 y z)),
      k.1,
    )

    pub resched_off : y ≤ 0 → Becomes h (λ p. with_soc p (check_off p.soc)) g → Becomes h (λ p. rescheduled p t) g
    resched_off z k = (
      λ q m.
          let p : Plain = plain h q m in
          k.0 q m
          ∙ sym (ap (λ (c : Bool). pick c (with_deadline p (At (next_deadline p t))) (with_soc p (check_off p.soc))) (ap (ltb 0) (sym b) ∙ le-ltb 0 y z)),
      k.1,
    )

    -- within the limit
    abbrev chosen : Plain → Bool → Plain
    chosen p c = pick c (with_deadline p (At (min p.soc.last_soc_reception_time_us latest + limit_of p.od))) (rescheduled p t)

    pub within_none : y ≤ 0 → Becomes h (λ p. rescheduled p t) g → Becomes h (λ p. within_limit p t) g
    within_none z k = (
      λ q m.
          let p : Plain = plain h q m in
          k.0 q m
          ∙ sym (ap (λ (c : Bool). chosen p (both c (ltb t (min h.soc.last_soc_reception_time_us latest + limit_of h.od)))) (ap (ltb 0) (sym b) ∙ le-ltb 0 y z)),
      k.1,
    )

    module _ (z : 0 < y) (l n : ℕ) (a : l ≡ min h.soc.last_soc_reception_time_us latest) (d : n ≡ limit_of h.od) where
      tests : (c : Bool) → ltb t (l + n) ≡ c → both (ltb 0 (cycle_of h.od)) (ltb t (min h.soc.last_soc_reception_time_us latest + limit_of h.od)) ≡ c
      tests c e =
          ap₂ both (ap (ltb 0) (sym b) ∙ lt-ltb 0 y z) (ap (ltb t) (ap₂ ◌+◌ (sym a) (sym d)) ∙ e)

      pub within_ahead : t < l + n → Becomes h (λ p. with_deadline p (At (l + n))) g → Becomes h (λ p. within_limit p t) g
      within_ahead w k = (
        λ q m.
            let p : Plain = plain h q m in
            k.0 q m ∙ ap (λ (x : ℕ). with_deadline p (At x)) (ap₂ ◌+◌ a d) ∙ sym (ap (chosen p) (tests true (lt-ltb t (l + n) w))),
        k.1,
      )

      pub within_late : l + n ≤ t → Becomes h (λ p. rescheduled p t) g → Becomes h (λ p. within_limit p t) g
      within_late w k =
          (λ q m. k.0 q m ∙ sym (ap (chosen (plain h q m)) (tests false (le-ltb t (l + n) w))), k.1)

-- a part of the tick that makes another head of it, and goes on with nothing logged
pub becomes_then : {h u g : Head} (f f' : Plain → Plain) → Becomes h f u → Becomes u f' g → Becomes h (λ p. f' (f p)) g
becomes_then f f' a b = (
  λ q m. b.0 q m ∙ ap f' (a.0 q m),
  record { queue = b.1.queue ∙ a.1.queue; history = b.1.history ∙ a.1.history },
)

becomes_rings : {h g : Head} (f : Plain → Plain) (q m : List ℕ) → Becomes h f g → rings g q m ≡ rings h q m
becomes_rings f q m b = λ i. record { queue = b.1.queue i; queue_bytes = q; history = b.1.history i; history_bytes = m }

pub ticks_as :
    {h : Head} {q m q' m' : List ℕ} {r : PartLeft} (k k' : Ticked) → k' ≡ k → Ticks h q m k r q' m' → Ticks h q m k' r q' m'
ticks_as {h} {q} {m} k k' e w =
    record {
      head = w.head ∙ sym (ap (λ (k : Ticked). k.head) e);
      logged = w.logged ∙ sym (ap (λ (k : Ticked). k.logged) e);
      ended = w.ended ∙ sym (ap (λ (k : Ticked). k.ended) e);
      joined = w.joined ∙ sym (ap (λ (k : Ticked). joins_all (rings h q m) k.crossings) e);
    }

pub ticks_from :
    {h u : Head} {q m q' m' : List ℕ} {r : PartLeft} (f : Plain → Plain) (k : Plain → Ticked) →
    Becomes h f u →
    Ticks u q m (k (plain u q m)) r q' m' →
    Ticks h q m (k (f (plain h q m))) r q' m'
ticks_from {h} {u} {q} {m} f k b w =
    let e : k (f (plain h q m)) ≡ k (plain u q m) = ap k (sym (b.0 q m)) in
    record {
      head = w.head ∙ sym (ap (λ (k : Ticked). k.head) e);
      logged = w.logged ∙ sym (ap (λ (k : Ticked). k.logged) e);
      ended = w.ended ∙ sym (ap (λ (k : Ticked). k.ended) e);
      joined =
          w.joined
          ∙ ap₂ joins_all (becomes_rings f q m b) (sym (ap (λ (k : Ticked). k.crossings) e));
    }

pub on_ticks :
    {h g : Head} {q m : List ℕ} {r : PartLeft} (f : Plain → Plain) →
    Becomes h f g →
    r ≡ record { head = g; logged = errors.None; ended = false } →
    Ticks h q m (goes_on (f (plain h q m))) r q m
on_ticks {h} {g} {q} {m} f b e =
    rw e
    (record { head = b.0 q m; logged = refl; ended = refl; joined = becomes_rings f q m b })

pub itself : (h : Head) → Becomes h (λ p. p) h
itself h = (λ q m. refl, record { queue = refl; history = refl })

-- a lost SoC: the event SocTimeout, and where none of its errors ends the tick the check goes on
module _ (h : Head) (q m : List ℕ) (t : ℕ) (d : PartLeft) (q' m' : List ℕ) (w : Ticks h q m (on_dll_event t (plain h q m) SocTimeout) d q' m') where
  abbrev timed : Ticked
  timed = on_dll_event t (plain h q m) SocTimeout

  abbrev either_way : Bool → Ticked
  either_way b = pick b timed (behind timed (goes_on (rescheduled timed.head t)))

  pub lose_ends : d.ended ≡ true → Ticks h q m (lost (plain h q m) t) d q' m'
  lose_ends y = ticks_as timed (lost (plain h q m) t) (ap either_way (sym w.ended ∙ y)) w

  pub lose_goes_on :
      d.ended ≡ false →
      (r : Head) →
      Becomes d.head (λ p. rescheduled p t) r →
      Ticks h q m (lost (plain h q m) t) (record { head = r; logged = d.logged; ended = false }) q' m'
  lose_goes_on y r b =
      ticks_as (behind timed (goes_on (rescheduled timed.head t))) (lost (plain h q m) t) (ap either_way (sym w.ended ∙ y))
      (record {
        head = b.0 q' m' ∙ ap (λ (p : Plain). rescheduled p t) w.head;
        logged = w.logged ∙ sym (append-nil timed.logged);
        ended = refl;
        joined =
            becomes_rings (λ p. rescheduled p t) q' m' b
            ∙ w.joined
            ∙ ap (joins_all (rings h q m)) (sym (append-nil timed.crossings));
      })

-- the SoC check
module _ (h : Head) (q m : List ℕ) (t : ℕ) where
  abbrev p : Plain
  p = plain h q m

  abbrev by_check : Bool → Bool → Ticked
  by_check on late = pick on (pick late (lost p t) (goes_on (within_limit p t))) (goes_on p)

  abbrev late : Bool
  late = is_loss p t

  pub check_none : h.soc.soc_timeout_check_active ≡ false → (r : PartLeft) → r ≡ record { head = h; logged = errors.None; ended = false } → Ticks h q m (soc_check p t) r q m
  unfolding soc_check
  check_none z r e = ticks_as (goes_on p) (soc_check p t) (ap (λ (b : Bool). by_check b late) z) (on_ticks (λ p. p) (itself h) e)

  module _ (z : h.soc.soc_timeout_check_active ≡ true) (b : Bool) (a : b ≡ late) (r : PartLeft) where
    pub check_lost : b ≡ true → (q' m' : List ℕ) → Ticks h q m (lost p t) r q' m' → Ticks h q m (soc_check p t) r q' m'
    unfolding soc_check
    check_lost y q' m' w = ticks_as (lost p t) (soc_check p t) (ap₂ by_check z (sym a ∙ y)) w

    pub check_within : b ≡ false → (g : Head) → Becomes h (λ p. within_limit p t) g → r ≡ record { head = g; logged = errors.None; ended = false } → Ticks h q m (soc_check p t) r q m
    unfolding soc_check
    check_within y g k e = ticks_as (goes_on (within_limit p t)) (soc_check p t) (ap₂ by_check z (sym a ∙ y)) (on_ticks (λ p. within_limit p t) k e)

-- NotActive
module _ (h g : Head) (t n : ℕ) (e : n ≡ h.nmt.basic_ethernet_timeout) where
  pub basic_on : 0 < n → Becomes h (λ p. with_deadline p (At (t + n))) g → Becomes h (λ p. sets_basic p t) g
  basic_on z k = (
    λ q m.
        let p : Plain = plain h q m in
        k.0 q m ∙ ap (λ (n : ℕ). with_deadline p (At (t + n))) e
        ∙ sym (ap (λ (b : Bool). pick b (with_deadline p (At (t + h.nmt.basic_ethernet_timeout))) p) (ap (ltb 0) (sym e) ∙ lt-ltb 0 n z)),
    k.1,
  )

  pub basic_none : n ≤ 0 → Becomes h (λ p. sets_basic p t) h
  basic_none z = (
    λ q m.
        let p : Plain = plain h q m in
        sym (ap (λ (b : Bool). pick b (with_deadline p (At (t + h.nmt.basic_ethernet_timeout))) p) (ap (ltb 0) (sym e) ∙ le-ltb 0 n z)),
    record { queue = refl; history = refl },
  )

  pub timed_out_lem : 0 < n → Becomes h (λ p. event_in_tick p Timeout) g → Becomes h times_out g
  timed_out_lem z k = (
    λ q m.
        let p : Plain = plain h q m in
        k.0 q m ∙ sym (ap (λ (b : Bool). pick b (event_in_tick p Timeout) p) (ap (ltb 0) (sym e) ∙ lt-ltb 0 n z)),
    k.1,
  )

  pub never_out : n ≤ 0 → Becomes h times_out h
  never_out z = (
    λ q m.
        let p : Plain = plain h q m in
        sym (ap (λ (b : Bool). pick b (event_in_tick p Timeout) p) (ap (ltb 0) (sym e) ∙ le-ltb 0 n z)),
    record { queue = refl; history = refl },
  )

-- what stands after the heartbeats
module _ (h : Head) (q m : List ℕ) (t : ℕ) (r : PartLeft) where
  abbrev p₀ : Plain
  p₀ = plain h q m

  module _ (z : h.soc.next_tick_us ≡ Nothing) where
    pub none_stands : (b : Bool) → b ≡ at_not_active (plain h [] []) → b ≡ false → r ≡ record { head = h; logged = errors.None; ended = false } → Ticks h q m (by_deadline p₀ t h.soc.next_tick_us) r q m
    none_stands b a y e =
        ticks_as (goes_on p₀) (by_deadline p₀ t h.soc.next_tick_us)
        (ap (by_deadline p₀ t) z ∙ ap (λ (b : Bool). goes_on (pick b (sets_basic p₀ t) p₀)) (sym a ∙ y)) (on_ticks (λ p. p) (itself h) e)

    pub basic_set : (b : Bool) → b ≡ at_not_active (plain h [] []) → b ≡ true → (g : Head) → Becomes h (λ p. sets_basic p t) g → r ≡ record { head = g; logged = errors.None; ended = false } → Ticks h q m (by_deadline p₀ t h.soc.next_tick_us) r q m
    basic_set b a y g k e =
        ticks_as (goes_on (sets_basic p₀ t)) (by_deadline p₀ t h.soc.next_tick_us)
        (ap (by_deadline p₀ t) z ∙ ap (λ (b : Bool). goes_on (pick b (sets_basic p₀ t) p₀)) (sym a ∙ y)) (on_ticks (λ p. sets_basic p t) k e)

  module _ (at : ℕ) (z : h.soc.next_tick_us ≡ At at) where
    pub not_passed : t < at → r ≡ record { head = h; logged = errors.None; ended = false } → Ticks h q m (by_deadline p₀ t h.soc.next_tick_us) r q m
    not_passed y e =
        ticks_as (goes_on p₀) (by_deadline p₀ t h.soc.next_tick_us)
        (ap (by_deadline p₀ t) z ∙ ap (λ (b : Bool). pick b (used_up (with_deadline p₀ Nothing) t) (goes_on p₀)) (lt-leb at t y)) (on_ticks (λ p. p) (itself h) e)

    module _ (y : at ≤ t) (u : Head) (k : Becomes h (λ p. with_deadline p Nothing) u) (b : Bool) (a : b ≡ at_not_active (plain u [] [])) where
      used_up_lem : (c : Bool) → b ≡ c → by_deadline p₀ t h.soc.next_tick_us ≡ pick c (timed_out (with_deadline p₀ Nothing)) (soc_check (with_deadline p₀ Nothing) t)
      used_up_lem c x =
          ap (by_deadline p₀ t) z
          ∙ ap (λ (b : Bool). pick b (used_up (with_deadline p₀ Nothing) t) (goes_on p₀)) (le-leb at t y)
          ∙ ap (λ (b : Bool). pick b (timed_out (with_deadline p₀ Nothing)) (soc_check (with_deadline p₀ Nothing) t))
          (sym (a ∙ ap at_not_active (k.0 [] [])) ∙ x)

      pub passed_idle : b ≡ true → (g : Head) → Becomes u times_out g → r ≡ record { head = g; logged = errors.None; ended = false } → Ticks h q m (by_deadline p₀ t h.soc.next_tick_us) r q m
      passed_idle x g n e =
          let w = on_ticks (λ p. times_out (with_deadline p Nothing)) (becomes_then (λ p. with_deadline p Nothing) times_out k n) e in
          ticks_as (timed_out (with_deadline p₀ Nothing)) (by_deadline p₀ t h.soc.next_tick_us) (used_up_lem true x)
          (record { head = w.head; logged = w.logged; ended = w.ended; joined = w.joined })

      pub passed_check : b ≡ false → (q' m' : List ℕ) → Ticks u q m (soc_check (plain u q m) t) r q' m' → Ticks h q m (by_deadline p₀ t h.soc.next_tick_us) r q' m'
      passed_check x q' m' w =
          ticks_as (soc_check (with_deadline p₀ Nothing) t) (by_deadline p₀ t h.soc.next_tick_us) (used_up_lem false x)
          (ticks_from (λ p. with_deadline p Nothing) (λ (p : Plain). soc_check p t) k w)
