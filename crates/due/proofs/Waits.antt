-- WHO TICKS AT EACH MOMENT THAT `next_due` GIVES, AND NOT IN BETWEEN, MISSES NOTHING: of any tick that is taken, on any words, from the tick's contract alone.
-- Assumes nothing.
use Prim.Native.Nat.{ℕ, ◌+◌, ◌-◌, ◌/◌, ◌≤◌, ◌<◌}
use mathlib.Core.Path.{◌≡◌, refl, sym, ap, ap₂, subst, ◌∙◌}
use mathlib.Core.Bool.{Bool, true, false, true≢false, not}
use mathlib.Core.List.{List, [], ◌∷◌, map}
use native.Mathlib.Omega.{arith}
use lib.Dec.{eqb, leb, ltb}
use lib.ListN.{length}
use borrow.Author.Tests.{eqb-true, eqb-false, leb-false, le-leb, lt-leb, lt-ltb, ltb-true}
use Rattle.std.specs.declared.option.Option.{Option}
use Rattle.std.specs.declared.option.Option.TheVariants.{Some, None}
use Rattle.std.specs.declared.result.Result.{Result}
use Rattle.std.specs.declared.result.Result.TheVariants.{Ok, Err}
use Rattle.types.specs.Pick.{pick, both, either, all_of}
use Rattle.types.specs.Errors.{reported}
use Rattle.types.specs.declared.frame.error.types.DllError.{DllError}
use Rattle.types.specs.declared.frame.error.types.DllErrors.{DllErrors}
use Rattle.types.specs.declared.refusals.Refusal.{Refusal}
use Rattle.types.specs.declared.refusals.Refusal.TheVariants.{WatchedNodes}
use Rattle.types.proofs.Tests.{both_first, both_second}
use Rattle.head.specs.Head.{moment_in}
use Rattle.head.specs.Words.{nmt_of, soc_of, head_of}
use Rattle.head.specs.declared.state.Deadline.{Deadline}
use Rattle.types.specs.declared.frame.cs_state_machine.DllCsEvent.TheVariants.{SocTimeout}
use Rattle.head.specs.declared.state.Deadline.TheVariants.{At, Nothing}
use Rattle.head.specs.Written.{earliest_written}
use Rattle.watched.specs.declared.nodes.WatchedNode.{WatchedNode}
use Rattle.watched.specs.Watched.{in_time, heard_now, Run, run, watching, well_lent, changing}
use Rattle.watched.specs.Nodes.{nodes_of, rests, not_before}
use Rattle.watched.proofs.Lists.{each_nodes, few}
use Rattle.watched.proofs.Watching.{lent_inside}
use Rattle.node.specs.Plain.{Plain, Call, tick_answer, Step}
use Rattle.node.specs.Steps.{declines, up_to_date, dll_outcome, with_dll, cycle_of, tolerance_of, limit_of, late_from, smaller, earliest}
use lib.ListN.{set}
use Rattle.head.specs.Places as at
use Rattle.node.specs.Phases.{Ticked, goes_on, behind}
use Rattle.node.specs.Heartbeats.{checks_heartbeats, is_late, refreshed, late_ones, on_late_all, heartbeats, refreshed_at}
use Rattle.node.specs.DllErrors.{on_dll_errors}
use Rattle.node.specs.Deadline.{used_up, with_deadline, rescheduled, within_limit, last_soc, lost, is_loss, soc_check, at_not_active, basic_timeout, by_deadline}
use Rattle.node.specs.Tick.{tick_taken, tick_answered}
use Rattle.node.specs.Run.{step}
use Rattle.node.specs.Refines.{plain, Rings, rings, joins_all}
use Rattle.node.specs.Due.{deadline_due, was_heard, nodes_due, due, IsBefore}
use Rattle.node.proofs.Watch.{tested, next_later, on_dll_errors_deadline}
use Rattle.node.proofs.Fixed.{apart, errors_of_lem}
use Rattle.heartbeats.specs.Words.{on_late_all_words, refreshed_words}
use Rattle.heartbeats.proofs.LateWalk.{rest_late, rest_run, rest_words_lem}
use Rattle.tick.specs.TickIn.{is_still, TickedOn, TickedIn}
use Rattle.tick.specs.TickWords.{unlent, passed_words, rest_words, tick_words, deadline_words, basic_words}
use Rattle.due.specs.Moment.{next_due}
use Rattle.due.proofs.Steps.{due_same}
use Rattle.due.specs.Waits.{Idle, SameDeadlineAndRun, Waits, WaitsIn}

-- before the sooner of two moments is before both
before_both : (t : ℕ) (a b : Option ℕ) → IsBefore t (smaller a b) → IsBefore t a × IsBefore t b
before_both t None b h = (tt, h)
before_both t (Some a) None h = (h, tt)
before_both t (Some a) (Some b) h = (omega (arith, h), omega (arith, h))

before_sooner : (t : ℕ) (a b : Option ℕ) → IsBefore t a → IsBefore t b → IsBefore t (smaller a b)
before_sooner t None b g h = h
before_sooner t (Some a) None g h = g
before_sooner t (Some a) (Some b) g h = omega (arith, g, h)

-- a node that was heard and is not late yet rests
module _ (t : ℕ) where
  node_rests : (w : WatchedNode) → was_heard w ≡ true → not_before t w ≡ true → IsBefore t (late_from w) → rests t w ≡ true
  node_rests w h n b = by (eqb w.last_heard 0) (eqb w.timeout 0) refl refl h
    where
      up : (n : ℕ) → eqb n 0 ≡ false → ltb 0 n ≡ true
      up n e = let g = eqb-false n 0 e in lt-ltb 0 n (omega arith)

      by : (x y : Bool) → eqb w.last_heard 0 ≡ x → eqb w.timeout 0 ≡ y → was_heard w ≡ true → rests t w ≡ true
      by true y e f h = absurd (true≢false (sym h ∙ ap not e))
      by false true e f h = ap₂ both (up w.last_heard e) (ap (λ (b : Bool). pick b true (both (leb w.last_heard t) (leb (t - w.last_heard) w.timeout))) f)
      by false false e f h =
          let after : leb w.last_heard t ≡ true =
          sym (ap₂ (λ (a b : Bool). pick (both a b) (leb w.last_heard t) true) (up w.timeout f) (up w.last_heard e)) ∙ n in
          let early : t < w.last_heard + w.timeout + 1 =
          subst (IsBefore t) (ap₂ (λ (a b : Bool). pick (both a b) (Some (w.last_heard + w.timeout + 1)) None) (up w.timeout f) (up w.last_heard e)) b in
          let waits : leb (t - w.last_heard) w.timeout ≡ true = le-leb (t - w.last_heard) w.timeout (omega arith) in
          ap₂ both (up w.last_heard e)
          (ap (λ (b : Bool). pick b true (both (leb w.last_heard t) (leb (t - w.last_heard) w.timeout))) f ∙ ap₂ both after waits)

  all_rest : (ws : List WatchedNode) → all_of was_heard ws ≡ true → all_of (not_before t) ws ≡ true → IsBefore t (earliest ws) → all_of (rests t) ws ≡ true
  unfolding earliest
  all_rest [] h n b = refl
  all_rest (w ∷ ws) h n b =
      let x = before_both t (late_from w) (earliest ws) b in
      ap₂ both (node_rests w (both_first (was_heard w) _ h) (both_first (not_before t w) _ n) x.0)
      (all_rest ws (both_second (was_heard w) _ h) (both_second (not_before t w) _ n) x.1)

-- where no node asks for anything, and the deadline is not reached
module _ (p : Plain) (t : ℕ) (ws : List WatchedNode) where
  abbrev C : Bool
  C = checks_heartbeats p.nmt.current_state

  late_errors_idle : is_still C t ws ≡ true → heartbeats p t ws ≡ goes_on p
  unfolding on_late_all
  late_errors_idle h = by C h
    where
      by : (c : Bool) → is_still c t ws ≡ true → pick c (on_late_all p (late_ones t ws)) (goes_on p) ≡ goes_on p
      by true h = ap (on_late_all p) (rest_late t ws h)
      by false h = refl

  still_tick : is_still C t ws ≡ true → tick_taken p t ws ≡ by_deadline p t p.soc.next_tick_us
  unfolding tick_taken
  still_tick h = ap (λ (b : Ticked). pick b.ended b (behind b (by_deadline b.head t b.head.soc.next_tick_us))) (late_errors_idle h)

  refreshed_idle : (r : Run) → ws ≡ watching r → r.number ≤ length r.places → is_still C t ws ≡ true → refreshed_at p t r ≡ r
  refreshed_idle r e few h = by C h
    where
      by : (c : Bool) → is_still c t ws ≡ true → pick c (changing (map (refreshed t)) r) r ≡ r
      by true h = rest_run t r few (sym (ap (all_of (rests t)) e) ∙ h)
      by false h = refl

no_deadline : {A : Type 0} (t : ℕ) (a b : Bool) (x y : A) → IsBefore t (pick (both a b) (Some 0) None) → pick a (pick b x y) y ≡ y
no_deadline t true true x y h = absurd (omega (arith, h))
no_deadline t true false x y h = refl
no_deadline t false b x y h = refl

deadline_idle : (p : Plain) (t : ℕ) (d : Deadline) → IsBefore t (deadline_due p d) → by_deadline p t d ≡ goes_on p
deadline_idle p t (At d) h = ap (λ (b : Bool). pick b (used_up (with_deadline p Nothing) t) (goes_on p)) (lt-leb d t h)
deadline_idle p t Nothing h = ap goes_on (no_deadline t (at_not_active p) (ltb 0 (basic_timeout p)) _ p h)

-- the words then
deadline_words_idle : (ws q m : List ℕ) (t : ℕ) (d : Deadline) → IsBefore t (deadline_due (unlent ws) d) → deadline_words ws q m t d ≡ ws
unfolding deadline_words basic_words head_of
deadline_words_idle ws q m t (At d) h = ap (λ (b : Bool). pick b (passed_words (set ws at.due 0) q m t) ws) (lt-leb d t h)
deadline_words_idle ws q m t Nothing h = no_deadline t (at_not_active (unlent ws)) (ltb 0 (basic_timeout (unlent ws))) _ ws h

still_words :
    (ws q m : List ℕ) (t : ℕ) (vs : List WatchedNode) → is_still (checks_heartbeats (nmt_of ws).current_state) t vs ≡ true →
    tick_words ws q m t vs ≡ rest_words ws q m t
unfolding tick_words on_late_all on_late_all_words
still_words ws q m t vs h = by (checks_heartbeats (nmt_of ws).current_state) h
  where
    by :
        (c : Bool) → is_still c t vs ≡ true →
        pick c (pick (on_late_all (plain (head_of ws) q m) (late_ones t vs)).ended (on_late_all_words ws (late_ones t vs)) (rest_words (on_late_all_words ws (late_ones t vs)) q m t))
        (rest_words ws q m t) ≡ rest_words ws q m t
    by true h =
        ap (λ (l : List WatchedNode). pick (on_late_all (plain (head_of ws) q m) l).ended (on_late_all_words ws l) (rest_words (on_late_all_words ws l) q m t)) (rest_late t vs h)
    by false h = refl

-- a node that a tick above 0 leaves as it is was heard, and is not late yet
module _ (t : ℕ) (up : 0 < t) where
  node_left : (w : WatchedNode) → refreshed t w ≡ w → (was_heard w ≡ true) × IsBefore t (late_from w)
  node_left w e = by (eqb w.last_heard 0) (is_late t w) refl refl e
    where
      heard : heard_now t w ≡ w → t ≡ w.last_heard
      heard e = ap (λ (w : WatchedNode). w.last_heard) e

      waits : (x : Bool) → ltb 0 w.timeout ≡ x → eqb w.last_heard 0 ≡ false → is_late t w ≡ false → IsBefore t (pick (both x (ltb 0 w.last_heard)) (Some (w.last_heard + w.timeout + 1)) None)
      waits true f g l =
          let a : ltb 0 w.last_heard ≡ true = let n = eqb-false w.last_heard 0 g in lt-ltb 0 w.last_heard (omega arith) in
          let n : w.timeout < t - w.last_heard → ⊥ = λ h. true≢false (sym (ap₂ both a (ap₂ both f (lt-ltb w.timeout (t - w.last_heard) h))) ∙ l) in
          let b : t < w.last_heard + w.timeout + 1 = omega (arith, n) in
          subst (λ (x : Bool). IsBefore t (pick x (Some (w.last_heard + w.timeout + 1)) None)) (sym a) b
      waits false f g l = tt

      by : (x y : Bool) → eqb w.last_heard 0 ≡ x → is_late t w ≡ y → pick (either x y) (heard_now t w) w ≡ w → (was_heard w ≡ true) × IsBefore t (late_from w)
      by true y f g e = absurd (omega (arith, up, heard e, eqb-true w.last_heard 0 f))
      by false true f g e =
          let l = ltb-true w.timeout (t - w.last_heard) (both_second (ltb 0 w.timeout) _ (both_second (ltb 0 w.last_heard) _ g)) in
          absurd (omega (arith, l, heard e))
      by false false f g e = (ap not f, waits (ltb 0 w.timeout) refl f g)

  nodes_left : (ws : List WatchedNode) → map (refreshed t) ws ≡ ws → (all_of was_heard ws ≡ true) × IsBefore t (earliest ws)
  unfolding earliest
  nodes_left [] e = (refl, tt)
  nodes_left (w ∷ ws) e =
      let h : refreshed t w ≡ w = cc in
      let g : map (refreshed t) ws ≡ ws = cc in
      let x = node_left w h in
      let y = nodes_left ws g in
      (ap₂ both x.0 y.0, before_sooner t (late_from w) (earliest ws) x.1 y.1)

-- a deadline that is reached is used up, and a new one is later
abbrev Later : ℕ → Plain → Type 0
Later t p = IsBefore t (moment_in p.soc.next_tick_us)

module _ (t : ℕ) where
  none_later : (p : Plain) → p.soc.next_tick_us ≡ Nothing → Later t p
  none_later p n = subst (λ (d : Deadline). IsBefore t (moment_in d)) (sym n) tt

  rescheduled_later : (p : Plain) → p.soc.next_tick_us ≡ Nothing → Later t (rescheduled p t)
  rescheduled_later p n =
      tested (Later t) (ltb 0 (cycle_of p.od))
      (λ c. next_later (last_soc p) t (cycle_of p.od) (tolerance_of p.od / 1000) (ltb-true 0 (cycle_of p.od) c))
      (λ c. none_later p n)

  within_later : (p : Plain) → p.soc.next_tick_us ≡ Nothing → Later t (within_limit p t)
  within_later p n =
      tested (Later t) (both (ltb 0 (cycle_of p.od)) (ltb t (last_soc p + limit_of p.od)))
      (λ c. ltb-true t (last_soc p + limit_of p.od) (both_second (ltb 0 (cycle_of p.od)) _ c))
      (λ c. rescheduled_later p n)

  lost_later : (p : Plain) → p.soc.next_tick_us ≡ Nothing → Later t (lost p t).head
  lost_later p n =
      let g : Plain = with_dll p (dll_outcome p SocTimeout true).state in
      let k : Ticked = on_dll_errors t g (dll_outcome p SocTimeout true).errors in
      let none : k.head.soc.next_tick_us ≡ Nothing = on_dll_errors_deadline t g (dll_outcome p SocTimeout true).errors ∙ n in
      tested (λ (k : Ticked). Later t k.head) k.ended (λ c. none_later k.head none) (λ c. rescheduled_later k.head none)

  check_later : (p : Plain) → p.soc.next_tick_us ≡ Nothing → Later t (soc_check p t).head
  unfolding soc_check
  check_later p n =
      tested (λ (k : Ticked). Later t k.head) p.soc.soc_timeout_check_active
      (λ c. tested (λ (k : Ticked). Later t k.head) (is_loss p t) (λ l. lost_later p n) (λ l. within_later p n))
      (λ c. none_later p n)

  used_up_later : (p : Plain) → p.soc.next_tick_us ≡ Nothing → Later t (used_up p t).head
  used_up_later p n =
      tested (λ (k : Ticked). Later t k.head) (at_not_active p)
      (λ a. tested (Later t) (ltb 0 (basic_timeout p)) (λ b. none_later p n) (λ b. none_later p n))
      (λ a. check_later p n)

  -- so a deadline that is left was not reached
  deadline_left : (p : Plain) (d : Deadline) → (by_deadline p t d).head.soc.next_tick_us ≡ d → p.soc.next_tick_us ≡ d → IsBefore t (deadline_due p d)
  deadline_left p Nothing e n = by (at_not_active p) (ltb 0 (basic_timeout p)) e
    where
      by :
          (a b : Bool) → (pick a (pick b (with_deadline p (At (t + basic_timeout p))) p) p).soc.next_tick_us ≡ Nothing →
          IsBefore t (pick (both a b) (Some 0) None)
      by true true e = absurd (at_nothing e)
        where
          at_nothing : At (t + basic_timeout p) ≡ Nothing → ⊥
          at_nothing e = cc
      by true false e = tt
      by false b e = tt
  deadline_left p (At d) e n = by (leb d t) refl e
    where
      by : (a : Bool) → leb d t ≡ a → (pick a (used_up (with_deadline p Nothing) t) (goes_on p)).head.soc.next_tick_us ≡ At d → t < d
      by true h e = subst (λ (d : Deadline). IsBefore t (moment_in d)) e (used_up_later (with_deadline p Nothing) refl)
      by false h e = leb-false d t h

-- a tick that is taken: what it tested, and that it is what follows the tests
record Taken (p : Plain) (t : ℕ) (r : Run) : Type 0 where
  well : well_lent r ≡ true
  after : pick (checks_heartbeats p.nmt.current_state) (all_of (not_before t) (watching r)) true ≡ true
  steps : step p (Call.tick t r) ≡ tick_answered (tick_taken p t (watching r)) (refreshed_at p t r)

taken : (p : Plain) (t : ℕ) (r : Run) (es : List DllError) → tick_answer es ≡ (step p (Call.tick t r)).answer → Taken p t r
taken p t r es e = let x = by (well_lent r) (in_time t) (pick (checks_heartbeats p.nmt.current_state) (all_of (not_before t) (watching r)) true) e in
    record { well = x.0; after = x.1; steps = x.2 }
  where
    k : Step
    k = tick_answered (tick_taken p t (watching r)) (refreshed_at p t r)

    no : Step
    no = declines p r 3

    by :
        (a b c : Bool) → tick_answer es ≡ (pick a (pick b (pick c k (declines p r 6)) (declines p r 5)) (declines p r 3)).answer →
        (a ≡ true) × (c ≡ true) × (pick a (pick b (pick c k (declines p r 6)) (declines p r 5)) (declines p r 3) ≡ k)
    by true true true e = (refl, refl, refl)
    by true true false e = apart (sym e) refl refl
    by true false c e = apart (sym e) refl refl
    by false b c e = apart (sym e) refl refl

ok_same : {A : Type 0} {x y : A} → ◌≡◌ {A = Result A Refusal} (Ok x) (Ok y) → x ≡ y
ok_same e = cc

-- a moment that was told of a run which passes number 3 is that moment
told : (ws : List ℕ) (r : Run) (d : Option ℕ) → next_due ws r ≡ Ok d → well_lent r ≡ true → d ≡ due (unlent ws) (watching r)
told ws r d e h = sym (ok_same (sym (ap (λ (b : Bool). pick b (Ok (due (unlent ws) (watching r))) (Err WatchedNodes)) h) ∙ e))

-- of nodes that a tick may look at: before their moment none asks for anything
module _ (t : ℕ) (vs : List WatchedNode) where
  nodes_still : (c : Bool) → pick c (all_of (not_before t) vs) true ≡ true → IsBefore t (pick c (nodes_due vs) None) → is_still c t vs ≡ true
  nodes_still false n b = refl
  nodes_still true n b = by (all_of was_heard vs) refl b
    where
      by : (x : Bool) → all_of was_heard vs ≡ x → IsBefore t (pick x (earliest vs) (Some 0)) → all_of (rests t) vs ≡ true
      by true e b = all_rest t vs e n b
      by false e b = absurd (omega (arith, b))

-- A TICK THAT IS TAKEN, on the words ws with the memory q and m and the run r
module _ (ws q m : List ℕ) (r : Run) (t : ℕ) (es : DllErrors) (ws' q' m' : List ℕ) (r' : Run) (f : TickedOn ws q m r t (Ok es) ws' q' m' r') (d : Option ℕ) (e : next_due ws r ≡ Ok d) where
  abbrev p : Plain
  p = plain (head_of ws) q m

  abbrev vs : List WatchedNode
  vs = watching r

  k : Taken p t r
  k = taken p t r (reported es) f.refines.answer

  -- before its moment
  module _ (b : IsBefore t d) where
    parts : IsBefore t (deadline_due (unlent ws) (soc_of ws).next_tick_us) × IsBefore t (pick (checks_heartbeats (nmt_of ws).current_state) (nodes_due vs) None)
    unfolding due head_of
    parts =
        before_both t (deadline_due (unlent ws) (soc_of ws).next_tick_us) (pick (checks_heartbeats (nmt_of ws).current_state) (nodes_due vs) None)
        (subst (IsBefore t) (told ws r d e k.well) b)

    still : is_still (checks_heartbeats (nmt_of ws).current_state) t vs ≡ true
    unfolding head_of
    still = nodes_still t vs (checks_heartbeats (nmt_of ws).current_state) k.after parts.1

    before_deadline : IsBefore t (deadline_due p p.soc.next_tick_us)
    unfolding head_of
    before_deadline = by (soc_of ws).next_tick_us parts.0
      where
        by : (d : Deadline) → IsBefore t (deadline_due (unlent ws) d) → IsBefore t (deadline_due p d)
        by (At d) h = h
        by Nothing h = h

    nothing_taken : tick_taken p t vs ≡ goes_on p
    unfolding head_of
    nothing_taken = still_tick p t vs still ∙ deadline_idle p t p.soc.next_tick_us before_deadline

    stays : r' ≡ r
    unfolding head_of
    stays = f.refines.lent ∙ ap (λ (x : Step). x.lent) k.steps ∙ refreshed_idle p t vs r refl (lent_inside r k.well) still

    no_crossing : (step p (Call.tick t r)).crossings ≡ []
    no_crossing = ap (λ (x : Step). x.crossings) k.steps ∙ ap (λ (x : Ticked). x.crossings) nothing_taken

    same_rings : rings (head_of ws') q' m' ≡ rings (head_of ws) q m
    same_rings = f.rings ∙ ap (joins_all (rings (head_of ws) q m)) no_crossing

    idle : Idle ws q m r es ws' q' m' r'
    idle =
        record {
          logged =
              errors_of_lem (f.refines.answer ∙ ap (λ (x : Step). x.answer) k.steps)
              ∙ ap (λ (x : Ticked). x.logged) nothing_taken;
          words =
              f.words
              ∙ (λ i. earliest_written ((still_words ws q m t vs still ∙ deadline_words_idle ws q m t (soc_of ws).next_tick_us parts.0) i) (earliest (watching (stays i))));
          queue = ap (λ (g : Rings). g.queue_bytes) same_rings;
          history = ap (λ (g : Rings). g.history_bytes) same_rings;
          run = stays;
        }

    -- so the moment of the next tick is the same
    idle_waits : next_due ws' r' ≡ Ok d
    unfolding due head_of
    idle_waits =
        let same : plain (head_of ws') q' m' ≡ up_to_date p (refreshed_at p t r) =
        f.refines.head ∙ ap (λ (x : Step). x.head) k.steps ∙ ap (λ (x : Ticked). up_to_date x.head (refreshed_at p t r)) nothing_taken in
        ap (next_due ws') stays
        ∙ ap (λ (b : Bool). pick b (Ok (due (unlent ws') vs)) (Err WatchedNodes)) k.well
        ∙ ap Ok (due_same ws' q' m' vs ∙ ap (λ (p : Plain). due p vs) same ∙ sym (due_same ws q m vs) ∙ sym (told ws r d e k.well))

  -- at a time above 0, one that leaves the deadline and the run is before its moment
  module _ (up : 0 < t) (u : SameDeadlineAndRun ws r ws' r') where
    run_same : refreshed_at p t r ≡ r
    run_same = sym (f.refines.lent ∙ ap (λ (x : Step). x.lent) k.steps) ∙ u.run

    -- where heartbeats are checked, each node is as it was
    nodes_before : (c : Bool) → pick c (changing (map (refreshed t)) r) r ≡ r → IsBefore t (pick c (nodes_due vs) None)
    nodes_before false g = tt
    nodes_before true g =
        let long : length r.places ≡ 32 = eqb-true (length r.places) 32 (both_first (eqb (length r.places) 32) _ k.well) in
        let same : map (refreshed t) vs ≡ vs =
        sym (each_nodes r.places r.number long (few r.places r.number true (sym (both_second (eqb (length r.places) 32) _ k.well)) refl) (refreshed t)) ∙ ap watching g in
        let x = nodes_left t up vs same in
        subst (λ (b : Bool). IsBefore t (pick b (earliest vs) (Some 0))) (sym x.0) x.1

    nodes_wait : IsBefore t (pick (checks_heartbeats p.nmt.current_state) (nodes_due vs) None)
    nodes_wait = nodes_before (checks_heartbeats p.nmt.current_state) run_same

    still_left : is_still (checks_heartbeats p.nmt.current_state) t vs ≡ true
    still_left = nodes_still t vs (checks_heartbeats p.nmt.current_state) k.after nodes_wait

    deadline_same : (by_deadline p t p.soc.next_tick_us).head.soc.next_tick_us ≡ p.soc.next_tick_us
    unfolding head_of
    deadline_same =
        sym (ap (λ (x : Plain). x.soc.next_tick_us) (f.refines.head ∙ ap (λ (x : Step). x.head) k.steps)
        ∙ ap (λ (x : Ticked). x.head.soc.next_tick_us) (still_tick p t vs still_left))
        ∙ u.deadline

    left_before : IsBefore t d
    unfolding due
    left_before =
        subst (IsBefore t) (sym (told ws r d e k.well ∙ due_same ws q m vs))
        (before_sooner t (deadline_due p p.soc.next_tick_us) (pick (checks_heartbeats p.nmt.current_state) (nodes_due vs) None)
        (deadline_left t p p.soc.next_tick_us deadline_same refl) nodes_wait)

  pub waits : Waits d ws q m r t es ws' q' m' r'
  waits = record { before = idle; stays = idle_waits; from = left_before }

-- the same with the nodes in words, which a tick before its moment leaves too
module _ (ws q m ns : List ℕ) (k t : ℕ) (es : DllErrors) (ws' q' m' ns' : List ℕ) (f : TickedIn ws q m ns k t (Ok es) ws' q' m' ns') (d : Option ℕ) (e : next_due ws (run (nodes_of ns) k) ≡ Ok d) where
  abbrev lent_run : Run
  lent_run = run (nodes_of ns) k

  below : k ≤ 32
  below =
      few (nodes_of ns) k true
      (sym (both_second (eqb (length (nodes_of ns)) 32) _ (taken (plain (head_of ws) q m) t lent_run (reported es) f.on.refines.answer).well)) refl

  words_stay : (c : Bool) → is_still c t (watching lent_run) ≡ true → pick c (refreshed_words t k ns) ns ≡ ns
  words_stay true h = rest_words_lem t ns k below h
  words_stay false h = refl

  pub waits_in : WaitsIn d ws q m ns k t es ws' q' m' ns'
  waits_in =
      record {
        on = waits ws q m lent_run t es ws' q' m' (run (nodes_of ns') k) f.on d e;
        nodes =
            λ b.
            f.nodes
            ∙ words_stay (checks_heartbeats (nmt_of ws).current_state)
            (still ws q m lent_run t es ws' q' m' (run (nodes_of ns') k) f.on d e b);
      }
