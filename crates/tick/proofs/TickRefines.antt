-- The tick's refinement of the plain tick, over plain variables: its phases together, and its
-- refusals.
-- Assumes nothing.
use Prim.Native.Nat.{ℕ}
use mathlib.Core.Path.{◌≡◌, refl, sym, ap, ap₂, ◌∙◌}
use mathlib.Core.Bool.{Bool, true, false, true≢false}
use mathlib.Core.List.{List, [], ◌∷◌, ◌++◌, map}
use Rattle.types.specs.Pick.{pick, all_of}
use Rattle.types.specs.Errors.{reported}
use Rattle.types.specs.declared.frame.error.types.DllError.{DllError}
use Rattle.entries.specs.declared.status_response.ErrorEntry.{ErrorEntry}
use Rattle.head.specs.Head.{Head, head_with_earliest}
use Rattle.watched.specs.declared.nodes.WatchedNode.{WatchedNode}
use Rattle.watched.specs.Watched.{in_time, Run, watching, well_lent, changing}
use Rattle.node.specs.Plain.{Plain, tick, Answer, refused, tick_answer, Step}
use Rattle.node.specs.Steps.{earliest, up_to_date, declines}
use Rattle.watched.specs.Nodes.{not_before}
use Rattle.node.specs.Phases.{Ticked, goes_on, behind}
use Rattle.node.specs.Heartbeats.{checks_heartbeats, refreshed, late_ones, on_late, on_late_all, timeout_of, refreshed_at}
use Rattle.node.specs.Deadline.{by_deadline}
use Rattle.node.specs.Tick.{tick_taken, tick_answered}
use Rattle.node.specs.Run.{step}
use Rattle.node.specs.Refines.{plain, left, rings, joins_all, Refines}
use Rattle.phases.specs.Parts.{PartLeft, Ticks}
use Rattle.node.proofs.Laws.{refined}
use Rattle.phases.proofs.PartLaws.{handled_quiet}
use Rattle.tick.proofs.DeadlineLaws.{ticks_as}

-- heartbeats that end nothing log nothing, and none has an entry
on_late_quiet : (p : Plain) (w : WatchedNode) → (on_late p w).ended ≡ false → (on_late p w).logged ≡ []
unfolding on_late
on_late_quiet p w e = (handled_quiet p.errors (timeout_of w) refl e).logged

late_errors_quiet : (p : Plain) (ws : List WatchedNode) → (on_late_all p ws).ended ≡ false → (on_late_all p ws).logged ≡ []
unfolding on_late_all
late_errors_quiet p [] e = refl
late_errors_quiet p (w ∷ ws) e = by (on_late p w).ended refl (late_errors_quiet (on_late p w).head ws) e
  where
    by :
        (b : Bool) → (on_late p w).ended ≡ b →
        ((on_late_all (on_late p w).head ws).ended ≡ false → (on_late_all (on_late p w).head ws).logged ≡ []) →
        (pick b (on_late p w) (behind (on_late p w) (on_late_all (on_late p w).head ws))).ended ≡ false →
        (pick b (on_late p w) (behind (on_late p w) (on_late_all (on_late p w).head ws))).logged ≡ []
    by true d more z = absurd (true≢false (sym d ∙ z))
    by false d more z = ap₂ ◌++◌ (on_late_quiet p w d) (more z)

late_errors_no_entry : (p : Plain) (ws : List WatchedNode) → (on_late_all p ws).crossings ≡ []
unfolding on_late_all on_late
late_errors_no_entry p [] = refl
late_errors_no_entry p (w ∷ ws) = by (on_late p w).ended (late_errors_no_entry (on_late p w).head ws)
  where
    by :
        (b : Bool) → (on_late_all (on_late p w).head ws).crossings ≡ [] →
        (pick b (on_late p w) (behind (on_late p w) (on_late_all (on_late p w).head ws))).crossings ≡ []
    by true more = refl
    by false more = more

-- the phases together
module _ (h : Head) (q m : List ℕ) (t : ℕ) (ws : List WatchedNode) where
  abbrev p : Plain
  p = plain h q m

  abbrev late : List WatchedNode
  late = late_ones t ws

  abbrev after : Ticked → Ticked
  after b = pick b.ended b (behind b (by_deadline b.head t b.head.soc.next_tick_us))

  abbrev by_state : Bool → Ticked
  by_state c = after (pick c (on_late_all p late) (goes_on p))

  pub tick_idle :
      checks_heartbeats h.nmt.current_state ≡ false →
      (d : PartLeft) (q' m' : List ℕ) →
      Ticks h q m (by_deadline p t h.soc.next_tick_us) d q' m' →
      Ticks h q m (tick_taken p t ws) d q' m'
  unfolding tick_taken
  tick_idle z d q' m' w = ticks_as (by_deadline p t h.soc.next_tick_us) (tick_taken p t ws) (ap by_state z) w

  module _ (z : checks_heartbeats h.nmt.current_state ≡ true) (d : PartLeft) (w : Ticks h q m (on_late_all p late) d q m) where
    pub tick_ended : d.ended ≡ true → Ticks h q m (tick_taken p t ws) d q m
    unfolding tick_taken
    tick_ended y =
        ticks_as (on_late_all p late) (tick_taken p t ws)
        (ap by_state z
        ∙ ap (λ (b : Bool). pick b (on_late_all p late) (behind (on_late_all p late) (by_deadline (on_late_all p late).head t (on_late_all p late).head.soc.next_tick_us))) (sym w.ended ∙ y))
        w

    module _ (y : d.ended ≡ false) (r : PartLeft) (q' m' : List ℕ) where
      abbrev b₀ : Ticked
      b₀ = on_late_all p late

      abbrev rest : Plain → Ticked
      rest g = by_deadline g t g.soc.next_tick_us

      goes : tick_taken p t ws ≡ behind b₀ (rest b₀.head)
      unfolding tick_taken
      goes = ap by_state z ∙ ap (λ (b : Bool). pick b b₀ (behind b₀ (rest b₀.head))) (sym w.ended ∙ y)

      pub tick_goes_on :
          Ticks d.head q m (by_deadline (plain d.head q m) t d.head.soc.next_tick_us) r q' m' →
          Ticks h q m (tick_taken p t ws) r q' m'
      tick_goes_on k =
          ticks_as (behind b₀ (rest b₀.head)) (tick_taken p t ws) goes
          (record {
            head = k.head ∙ ap (λ (g : Plain). (rest g).head) w.head;
            logged =
                k.logged ∙ ap (λ (g : Plain). (rest g).logged) w.head
                ∙ sym (ap (λ (l : List DllError). l ++ (rest b₀.head).logged) (late_errors_quiet p late (sym w.ended ∙ y)));
            ended = k.ended ∙ ap (λ (g : Plain). (rest g).ended) w.head;
            joined =
                k.joined
                ∙ ap₂ joins_all (w.joined ∙ ap (joins_all (rings h q m)) (late_errors_no_entry p late)) (ap (λ (g : Plain). (rest g).crossings) w.head)
                ∙ ap (joins_all (rings h q m)) (sym (ap (λ (l : List ErrorEntry). l ++ (rest b₀.head).crossings) (late_errors_no_entry p late)));
          })

-- the tick as a call: its refusals, and what is taken, whatever form the run has
module _ (h : Head) (q m : List ℕ) (r : Run) (t : ℕ) where
  abbrev p₀ : Plain
  p₀ = plain h q m

  -- what a tick owes of the plain tick, where it answered a and left the head g, its memory, and
  -- the run l
  abbrev pub TickLeft : Answer → Head → List ℕ → List ℕ → Run → Type 0
  TickLeft a g q' m' l =
      Refines h q m (tick t r) (left g a) q' m' l × (rings g q' m' ≡ joins_all (rings h q m) (step p₀ (tick t r)).crossings)

  tick_declined : (x : ℕ) → step p₀ (tick t r) ≡ declines p₀ r x → TickLeft (refused x) h q m r
  tick_declined x s = (
    refined h q m (tick t r) _ q m r (declines p₀ r x) s refl refl refl,
    sym (ap (λ (k : Step). joins_all (rings h q m) k.crossings) s),
  )

  pub tick_unformed : well_lent r ≡ false → TickLeft (refused 3) h q m r
  tick_unformed a = tick_declined 3 (rw a)

  pub tick_late : well_lent r ≡ true → in_time t ≡ false → TickLeft (refused 5) h q m r
  tick_late a b = tick_declined 5 (rw (a, b))

  module _ (a : well_lent r ≡ true) (b : in_time t ≡ true) where
    abbrev checks : Bool
    checks = checks_heartbeats h.nmt.current_state

    pub tick_before : pick checks (all_of (not_before t) (watching r)) true ≡ false → TickLeft (refused 6) h q m r
    tick_before d = tick_declined 6 (rw (a, b, d))

    -- from the phases, and the check of the nodes
    pub tick_accepted :
        pick checks (all_of (not_before t) (watching r)) true ≡ true →
        (d : PartLeft) (q' m' : List ℕ) →
        Ticks h q m (tick_taken p₀ t (watching r)) d q' m' →
        (l : Run) →
        l ≡ pick checks (changing (map (refreshed t)) r) r →
        TickLeft (tick_answer (reported d.logged)) (head_with_earliest d.head (earliest (watching l))) q' m' l
    tick_accepted f d q' m' w l n =
        let s : step p₀ (tick t r) ≡ tick_answered (tick_taken p₀ t (watching r)) (refreshed_at p₀ t r) = rw (a, b, f) in (
          refined h q m (tick t r) _ q' m' l (tick_answered (tick_taken p₀ t (watching r)) (refreshed_at p₀ t r)) s
              (λ i. up_to_date (w.head i) (n i)) (ap tick_answer w.logged) n,
          w.joined ∙ sym (ap (λ (k : Step). joins_all (rings h q m) k.crossings) s),
        )
