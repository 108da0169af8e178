-- NO NODE DEPENDS ON ANOTHER (RULES 8.6): of two ticks of the real functions that are taken, on the
-- same head at the same time, from their contracts in src/ alone.
-- Assumes nothing.
use Prim.Native.Nat.{ℕ, zero, suc, ◌≤◌, ◌<◌}
use mathlib.Core.Path.{◌≡◌, refl, sym, ap, subst, ◌∙◌}
use mathlib.Core.Logic.{⊎_elim}
use mathlib.Core.Bool.{Bool, true, false}
use mathlib.Core.List.{List, [], ◌∷◌, ◌++◌, map}
use native.Mathlib.Omega.{arith}
use lib.ListN.{length, get_or, take, drop}
use Rattle.types.specs.Pick.{pick}
use Rattle.types.specs.declared.frame.error.types.DllError.{DllError}
use Rattle.entries.proofs.Rings.{lt_or_ge}
use Rattle.head.specs.Words.{head_of}
use Rattle.watched.specs.declared.nodes.WatchedNode.{WatchedNode}
use Rattle.watched.specs.Watched.{no_node, Run, watching, well_lent, changing}
use Rattle.watched.proofs.Watching.{lent_inside}
use Rattle.node.specs.Plain.{Plain, Call, tick_answer, Step}
use Rattle.node.specs.Steps.{declines}
use Rattle.node.specs.Heartbeats.{checks_heartbeats, refreshed, refreshed_at}
use Rattle.node.specs.Tick.{tick_tests, tick_taken, tick_answered}
use Rattle.node.specs.Run.{step}
use Rattle.node.specs.Refines.{plain}
use Rattle.node.proofs.Fixed.{apart}
use Rattle.types.specs.Errors.{reported}
use Rattle.types.specs.declared.frame.error.types.DllErrors.{DllErrors}
use Rattle.std.specs.declared.result.Result.TheVariants.{Ok}
use Rattle.calling.specs.declared.Call.TheVariants as call
use Rattle.calling.specs.declared.Answer.TheVariants as answer
use Rattle.calling.specs.Held.{Held, relent}
use Rattle.calling.specs.Made.{Made}
use Rattle.trace.specs.Independent.{record_at, DifferAt, HeardAlike}
use Rattle.node.proofs.Refining.{tried_by_lem}
use Rattle.trace.proofs.Follows.{all_hold}

-- a record of a run after a change of each of its first nodes: that of the record alone, up to the number
module _ (f : WatchedNode → WatchedNode) where
  within : (k : ℕ) (ns : List WatchedNode) (j : ℕ) → k ≤ length ns → j < k → get_or (map f (take k ns) ++ drop k ns) j no_node ≡ f (get_or ns j no_node)
  within zero ns j l h = absurd (omega arith)
  within (suc k) [] j l h = absurd (omega arith)
  within (suc k) (w ∷ ws) zero l h = refl
  within (suc k) (w ∷ ws) (suc j) l h = within k ws j (omega arith) (omega arith)

  past : (k : ℕ) (ns : List WatchedNode) (j : ℕ) → k ≤ length ns → k ≤ j → get_or (map f (take k ns) ++ drop k ns) j no_node ≡ get_or ns j no_node
  past zero ns j l h = refl
  past (suc k) [] j l h = absurd (omega arith)
  past (suc k) (w ∷ ws) zero l h = absurd (omega arith)
  past (suc k) (w ∷ ws) (suc j) l h = past k ws j (omega arith) (omega arith)

  changed_differ :
      (i : ℕ) (r s : Run) → r.number ≤ length r.places → s.number ≤ length s.places → DifferAt i r s →
      DifferAt i (changing (map f) r) (changing (map f) s)
  changed_differ i r s l m d = record { number = d.number; others = λ j o. by j (d.others j o) }
    where
      by : (j : ℕ) → record_at s j ≡ record_at r j → record_at (changing (map f) s) j ≡ record_at (changing (map f) r) j
      by j e =
          ⊎_elim
          (λ h.
          within s.number s.places j m (subst (λ (n : ℕ). j < n) (sym d.number) h) ∙ ap f e
          ∙ sym (within r.number r.places j l h))
          (λ h.
          past s.number s.places j m (subst (λ (n : ℕ). n ≤ j) (sym d.number) h) ∙ e
          ∙ sym (past r.number r.places j l h))
          (lt_or_ge j r.number)

-- the plain tick that is taken: its run passes number 3, and is left as the check leaves it
module _ (p : Plain) (t : ℕ) (r : Run) (es : List DllError) (e : (step p (Call.tick t r)).answer ≡ tick_answer es) where
  abbrev taken : Step
  taken = tick_answered (tick_taken p t (watching r)) (refreshed_at p t r)

  well_lent_lem : well_lent r ≡ true
  well_lent_lem = (all_hold (λ (x : Step). x.answer ≡ tick_answer es) (tick_tests p t r) (declines p r) taken (λ n h. apart h refl refl) e).0

  leaves_refreshed : (step p (Call.tick t r)).lent ≡ refreshed_at p t r
  leaves_refreshed =
      tried_by_lem (λ (x : Step). x.answer ≡ tick_answer es → x.lent ≡ refreshed_at p t r) (tick_tests p t r) (declines p r) taken
      (λ n h. apart h refl refl) (λ h. refl) e

pub step_differs :
    (p : Plain) (t i : ℕ) (r s : Run) (es fs : List DllError) →
    (step p (Call.tick t r)).answer ≡ tick_answer es →
    (step p (Call.tick t s)).answer ≡ tick_answer fs →
    DifferAt i r s →
    DifferAt i (step p (Call.tick t r)).lent (step p (Call.tick t s)).lent
step_differs p t i r s es fs a b d =
    subst (λ (x : Run). DifferAt i x (step p (Call.tick t s)).lent) (sym (leaves_refreshed p t r es a))
    (subst (DifferAt i (refreshed_at p t r)) (sym (leaves_refreshed p t s fs b)) (by (checks_heartbeats p.nmt.current_state)))
  where
    by : (c : Bool) → DifferAt i (pick c (changing (map (refreshed t)) r) r) (pick c (changing (map (refreshed t)) s) s)
    by true = changed_differ (refreshed t) i r s (lent_inside r (well_lent_lem p t r es a)) (lent_inside s (well_lent_lem p t s fs b)) d
    by false = d

-- TWO TICKS THAT ARE TAKEN, on the same head and memory: the runs that they leave differ at that place alone
pub tick_differs :
    {x x₁ x₂ : Held} {r : Run} {t i : ℕ} {es fs : DllErrors} →
    Made x (call.Tick t) (Ok (answer.Tick es)) x₁ →
    Made (relent x r) (call.Tick t) (Ok (answer.Tick fs)) x₂ →
    DifferAt i x.lent r →
    DifferAt i x₁.lent x₂.lent
tick_differs {x} {x₁} {x₂} {r} {t} {i} {es} {fs} f g d =
    subst (λ (z : Run). DifferAt i z x₂.lent) (sym f.refines.lent)
    (subst (DifferAt i (step p (Call.tick t x.lent)).lent) (sym g.refines.lent)
    (step_differs p t i x.lent r (reported es) (reported fs) (sym f.refines.answer) (sym g.refines.answer) d))
  where
    p : Plain
    p = plain (head_of x.head) x.queue x.history

-- so no other node's last-heard time does
pub independent :
    {x x₁ x₂ : Held} {r : Run} {t i : ℕ} {es fs : DllErrors} →
    Made x (call.Tick t) (Ok (answer.Tick es)) x₁ →
    Made (relent x r) (call.Tick t) (Ok (answer.Tick fs)) x₂ →
    DifferAt i x.lent r →
    HeardAlike i x₁.lent x₂.lent
independent f g d j o = ap (λ (w : WatchedNode). w.last_heard) ((tick_differs f g d).others j o)
