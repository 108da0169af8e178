-- HOW LONG THE WATCH SLEEPS (RULES 7.12): of any tick and any arm of the real functions, on
-- whatever words, from their contracts in src/ alone.
-- Assumes nothing.
use Prim.Native.Nat.{ℕ, ◌+◌, ◌/◌, ◌≤◌, ◌<◌, max}
use mathlib.Core.Path.{◌≡◌, refl, sym, ap, subst, ◌∙◌}
use native.Mathlib.Omega.{arith}
use Rattle.std.specs.declared.option.Option.{Option}
use Rattle.std.specs.declared.option.Option.TheVariants.{Some, None}
use Rattle.head.specs.declared.state.Deadline.TheVariants.{At}
use Rattle.head.specs.declared.state.SocWatch.{SocWatch}
use Rattle.head.specs.Words.{head_of}
use Rattle.watched.specs.Watched.{Run, watching}
use Rattle.node.specs.declared.load.DictionaryUpdate.{DictionaryUpdate}
use Rattle.node.specs.Plain.{Plain, Step, taken, tick_answer}
use Rattle.node.specs.Steps.{no_run, declines, answers, with_soc, updated_object, updated, value_or, cycle_of, tolerance_of, arm_tests, armed}
use Rattle.node.specs.Heartbeats.{refreshed_at}
use Rattle.node.specs.Tick.{tick_tests, tick_taken, tick_answered}
use Rattle.node.specs.Refines.{plain}
use Rattle.node.specs.Watch.{Watching, Sleeps, Raised, Moves}
use Rattle.node.proofs.Fixed.{apart}
use Rattle.node.proofs.Watch as Plainly
use Rattle.types.specs.Errors.{reported}
use Rattle.types.specs.declared.frame.error.types.DllErrors.{DllErrors}
use Rattle.std.specs.declared.result.Result.TheVariants.{Ok}
use Rattle.calling.specs.declared.Call.TheVariants as call
use Rattle.calling.specs.declared.Answer.TheVariants as answer
use Rattle.calling.specs.Held.{Held, plain_at, relent}
use Rattle.calling.specs.Values.{Reply}
use Rattle.calling.specs.Made.{Made}
use Rattle.node.proofs.Refining.{tried_by_lem}

-- A TICK THAT IS TAKEN
pub tick_sleeps :
    {x x' : Held} {t d : ℕ} {es : DllErrors} →
    Made x (call.Tick t) (Ok (answer.Tick es)) x' →
    Watching (plain (head_of x.head) x.queue x.history) d →
    Sleeps (plain (head_of x.head) x.queue x.history) t d (head_of x'.head).soc
tick_sleeps {x} {t = t} {d = d} {es = es} f w =
    let p = plain_at x in
    subst (Sleeps p t d) (sym (ap (λ (p : Plain). p.soc) f.refines.head))
    (tried_by_lem (λ (z : Step). z.answer ≡ tick_answer (reported es) → Sleeps p t d z.head.soc) (tick_tests p t x.lent) (declines p x.lent)
    (tick_answered (tick_taken p t (watching x.lent)) (refreshed_at p t x.lent)) (λ n h. apart h refl refl) (λ h. Plainly.tick_sleeps p t (watching x.lent) d w)
    (sym f.refines.answer))

-- TWO ARMS THAT ARE TAKEN, at one time: the tolerance of the second head is d higher
arm_sets :
    {x x' : Held} {t : ℕ} → Made x (call.Arm t) (Ok answer.Taken) x' → (head_of x'.head).soc ≡ armed (head_of x.head).soc (head_of x.head).od t
arm_sets {x} {t = t} f =
    let p = plain_at x in
    ap (λ (p : Plain). p.soc) f.refines.head
    ∙ tried_by_lem (λ (z : Step). z.answer ≡ taken → z.head.soc ≡ armed p.soc p.od t) (arm_tests t) (declines p no_run)
    (answers (with_soc p (armed p.soc p.od t)) taken no_run) (λ n h. apart h refl refl) (λ h. refl) (sym f.refines.answer)

pub arm_moves :
    {x x' y y' : Held} {t d : ℕ} →
    Made x (call.Arm t) (Ok answer.Taken) x' →
    Made y (call.Arm t) (Ok answer.Taken) y' →
    0 < cycle_of (head_of x.head).od →
    Raised d (head_of x.head).od (head_of y.head).od →
    Moves d (head_of x'.head).soc (head_of y'.head).soc
arm_moves {x} {x'} {y} {y'} {t} {d} f g c e =
    subst (λ (z : SocWatch). Moves d z (head_of y'.head).soc) (sym (arm_sets f))
    (subst (Moves d (armed (head_of x.head).soc (head_of x.head).od t)) (sym (arm_sets g))
    (Plainly.arm_moves t d (head_of x.head).soc (head_of y.head).soc (head_of x.head).od (head_of y.head).od c e))

-- A LOAD that names the tolerance and not the cycle raises it
pub load_raises :
    {x x' : Held} {d : ℕ} {v : DictionaryUpdate} {h : _} {o : Reply} →
    Made x (call.Load v h) o x' →
    v.cycle_time ≡ None →
    v.tolerance ≡ Some (Some (tolerance_of (head_of x.head).od + d)) →
    Raised d (head_of x.head).od (head_of x'.head).od
unfolding updated
load_raises {x} {x'} {v = v} f c e =
    record {
      cycle = ap cycle_of o ∙ ap (λ (y : Option (Option ℕ)). value_or 0 (updated_object (head_of x.head).od.cycle_time y)) c;
      tolerance = ap tolerance_of o ∙ ap (λ (y : Option (Option ℕ)). value_or 100000 (updated_object (head_of x.head).od.tolerance y)) e;
    }
  where
    o : (head_of x'.head).od ≡ updated (head_of x.head).od v
    o = ap (λ (p : Plain). p.od) f.refines.head

-- so an arm behind such a load sets a deadline that is moved by as much, whatever nodes are lent
pub load_moves :
    {x x' x₁ x₂ : Held} {r l : Run} {t d : ℕ} {v : DictionaryUpdate} {h : _} {o : Reply} →
    Made x (call.Arm t) (Ok answer.Taken) x' →
    Made (relent x r) (call.Load v h) o x₁ →
    Made (relent x₁ l) (call.Arm t) (Ok answer.Taken) x₂ →
    0 < cycle_of (head_of x.head).od →
    v.cycle_time ≡ None →
    v.tolerance ≡ Some (Some (tolerance_of (head_of x.head).od + d)) →
    Moves d (head_of x'.head).soc (head_of x₂.head).soc
load_moves f l g c y e = arm_moves f g c (load_raises l y e)

-- The plain tick reads a last SoC time above 2^62 − 1, which no call leaves, as that: so the bound holds of the time that the head has as well.
pub soon_of_the_head :
    {p : Plain} {t d : ℕ} {s : SocWatch} →
    Sleeps p t d s →
    d ≤ t →
    (e : ℕ) →
    s.next_tick_us ≡ At e →
    e ≤ max t p.soc.last_soc_reception_time_us + (cycle_of p.od + tolerance_of p.od / 1000)
soon_of_the_head s f e g = let z = s.soon f e g in omega arith
