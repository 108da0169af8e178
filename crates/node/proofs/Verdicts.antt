-- What the answers say of the readings (RULES 7.10): lost exactly where every reading is a loss,
-- kept exactly where none is, open otherwise; and the SoC is lost exactly where the margin is below
-- 0.
-- Assumes nothing.
use Prim.Native.Nat.{ℕ, zero, suc, ◌-◌, ◌≤◌}
use mathlib.Core.Path.{◌≡◌, refl, sym, ap, ◌∙◌}
use mathlib.Core.Bool.{Bool, true, false, true≢false, cond}
use native.Mathlib.Omega.{arith}
use lib.Dec.{ltb}
use lib.IntN.{pos, negsuc, ◌-ℤ◌}
use borrow.Author.Tests.{le-ltb, le-leb}
use Rattle.types.specs.Pick.{pick}
use Rattle.watched.specs.Watched.{latest}
use Rattle.node.specs.declared.range.SocVerdict.{SocVerdict}
use Rattle.node.specs.declared.range.SocVerdict.TheVariants as verdict
use Rattle.node.specs.Plain.{Plain, range, margin, range_answer, margin_answer}
use Rattle.node.specs.Steps.{no_run, answers, declines, limit_of}
use Rattle.node.specs.Deadline.{elapsed, is_loss}
use Rattle.node.specs.Range.{verdict_of, margin_of, AllLost, NoneLost, is_below0}
use Rattle.node.specs.Run.{step}
use Rattle.node.proofs.Ranging.{all_lost, none_lost, lost_end, kept_ends, open_ends, range_by}
use Rattle.node.proofs.Fixed.{verdict_in}

abbrev is_lost : SocVerdict → Bool
is_lost verdict.Lost = true
is_lost verdict.Kept = false
is_lost verdict.Open = false

abbrev is_kept : SocVerdict → Bool
is_kept verdict.Lost = false
is_kept verdict.Kept = true
is_kept verdict.Open = false

-- of readings that are not turned away
module _ (p : Plain) (a b : ℕ) (h : a ≤ b) (l : b ≤ latest) where
  abbrev Says : SocVerdict → Type 0
  Says v = (step p (range a b)).answer ≡ range_answer v

  says : {v : SocVerdict} → verdict_of p a b ≡ v → Says v
  says e =
      let x = le-leb a latest (omega arith) in
      let y = le-leb b latest l in
      λ i. (range_by p (x i) (y i) (le-leb a b h i) (e i)).answer

  said : {v : SocVerdict} → Says v → verdict_of p a b ≡ v
  said e = ap verdict_in (sym (says refl) ∙ e)

  -- the verdict by the two ends
  data Ends : Type 0 where
    lost : is_loss p a ≡ true → Ends
    kept : is_loss p a ≡ false → is_loss p b ≡ false → Ends
    undecided : is_loss p a ≡ false → is_loss p b ≡ true → Ends

  ends : Ends
  ends = by (is_loss p a) (is_loss p b) refl refl
    where
      by : (x y : Bool) → is_loss p a ≡ x → is_loss p b ≡ y → Ends
      by true y e f = lost e
      by false true e f = undecided e f
      by false false e f = kept e f

  contrary : {x : Bool} {A : Type 0} → x ≡ true → x ≡ false → A
  contrary e f = absurd (true≢false (sym e ∙ f))

  pub lost_exactly : (Says verdict.Lost → AllLost p a b) × (AllLost p a b → Says verdict.Lost)
  lost_exactly = (λ e. by e ends, λ f. says (lost_end p a b h (f a (omega arith) h)))
    where
      by : Says verdict.Lost → Ends → AllLost p a b
      by e (lost x) = all_lost p a b h x
      by e (kept x y) = contrary (ap is_lost (said e)) (ap is_lost (kept_ends p a b h x y))
      by e (undecided x y) = contrary (ap is_lost (said e)) (ap is_lost (open_ends p a b h x y))

  pub kept_exactly : (Says verdict.Kept → NoneLost p a b) × (NoneLost p a b → Says verdict.Kept)
  kept_exactly = (λ e. by e ends, λ f. says (kept_ends p a b h (f a (omega arith) h) (f b h (omega arith))))
    where
      by : Says verdict.Kept → Ends → NoneLost p a b
      by e (lost x) = contrary (ap is_kept (said e)) (ap is_kept (lost_end p a b h x))
      by e (kept x y) = none_lost p a b h y
      by e (undecided x y) = contrary (ap is_kept (said e)) (ap is_kept (open_ends p a b h x y))

  pub open_otherwise :
      (Says verdict.Open → (AllLost p a b → ⊥) × (NoneLost p a b → ⊥))
      × ((AllLost p a b → ⊥) → (NoneLost p a b → ⊥) → Says verdict.Open)
  open_otherwise = (
    λ e. (
      λ f. contrary (ap is_lost (lost_end p a b h (f a (omega arith) h))) (ap is_lost (said e)),
      λ f. contrary (ap is_kept (kept_ends p a b h (f a (omega arith) h) (f b h (omega arith)))) (ap is_kept (said e)),
    ),
    λ f g. by f g ends,
  )
    where
      by : (AllLost p a b → ⊥) → (NoneLost p a b → ⊥) → Ends → Says verdict.Open
      by f g (lost x) = absurd (f (all_lost p a b h x))
      by f g (kept x y) = absurd (g (none_lost p a b h y))
      by f g (undecided x y) = says (open_ends p a b h x y)

-- the SoC is lost exactly where the margin, limit minus elapsed, is below 0
pub margin_shown : (p : Plain) (t : ℕ) → t ≤ latest → (step p (margin t)).answer ≡ margin_answer (pos (limit_of p.od) -ℤ pos (elapsed p t))
margin_shown p t l = ap (λ (x : Bool). (pick x (answers p (margin_answer (margin_of p t)) no_run) (declines p no_run 5)).answer) (le-leb t latest l)

below : (n m : ℕ) → is_below0 (pos n -ℤ pos m) ≡ ltb n m
below n zero = sym (le-ltb n zero (omega arith))
below n (suc m) = by (ltb n (suc m))
  where
    by : (c : Bool) → is_below0 (cond c (negsuc (suc m - suc n)) (pos (n - suc m))) ≡ c
    by true = refl
    by false = refl

pub lost_below_0 : (p : Plain) (t : ℕ) → is_below0 (margin_of p t) ≡ is_loss p t
lost_below_0 p t = below (limit_of p.od) (elapsed p t)
