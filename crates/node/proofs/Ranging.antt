-- The readings of a clock: a reading after a loss is a loss, so that the two ends say it of all
-- between them; and what the calls answer of them.
-- Assumes nothing.
use Prim.Native.Nat.{ℕ, zero, suc, ◌+◌, ◌-◌, ◌≤◌, min}
use mathlib.Core.Path.{◌≡◌, refl, sym, ap, subst, ◌∙◌}
use mathlib.Core.Bool.{Bool, true, false, not, true≢false}
use mathlib.Core.List.{List, []}
use native.Mathlib.Omega.{arith}
use lib.Dec.{ltb}
use lib.IntN.{ℤ, pos, ◌-ℤ◌}
use borrow.Author.Tests.{lt-ltb, le-leb, ltb-true, ltb-false}
use Rattle.types.specs.Pick.{pick, both}
use Rattle.types.proofs.Tests.{both_first, both_second}
use Rattle.head.specs.Words.{soc_of, od_of, head_of}
use Rattle.head.specs.declared.state.SocWatch.{SocWatch}
use Rattle.head.specs.declared.state.Dictionary.{Dictionary}
use Rattle.watched.specs.Watched.{in_time}
use Rattle.node.specs.declared.range.SocVerdict.{SocVerdict}
use Rattle.node.specs.declared.range.SocVerdict.TheVariants as verdict
use Rattle.node.specs.Plain.{Plain, Step, Call, range, margin, Answer, range_answer, margin_answer}
use Rattle.node.specs.Steps.{no_run, answers, declines, limit_of}
use Rattle.node.specs.Deadline.{last_soc, elapsed, is_loss}
use Rattle.node.specs.Range.{each_reading, every_reading, verdict_of, margin_of, AllLost, NoneLost}
use Rattle.node.specs.Run.{step}
use Rattle.node.specs.Refines.{plain, left}
use Rattle.node.specs.InPlace.{Reading}
use Rattle.node.proofs.Laws.{refined, same_places}
use Rattle.node.proofs.Refining.{unwritten}

-- each of the readings passes, said of the readings
pub each_passes :
    (test : ℕ → Bool) (a n : ℕ) → each_reading test a n ≡ true → (t : ℕ) → a ≤ t → t ≤ a + n → test t ≡ true
unfolding each_reading
each_passes test a zero e t h k = subst (λ (t : ℕ). test t ≡ true) (omega arith) e
each_passes test a (suc n) e t h k = by (ltb a t) refl (λ l. each_passes test (suc a) n (both_second (test a) _ e) t l (omega arith))
  where
    by : (c : Bool) → ltb a t ≡ c → (suc a ≤ t → test t ≡ true) → test t ≡ true
    by true l f = let z = ltb-true a t l in f (omega arith)
    by false l f = let z = ltb-false a t l in subst (λ (t : ℕ). test t ≡ true) (omega arith) (both_first (test a) _ e)

pub each_holds :
    (test : ℕ → Bool) (a n : ℕ) → ((t : ℕ) → a ≤ t → t ≤ a + n → test t ≡ true) → each_reading test a n ≡ true
unfolding each_reading
each_holds test a zero f = f a (omega arith) (omega arith)
each_holds test a (suc n) f =
    ap (λ (c : Bool). both c (each_reading test (suc a) n)) (f a (omega arith) (omega arith))
    ∙ each_holds test (suc a) n (λ t h k. f t (omega arith) (omega arith))

-- a reading after a loss is a loss
pub later : (p : Plain) (t u : ℕ) → t ≤ u → is_loss p t ≡ true → is_loss p u ≡ true
later p t u h e = by (limit_of p.od) (last_soc p) e
  where
    by : (l n : ℕ) → ltb l (t - n) ≡ true → ltb l (u - n) ≡ true
    by l n e = let z = ltb-true l (t - n) e in lt-ltb l (u - n) (omega arith)

-- what the two ends say of all readings
module _ (p : Plain) (a b : ℕ) (h : a ≤ b) where
  pub all_lost : is_loss p a ≡ true → AllLost p a b
  all_lost e t k l = later p a t k e

  pub none_lost : is_loss p b ≡ false → NoneLost p a b
  none_lost e t k l = by (is_loss p t) refl
    where
      by : (c : Bool) → is_loss p t ≡ c → is_loss p t ≡ false
      by true x = absurd (true≢false (sym (later p t b l x) ∙ e))
      by false x = x

  every : (test : ℕ → Bool) → ((t : ℕ) → a ≤ t → t ≤ b → test t ≡ true) → every_reading test a b ≡ true
  every test f = each_holds test a (b - a) (λ t k l. f t k (omega arith))

  -- one that fails
  not_every : (test : ℕ → Bool) (t : ℕ) → a ≤ t → t ≤ b → test t ≡ false → every_reading test a b ≡ false
  not_every test t k l e = by (every_reading test a b) refl
    where
      by : (c : Bool) → every_reading test a b ≡ c → every_reading test a b ≡ false
      by true x = absurd (true≢false (sym (each_passes test a (b - a) x t k (omega arith)) ∙ e))
      by false x = x

  abbrev chosen : Bool → Bool → SocVerdict
  chosen x y = pick x verdict.Lost (pick y verdict.Kept verdict.Open)

  pub lost_end : is_loss p a ≡ true → verdict_of p a b ≡ verdict.Lost
  lost_end e = ap (λ (x : Bool). chosen x (every_reading (λ t. not (is_loss p t)) a b)) (every (is_loss p) (all_lost e))

  pub kept_ends : is_loss p a ≡ false → is_loss p b ≡ false → verdict_of p a b ≡ verdict.Kept
  kept_ends e f =
      let x = not_every (is_loss p) a (omega arith) h e in
      let y = every (λ t. not (is_loss p t)) (λ t k l. ap not (none_lost f t k l)) in
      λ i. chosen (x i) (y i)

  pub open_ends : is_loss p a ≡ false → is_loss p b ≡ true → verdict_of p a b ≡ verdict.Open
  open_ends e f =
      let x = not_every (is_loss p) a (omega arith) h e in
      let y = not_every (λ t. not (is_loss p t)) b h (omega arith) (ap not f) in
      λ i. chosen (x i) (y i)

-- the plain head that words stand for, whatever its memory
abbrev pub head_in : List ℕ → Plain
head_in ws = plain (head_of ws) [] []

-- its times, from what was read of the words
module _ (ws : List ℕ) (t : ℕ) where
  pub elapsed_read :
      (s : SocWatch) (l x : ℕ) →
      s ≡ soc_of ws →
      l ≡ min s.last_soc_reception_time_us 4611686018427387903 →
      x ≡ t - l →
      x ≡ elapsed (head_in ws) t
  unfolding head_of
  elapsed_read s l x e f g = g ∙ ap (λ (l : ℕ). t - l) (f ∙ ap (λ (s : SocWatch). min s.last_soc_reception_time_us 4611686018427387903) e)

  pub loss_read : (o : Dictionary) (l x : ℕ) → o ≡ od_of ws → l ≡ limit_of o → x ≡ elapsed (head_in ws) t → ltb l x ≡ is_loss (head_in ws) t
  unfolding head_of
  loss_read o l x e f g = λ i. ltb ((f ∙ ap limit_of e) i) (g i)

  pub margin_read :
      (o : Dictionary) (l x : ℕ) (z : ℤ) →
      o ≡ od_of ws →
      l ≡ limit_of o →
      x ≡ elapsed (head_in ws) t →
      z ≡ pos l -ℤ pos x →
      z ≡ margin_of (head_in ws) t
  unfolding head_of
  margin_read o l x z e f g h = h ∙ (λ i. pos ((f ∙ ap limit_of e) i) -ℤ pos (g i))

-- a call that answers and leaves all as it is
reading :
    (ws : List ℕ) (c : Call) (s : Answer) →
    ((q m : List ℕ) → step (plain (head_of ws) q m) c ≡ answers (plain (head_of ws) q m) s no_run) →
    Reading ws c s
reading ws c s e =
    unwritten ws c s ws
    (λ q m. refined (head_of ws) q m c (left (head_of ws) s) q m no_run (answers (plain (head_of ws) q m) s no_run) (e q m) refl refl refl, same_places (head_of ws))
    refl

-- the step of a range by its tests and its verdict, that of a margin by its test
abbrev pub range_by : Plain → Bool → Bool → Bool → SocVerdict → Step
range_by p x y z v = pick x (pick y (pick z (answers p (range_answer v) no_run) (declines p no_run 21)) (declines p no_run 5)) (declines p no_run 5)

abbrev margin_by : Plain → Bool → ℤ → Step
margin_by p x z = pick x (answers p (margin_answer z) no_run) (declines p no_run 5)

module _ (ws : List ℕ) (a b : ℕ) (e : in_time a ≡ true) (f : in_time b ≡ true) where
  pub range_taken : (v : SocVerdict) → a ≤ b → verdict_of (head_in ws) a b ≡ v → Reading ws (range a b) (range_answer v)
  range_taken v h g =
      reading ws (range a b) (range_answer v)
      (λ q m. let p = plain (head_of ws) q m in λ i. range_by p (e i) (f i) (le-leb a b h i) (g i))

pub margin_taken :
    (ws : List ℕ) (t : ℕ) (z : ℤ) → in_time t ≡ true → z ≡ margin_of (head_in ws) t → Reading ws (margin t) (margin_answer z)
margin_taken ws t z e f =
    reading ws (margin t) (margin_answer z) (λ q m. let p = plain (head_of ws) q m in λ i. margin_by p (e i) (sym f i))
