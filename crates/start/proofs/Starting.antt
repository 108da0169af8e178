-- The refinement of start, over plain variables: whatever form the run has.
-- Assumes nothing.
use Prim.Native.Nat.{ℕ, min}
use mathlib.Core.Path.{◌≡◌, refl, sym, ap, subst, ◌∙◌}
use mathlib.Core.Bool.{Bool, true, false}
use mathlib.Core.List.{List}
use native.Mathlib.Omega.{arith}
use lib.Dec.{leb}
use Rattle.std.proofs.Common.{leb-true}
use Rattle.types.specs.Pick.{pick}
use Rattle.types.specs.Types.{node, is_node, read_node}
use Rattle.types.specs.Refusals.{refusal_number}
use Rattle.types.specs.declared.refusals.Refusal.{Refusal}
use Rattle.types.specs.declared.refusals.Refusal.TheVariants.{NodeNumber, QueueCapacity, WatchedNodes, ThresholdLimit}
use Rattle.types.specs.declared.types.NodeId.{NodeId}
use Rattle.std.specs.declared.result.Result.{Result}
use Rattle.std.specs.declared.result.Result.TheVariants.{Ok, Err}
use Rattle.counters.specs.Counters.{thresholds_fit, Thresholds}
use Rattle.entries.proofs.Lists.{waiting_new, history_new}
use Rattle.head.specs.Head.{Head}
use Rattle.head.specs.Words.{head_of}
use Rattle.watched.specs.Watched.{unheard, Run, well_lent, changing}
use Rattle.node.specs.Plain.{Start, begins, declined, FirstStep}
use Rattle.node.specs.Steps.{fresh, started}
use Rattle.start.specs.Started.{start_of, fresh_head, fresh_words, start_answer, StartedOn, BeginsBy}
use Rattle.node.specs.Refines.{plain}
use Rattle.start.specs.declared.start.Setup.{Setup}

-- a node number that was read
pub read_is : (n : ℕ) (x : NodeId) → read_node n ≡ Ok x → (is_node n ≡ true) × (node n ≡ x)
unfolding read_node
read_is n x h = by (is_node n) h
  where
    by : (b : Bool) → pick {A = Result NodeId Refusal} b (Ok (node n)) (Err NodeNumber) ≡ Ok x → (b ≡ true) × (node n ≡ x)
    by true e = (refl, cc)
    by false e = absurd (let z : ◌≡◌ {A = ℕ} 0 1 = cc in let f : ⊥ = omega arith in f)

pub no_node : (n : ℕ) (x : Refusal) → read_node n ≡ Err x → (is_node n ≡ false) × (NodeNumber ≡ x)
unfolding read_node
no_node n x h = by (is_node n) h
  where
    by : (b : Bool) → pick {A = Result NodeId Refusal} b (Ok (node n)) (Err NodeNumber) ≡ Err x → (b ≡ false) × (NodeNumber ≡ x)
    by true e = absurd (let z : ◌≡◌ {A = ℕ} 0 1 = cc in let f : ⊥ = omega arith in f)
    by false e = (refl, cc)

-- what the tests say
abbrev by_tests : Bool → Bool → Bool → Bool → Result (Unit {0}) Refusal
by_tests a b f l =
    pick a (pick b (pick f (pick l (Ok tt) (Err ThresholdLimit)) (Err WatchedNodes)) (Err QueueCapacity)) (Err NodeNumber)

taken_passed : (n c : ℕ) (f : Bool) (ts : Thresholds) → start_answer n c f ts ≡ (Ok tt) → (leb c 32 ≡ true) × (f ≡ true)
taken_passed n c f ts = by (is_node n) (leb c 32) f
  where
    by : (a b f : Bool) → by_tests a b f (thresholds_fit ts) ≡ (Ok tt) → (b ≡ true) × (f ≡ true)
    by true true true e = (refl, refl)
    by true true false e = absurd (let z : ◌≡◌ {A = ℕ} 0 1 = cc in let x : ⊥ = omega arith in x)
    by true false f e = absurd (let z : ◌≡◌ {A = ℕ} 0 1 = cc in let x : ⊥ = omega arith in x)
    by false b f e = absurd (let z : ◌≡◌ {A = ℕ} 0 1 = cc in let x : ⊥ = omega arith in x)

pub taken_formed : (n c : ℕ) (f : Bool) (ts : Thresholds) → start_answer n c f ts ≡ (Ok tt) → f ≡ true
taken_formed n c f ts e = (taken_passed n c f ts e).1

-- start by the answer of its tests, whatever their order in the code
module _ (ws : List ℕ) (run : Run) (s : Setup) where
  abbrev given : Start
  given = start_of s run

  abbrev answer : Result (Unit {0}) Refusal
  answer = start_answer s.node s.queue_capacity (well_lent run) s.thresholds

  abbrev by_answer : Result (Unit {0}) Refusal → FirstStep
  by_answer (Ok _) = record { begun = begins (fresh given); lent = changing unheard run }
  by_answer (Err r) = record { begun = declined (refusal_number r); lent = run }

  started_by_answer : started given ≡ by_answer answer
  unfolding started
  started_by_answer = by (is_node s.node) (leb s.queue_capacity 32) (well_lent run) (thresholds_fit s.thresholds)
    where
      by :
          (a b f l : Bool) →
          pick a (pick b (pick f (pick l (by_answer (Ok tt)) (record { begun = declined 14; lent = run })) (record { begun = declined 3; lent = run })) (record { begun = declined 2; lent = run })) (record { begun = declined 1; lent = run })
          ≡ by_answer (by_tests a b f l)
      by true true true true = refl
      by true true true false = refl
      by true true false l = refl
      by true false f l = refl
      by false b f l = refl

  start_declined : (x : Refusal) → Err x ≡ answer → StartedOn ws run s (Err x) ws run
  start_declined x e =
      let g : started given ≡ by_answer (Err x) = started_by_answer ∙ ap by_answer (sym e) in
      record {
        begins = record {
          begun = λ q m. sym (ap (λ (b : FirstStep). b.begun) g);
          lent = sym (ap (λ (b : FirstStep). b.lent) g);
        };
        places = tt;
        words = refl;
      }

  start_taken :
      (Ok tt) ≡ answer →
      (ws' : List ℕ) →
      (head_of ws' ≡ fresh_head (node s.node) s.queue_capacity s) × (ws' ≡ fresh_words (node s.node) s.queue_capacity s) →
      (l : Run) →
      l ≡ changing unheard run →
      StartedOn ws run s (Ok tt) ws' l
  unfolding fresh
  start_taken e ws' r l d =
      let g : started given ≡ by_answer (Ok tt) = started_by_answer ∙ ap by_answer (sym e) in
      let z = leb-true s.queue_capacity 32 (taken_passed s.node s.queue_capacity (well_lent run) s.thresholds (sym e)).0 in
      let all : min s.queue_capacity 32 ≡ s.queue_capacity = omega (arith, z) in
      let b = r.0 in
      let stands : (q m : List ℕ) → plain (head_of ws') q m ≡ fresh given = λ q m. rw (b, all, waiting_new q s.queue_capacity, history_new m) in
      record {
        begins = record {
          begun = λ q m. ap begins (stands q m) ∙ sym (ap (λ (b : FirstStep). b.begun) g);
          lent = d ∙ sym (ap (λ (b : FirstStep). b.lent) g);
        };
        places = (ap (λ (h : Head). h.queue) b, ap (λ (h : Head). h.history) b);
        words = r.1;
      }

-- start without the run
module _ (ws : List ℕ) (s : Setup) (formed : Bool) where
  abbrev answered : Bool → Result (Unit {0}) Refusal
  answered f = start_answer s.node s.queue_capacity f s.thresholds

  pub begins_declined : (x : Refusal) → Err x ≡ answered formed → BeginsBy ws s formed (Err x) ws
  begins_declined x e =
      record {
        answer = e;
        words = refl;
        on = λ run h l y. subst (StartedOn ws run s (Err x) ws) (sym y) (start_declined ws run s x (e ∙ ap answered h));
      }

  pub begins_taken :
      (Ok tt) ≡ answered formed → (ws' : List ℕ) → (head_of ws' ≡ fresh_head (node s.node) s.queue_capacity s) × (ws' ≡ fresh_words (node s.node) s.queue_capacity s) →
      BeginsBy ws s formed (Ok tt) ws'
  begins_taken e ws' r =
      record {
        answer = e;
        words = r.1;
        on = λ run h l y. start_taken ws run s (e ∙ ap answered h) ws' r l y;
      }
