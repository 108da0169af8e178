-- The counts of a counter that stop at the 32-bit top: while below it, a call raises the cumulative
-- count of a kind by the errors given to it, and the count of crossings by its crossings.
-- Assumes nothing.
use Prim.Native.Nat.{ℕ, ◌+◌, ◌<◌}
use mathlib.Core.Path.{◌≡◌, refl}
use mathlib.Core.Bool.{Bool, true, false}
use mathlib.Core.List.{List, [], ◌∷◌, ◌++◌}
use native.Mathlib.Omega.{arith}
use borrow.Author.Tests.{eq-eqb}
use Rattle.types.specs.Pick.{pick}
use Rattle.types.specs.declared.frame.error.types.DllError.{DllError}
use Rattle.counters.specs.Counters.{counter_kinds, place, same_kind, counter, top, add_top, incremented, decremented, reaches, after_check, after_error, raised, crossed_answer, unsignalled, active, lowered, counted_error, link_lost, Effect, counts, loses_link, is_logged, nothing, effect, handled_as, handled, completed}
use Rattle.counters.specs.Marks.{threshold_of, Mark, given, crossed, drained, is_given, is_crossed, count_of, E, N, effect_marks, error_marks, drained_of, cycle_marks}
use Rattle.counters.specs.declared.counters.ThresholdCounter.{ThresholdCounter}
use Rattle.counters.specs.declared.counters.CounterKind.{CounterKind}
use Rattle.counters.specs.declared.counters.CnErrorCounters.{CnErrorCounters}
use Rattle.counters.proofs.ByKind.{same_kind_lem, counter_of_lem, counter_replaced}
use Rattle.counters.proofs.Balance.{Balanced, balanced_none, balanced_then, balanced_handled, balanced_completed, count_append}

-- a count that stops at the top, from x to x' over n times that raise it
pub record Rises (x n x' : ℕ) : Type 0 where
  pub below : x' < top → x < top
  pub risen : x' < top → x' ≡ x + n

pub rises_none : (x : ℕ) → Rises x 0 x
rises_none x = record { below = λ h. h; risen = λ h. omega arith }

pub rises_then : {x x' x'' n n' : ℕ} → Rises x n x' → Rises x' n' x'' → Rises x (n + n') x''
rises_then {x} {x'} {x''} {n} {n'} a b =
    record {
      below = λ h. a.below (b.below h);
      risen = λ h. omega (arith, a.risen (b.below h), b.risen h);
    }

pub rises_one : (x : ℕ) → Rises x 1 (add_top x 1)
rises_one x = record { below = λ h. omega arith; risen = λ h. omega arith }

counted_counters :
    (j : CounterKind) (s : CnErrorCounters) (e : DllError) (b : Bool) →
    (pick b (crossed_answer (raised j s) e) (unsignalled (raised j s))).counters ≡ raised j s
counted_counters j s e true = refl
counted_counters j s e false = refl

-- the marks of an error that counts for kind k, which crosses or not
abbrev marks_of : CounterKind → Bool → List Mark
marks_of k crosses = given k ∷ pick crosses (crossed k ∷ []) []

-- A count in a counter, and the marks that raise it: an error raises that of its own kind by its
-- marks, a cycle raises none.
pub record Count : Type 0 where
  pub read : ThresholdCounter → ℕ
  pub of_kind : CounterKind → Mark → Bool
  pub error_rises : (k : CounterKind) (c : ThresholdCounter) → Rises (read c) (count_of (of_kind k) (marks_of k (after_error c).reached)) (read (after_error c).counter)
  pub others_stay : (j k : CounterKind) → same_kind j k ≡ false → (b : Bool) → count_of (of_kind k) (marks_of j b) ≡ 0
  pub cycle_stays : (c : ThresholdCounter) → read (decremented c) ≡ read c
  pub cycle_leaves : (j k : CounterKind) → of_kind k (drained j) ≡ false

module _ (x : Count) where
  rises_counted :
      (j k : CounterKind) (s : CnErrorCounters) (e : DllError) →
      Rises (x.read (counter k s)) (count_of (x.of_kind k) (effect_marks (counts j) s)) (x.read (counter k (counted_error j s e).counters))
  unfolding counted_error
  rises_counted j k s e =
      rw (counted_counters j s e (after_error (counter j s)).reached, counter_replaced j k (after_error (counter j s)).counter s)
      (by (same_kind j k) refl)
    where
      by :
          (b : Bool) →
          same_kind j k ≡ b →
          Rises (x.read (counter k s)) (count_of (x.of_kind k) (marks_of j (after_error (counter j s)).reached))
          (x.read (pick (same_kind j k) (after_error (counter j s)).counter (counter k s)))
      by true q = rw (q, same_kind_lem j k q) (x.error_rises k (counter k s))
      by false q = rw (q, x.others_stay j k q (after_error (counter j s)).reached) (rises_none (x.read (counter k s)))

  rises_as :
      (k : CounterKind) (s : CnErrorCounters) (f : Effect) (e : DllError) →
      Rises (x.read (counter k s)) (count_of (x.of_kind k) (effect_marks f s)) (x.read (counter k (handled_as f s e).counters))
  rises_as k s (counts j) e = rises_counted j k s e
  rises_as k s loses_link e =
      rw (counter_of_lem (λ (i : CounterKind). counter i s) (link_lost s).loss_of_link_cumulative k) (rises_none (x.read (counter k s)))
  rises_as k s is_logged e = rises_none (x.read (counter k s))
  rises_as k s nothing e = rises_none (x.read (counter k s))

  none_marked : (k : CounterKind) (s : CnErrorCounters) (ks : List CounterKind) → count_of (x.of_kind k) (drained_of ks s) ≡ 0
  none_marked k s [] = refl
  none_marked k s (j ∷ ks) =
      let h = none_marked k s ks in
      let a = count_append (x.of_kind k) (pick (active (counter j s)) (drained j ∷ []) []) (drained_of ks s) in
      let b = one (active (counter j s)) in
      omega arith
    where
      one : (b : Bool) → count_of (x.of_kind k) (pick b (drained j ∷ []) []) ≡ 0
      one true = rw (x.cycle_leaves j k)
      one false = refl

  rises_handled :
      (k : CounterKind) (s : CnErrorCounters) (e : DllError) →
      Rises (x.read (counter k s)) (count_of (x.of_kind k) (error_marks s e)) (x.read (counter k (handled s e).counters))
  unfolding handled error_marks
  rises_handled k s e = rises_as k s (effect e) e

  rises_completed :
      (k : CounterKind) (s : CnErrorCounters) →
      Rises (x.read (counter k s)) (count_of (x.of_kind k) (cycle_marks s)) (x.read (counter k (completed s).counters))
  unfolding completed lowered cycle_marks
  rises_completed k s =
      rw (counter_of_lem (λ (i : CounterKind). decremented (counter i s)) s.loss_of_link_cumulative k, none_marked k s counter_kinds, x.cycle_stays (counter k s))
      (rises_none (x.read (counter k s)))

-- a counter after an error: one occurrence more, and one crossing more where it crossed
module _ (c : ThresholdCounter) where
  after_error_lem :
      (b : Bool) →
      reaches (incremented c) ≡ b →
      ((after_check (incremented c)).counter.cumulative_cnt ≡ add_top c.cumulative_cnt 1) ×
      ((after_check (incremented c)).counter.crossings_cnt ≡ pick (after_check (incremented c)).reached (add_top c.crossings_cnt 1) c.crossings_cnt)
  after_error_lem true h = rw h (refl, refl)
  after_error_lem false h = rw h (refl, refl)

  pub occurrence_more : (after_error c).counter.cumulative_cnt ≡ add_top c.cumulative_cnt 1
  unfolding after_error
  occurrence_more = (after_error_lem (reaches (incremented c)) refl).0

  pub crossing_more : (after_error c).counter.crossings_cnt ≡ pick (after_error c).reached (add_top c.crossings_cnt 1) c.crossings_cnt
  unfolding after_error
  crossing_more = (after_error_lem (reaches (incremented c)) refl).1

pub same_itself : (k : CounterKind) → same_kind k k ≡ true
same_itself k = eq-eqb (place k) (place k) refl

-- the cumulative count, of the errors given to a counter
unfoldable pub occurrence_count : Count
occurrence_count =
    record {
      read = λ c. c.cumulative_cnt;
      of_kind = is_given;
      error_rises = λ k c. rw (occurrence_more c, given_once k (after_error c).reached) (rises_one c.cumulative_cnt);
      others_stay = others;
      cycle_stays = λ c. refl;
      cycle_leaves = λ j k. refl;
    }
  where
    given_once : (k : CounterKind) (b : Bool) → E k (marks_of k b) ≡ 1
    given_once k true = rw (same_itself k)
    given_once k false = rw (same_itself k)

    others : (j k : CounterKind) → same_kind j k ≡ false → (b : Bool) → E k (marks_of j b) ≡ 0
    others j k h true = rw h
    others j k h false = rw h

-- the count of crossings
unfoldable pub crossing_count : Count
crossing_count =
    record {
      read = λ c. c.crossings_cnt;
      of_kind = is_crossed;
      error_rises = λ k c. rw (crossing_more c) (once k c.crossings_cnt (after_error c).reached);
      others_stay = others;
      cycle_stays = λ c. refl;
      cycle_leaves = λ j k. refl;
    }
  where
    once : (k : CounterKind) (n : ℕ) (b : Bool) → Rises n (N k (marks_of k b)) (pick b (add_top n 1) n)
    once k n true = rw (same_itself k) (rises_one n)
    once k n false = rises_none n

    others : (j k : CounterKind) → same_kind j k ≡ false → (b : Bool) → N k (marks_of j b) ≡ 0
    others j k h true = rw h
    others j k h false = refl

-- The counters' share of a call that takes them from s to s' with the marks ms: of each kind, the
-- balance, the cumulative count and the count of crossings.
pub record Counting (s : CnErrorCounters) (ms : List Mark) (s' : CnErrorCounters) : Type 0 where
  pub balance : (T : ℕ) (k : CounterKind) → threshold_of k s ≡ T → Balanced T k (counter k s) ms (counter k s')
  pub count : (x : Count) (k : CounterKind) → Rises (x.read (counter k s)) (count_of (x.of_kind k) ms) (x.read (counter k s'))

pub counting_none : (s : CnErrorCounters) → Counting s [] s
counting_none s =
    record {
      balance = λ T k h. balanced_none T k (counter k s) h;
      count = λ x k. rises_none (x.read (counter k s));
    }

-- what one leaves, another takes on
pub counting_then :
    {s s' s'' : CnErrorCounters} {ms ns : List Mark} → Counting s ms s' → Counting s' ns s'' → Counting s (ms ++ ns) s''
counting_then {s} {s'} {s''} {ms} {ns} a b =
    record {
      balance = λ T k h. let x = a.balance T k h in balanced_then x (b.balance T k x.kept);
      count = λ x k. rw (count_append (x.of_kind k) ms ns) (rises_then (a.count x k) (b.count x k));
    }

pub counting_handled : (s : CnErrorCounters) (e : DllError) → Counting s (error_marks s e) (handled s e).counters
counting_handled s e =
    record { balance = λ T k h. balanced_handled T k s h e; count = λ x k. rises_handled x k s e }

pub counting_completed : (s : CnErrorCounters) → Counting s (cycle_marks s) (completed s).counters
counting_completed s =
    record { balance = λ T k h. balanced_completed T k s h; count = λ x k. rises_completed x k s }
