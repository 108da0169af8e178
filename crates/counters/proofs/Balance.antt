-- The balance of a counter, once for every threshold T: over any sequence of calls with e errors given, n crossings and d cycles that drained the
-- counter, from level L to level L', T·n + L' + d ≤ 8e + L ≤ (T + 7)·n + L' + d, and levels stay below T.
-- Assumes nothing.
use Prim.Native.Nat.{ℕ, ◌+◌, ◌*◌, ◌<◌, ◌≤◌}
use mathlib.Core.Path.{◌≡◌, refl, ap, ◌∙◌}
use mathlib.Core.Bool.{Bool, true, false}
use mathlib.Core.List.{List, [], ◌∷◌, ◌++◌}
use native.Mathlib.Nat.{mul-add}
use native.Mathlib.Omega.{arith}
use borrow.Author.Tests.{ltb-true, ltb-false, leb-true, leb-false, eq-eqb}
use lib.Dec.{leb, ltb}
use Rattle.types.specs.Pick.{pick, both}
use Rattle.types.specs.declared.frame.error.types.DllError.{DllError}
use Rattle.counters.specs.Counters.{counter_kinds, place, same_kind, counter, replaced, top, new_counters, threshold_for, incremented, decremented, reaches, ThresholdCheck, after_check, after_error, active, lowered, HandledError, counted_error, link_lost, Effect, counts, loses_link, is_logged, nothing, effect, handled_as, handled, completed, Thresholds}
use Rattle.counters.specs.Marks.{level, threshold_of, Mark, given, crossed, drained, is_given, is_crossed, is_drained, count_of, E, N, D, effect_marks, error_marks, drained_of, cycle_marks, CounterCall, handle_error, on_cycle_complete, after, marks}
use Rattle.counters.specs.declared.counters.ThresholdCounter.{ThresholdCounter}
use Rattle.counters.specs.declared.counters.CounterKind.{CounterKind}
use Rattle.counters.specs.declared.counters.CounterKind.TheVariants.{Collision, LossOfSoc, LossOfSoa, LossOfPreq, SoCJitter, Crc, HeartbeatTimeout}
use Rattle.counters.specs.declared.counters.CnErrorCounters.{CnErrorCounters}
use Rattle.counters.proofs.ByKind.{same_kind_lem, counter_of_lem, counter_replaced, counter_new}

-- one counter with threshold T, from level L to level L'
pub record Balance (T e n d L L' : ℕ) : Type 0 where
  pub below : L < T → L' < T
  pub low : T * n + L' + d ≤ 8 * e + L
  pub high : T ≤ top → L < T → 8 * e + L ≤ (T + 7) * n + L' + d
  -- a threshold of 0 is never reached, and the level keeps what no cycle drained until it stops at the top
  pub none : T ≡ 0 → n ≡ 0
  pub exact : T ≡ 0 → 8 * e + L ≤ top → L' + d ≡ 8 * e + L

pub balance_none : (T L : ℕ) → Balance T 0 0 0 L L
balance_none T L = record { below = λ h. h; low = omega arith; high = λ t h. omega arith; none = λ z. refl; exact = λ z h. omega arith }

pub balance_then :
    (T e n d e' n' d' L L' L'' : ℕ) → Balance T e n d L L' → Balance T e' n' d' L' L'' → Balance T (e + e') (n + n') (d + d') L L''
balance_then T e n d e' n' d' L L' L'' a b =
    record {
      below = λ h. b.below (a.below h);
      low = omega (arith, a.low, b.low, mul-add T n n');
      high = λ t h. omega (arith, a.high t h, b.high t (a.below h), mul-add (T + 7) n n');
      none = λ z. omega (arith, a.none z, b.none z);
      exact = λ z h. let f = a.exact z (omega arith) in let g = b.exact z (omega arith) in omega arith;
    }

-- an error: 8 is added, and at the threshold the level drops to 0
balance_error :
    (c : ThresholdCounter) →
    Balance c.threshold 1 (pick (after_error c).reached 1 0) 0 c.threshold_cnt (after_error c).counter.threshold_cnt
unfolding after_error
balance_error c = by (ltb 0 c.threshold) refl (leb c.threshold (incremented c).threshold_cnt) refl
  where
    by :
        (a : Bool) →
        ltb 0 c.threshold ≡ a →
        (b : Bool) →
        leb c.threshold (incremented c).threshold_cnt ≡ b →
        Balance c.threshold 1 (pick (after_check (incremented c)).reached 1 0) 0 c.threshold_cnt (after_check (incremented c)).counter.threshold_cnt
    by true a true b =
        let g = ltb-true 0 c.threshold a in
        let h = leb-true c.threshold (incremented c).threshold_cnt b in
        rw (a, b) (record { below = λ l. omega arith; low = omega arith; high = λ t l. omega arith; none = λ z. omega arith; exact = λ z l. omega arith })
    by true a false b =
        let h = leb-false c.threshold (incremented c).threshold_cnt b in
        rw (a, b) (record { below = λ l. omega arith; low = omega arith; high = λ t l. omega arith; none = λ z. omega arith; exact = λ z l. omega arith })
    by false a b q =
        let h = ltb-false 0 c.threshold a in
        rw a (record { below = λ l. omega arith; low = omega arith; high = λ t l. omega arith; none = λ z. omega arith; exact = λ z l. omega arith })

-- a completed cycle: 1 is taken from a level above 0
balance_cycle :
    (c : ThresholdCounter) →
    Balance c.threshold 0 0 (pick (active c) 1 0) c.threshold_cnt (decremented c).threshold_cnt
balance_cycle c = by (active c) refl
  where
    by :
        (a : Bool) →
        active c ≡ a →
        Balance c.threshold 0 0 (pick (active c) 1 0) c.threshold_cnt (decremented c).threshold_cnt
    by true a =
        let h = ltb-true 0 c.threshold_cnt a in
        rw a (record { below = λ l. omega arith; low = omega arith; high = λ t l. omega arith; none = λ z. omega arith; exact = λ z l. omega arith })
    by false a =
        let h = ltb-false 0 c.threshold_cnt a in
        rw a (record { below = λ l. omega arith; low = omega arith; high = λ t l. omega arith; none = λ z. omega arith; exact = λ z l. omega arith })

-- the counter of kind k, from c to c', over a list of marks
pub record Balanced (T : ℕ) (k : CounterKind) (c : ThresholdCounter) (ms : List Mark) (c' : ThresholdCounter) : Type 0 where
  pub kept : c'.threshold ≡ T
  pub balance : Balance T (E k ms) (N k ms) (D k ms) c.threshold_cnt c'.threshold_cnt

-- E, N and D are additive
pub count_append :
    {A : Type 0} (p : A → Bool) (xs ys : List A) → count_of p (xs ++ ys) ≡ count_of p xs + count_of p ys
count_append p [] ys = omega arith
count_append p (x ∷ xs) ys = let h = count_append p xs ys in omega arith

pub balanced_none : (T : ℕ) (k : CounterKind) (c : ThresholdCounter) → c.threshold ≡ T → Balanced T k c [] c
balanced_none T k c h = record { kept = h; balance = balance_none T c.threshold_cnt }

pub balanced_then :
    {T : ℕ} {k : CounterKind} {c c' c'' : ThresholdCounter} {ms ns : List Mark} →
    Balanced T k c ms c' → Balanced T k c' ns c'' → Balanced T k c (ms ++ ns) c''
balanced_then {T} {k} {c} {c'} {c''} {ms} {ns} a b =
    record {
      kept = b.kept;
      balance =
          rw (count_append (is_given k) ms ns, count_append (is_crossed k) ms ns, count_append (is_drained k) ms ns)
          (balance_then T (E k ms) (N k ms) (D k ms) (E k ns) (N k ns) (D k ns) c.threshold_cnt c'.threshold_cnt c''.threshold_cnt a.balance b.balance);
    }

-- what is the same of both choices
chosen : {A B : Type 0} (f : A → B) (b : Bool) {x y : A} {z : B} → f x ≡ z → f y ≡ z → f (pick b x y) ≡ z
chosen f true h i = h
chosen f false h i = i

error_kept : (c : ThresholdCounter) → (after_error c).counter.threshold ≡ c.threshold
unfolding after_error
error_kept c = chosen (λ (r : ThresholdCheck). r.counter.threshold) (reaches (incremented c)) refl refl

-- the marks of an error of kind k: one error, and one crossing where the threshold was reached
error_own :
    (c : ThresholdCounter) (k : CounterKind) (r : Bool) →
    (after_error c).reached ≡ r →
    Balanced c.threshold k c (given k ∷ pick r (crossed k ∷ []) []) (after_error c).counter
error_own c k true r =
    record { kept = error_kept c; balance = rw (eq-eqb (place k) (place k) refl) (rw r at (balance_error c)) }
error_own c k false r =
    record { kept = error_kept c; balance = rw (eq-eqb (place k) (place k) refl) (rw r at (balance_error c)) }

-- the marks of another kind are none of kind k
error_other :
    (c : ThresholdCounter) (j k : CounterKind) →
    same_kind j k ≡ false →
    (r : Bool) →
    Balanced c.threshold k c (given j ∷ pick r (crossed j ∷ []) []) c
error_other c j k q true = record { kept = refl; balance = rw q (balance_none c.threshold c.threshold_cnt) }
error_other c j k q false = record { kept = refl; balance = rw q (balance_none c.threshold c.threshold_cnt) }

counted_counters :
    (j : CounterKind) (s : CnErrorCounters) (e : DllError) →
    (counted_error j s e).counters ≡ replaced j (after_error (counter j s)).counter s
unfolding counted_error
counted_counters j s e = chosen (λ (h : HandledError). h.counters) (after_error (counter j s)).reached refl refl

balanced_counted :
    (j k : CounterKind) (s : CnErrorCounters) (e : DllError) →
    Balanced (threshold_of k s) k (counter k s) (effect_marks (counts j) s) (counter k (counted_error j s e).counters)
balanced_counted j k s e =
    rw (counted_counters, counter_replaced) (by (same_kind j k) refl)
  where
    by :
        (b : Bool) →
        same_kind j k ≡ b →
        Balanced (threshold_of k s) k (counter k s) (effect_marks (counts j) s) (pick (same_kind j k) (after_error (counter j s)).counter (counter k s))
    by true q =
        rw (q, same_kind_lem j k q) (error_own (counter k s) k (after_error (counter k s)).reached refl)
    by false q = rw q (error_other (counter k s) j k q (after_error (counter j s)).reached)

module _ (T : ℕ) (k : CounterKind) (s : CnErrorCounters) (h : threshold_of k s ≡ T) where
  balanced_as :
      (x : Effect) (e : DllError) →
      Balanced T k (counter k s) (effect_marks x s) (counter k (handled_as x s e).counters)
  balanced_as (counts j) e = rw h at (balanced_counted j k s e)
  balanced_as loses_link e =
      rw (counter_of_lem (λ (i : CounterKind). counter i s) (link_lost s).loss_of_link_cumulative k) (balanced_none T k (counter k s) h)
  balanced_as is_logged e = balanced_none T k (counter k s) h
  balanced_as nothing e = balanced_none T k (counter k s) h

  -- handle_error, of any of the 22 errors
  pub balanced_handled : (e : DllError) → Balanced T k (counter k s) (error_marks s e) (counter k (handled s e).counters)
  unfolding handled error_marks
  balanced_handled e = balanced_as (effect e) e

-- how many marks of a completed cycle pass a test: those of the kinds with a level above 0
count_drained :
    (p : Mark → Bool) (s : CnErrorCounters) (ks : List CounterKind) →
    count_of p (drained_of ks s) ≡ count_of (λ (j : CounterKind). both (p (drained j)) (active (counter j s))) ks
count_drained p s [] = refl
count_drained p s (j ∷ ks) =
    count_append p (pick (active (counter j s)) (drained j ∷ []) []) (drained_of ks s) ∙
    cc (by (active (counter j s)) (p (drained j)) refl, count_drained p s ks)
  where
    by : (a b : Bool) → p (drained j) ≡ b → count_of p (pick a (drained j ∷ []) []) ≡ pick (both (p (drained j)) a) 1 0
    by true true h = rw h
    by true false h = rw h
    by false true h = rw h
    by false false h = rw h

-- each kind is drained by a cycle at most once
drains : (q : CounterKind → Bool) (k : CounterKind) → count_of (λ (j : CounterKind). both (same_kind j k) (q j)) counter_kinds ≡ pick (q k) 1 0
drains q Collision = omega arith
drains q LossOfSoc = omega arith
drains q LossOfSoa = omega arith
drains q LossOfPreq = omega arith
drains q SoCJitter = omega arith
drains q Crc = omega arith
drains q HeartbeatTimeout = omega arith

-- a completed cycle leaves the mark of kind k where its level was above 0
cycle_drains : (k : CounterKind) (s : CnErrorCounters) → D k (cycle_marks s) ≡ pick (active (counter k s)) 1 0
unfolding cycle_marks
cycle_drains k s = count_drained (is_drained k) s counter_kinds ∙ drains (λ (j : CounterKind). active (counter j s)) k

module _ (T : ℕ) (k : CounterKind) (s : CnErrorCounters) (h : threshold_of k s ≡ T) where
  -- on_cycle_complete
  pub balanced_completed : Balanced T k (counter k s) (cycle_marks s) (counter k (completed s).counters)
  unfolding completed lowered cycle_marks
  balanced_completed =
      rw (counter_of_lem (λ (i : CounterKind). decremented (counter i s)) s.loss_of_link_cumulative k)
      (record {
        kept = h;
        balance =
            rw (count_drained (is_given k) s counter_kinds, count_drained (is_crossed k) s counter_kinds, cycle_drains k s, ← h)
            (balance_cycle (counter k s));
      })

-- any sequence of the two calls
pub balanced :
    (T : ℕ) (k : CounterKind) (s : CnErrorCounters) →
    threshold_of k s ≡ T →
    (cs : List CounterCall) →
    Balanced T k (counter k s) (marks s cs) (counter k (after s cs))
balanced T k s h [] = balanced_none T k (counter k s) h
balanced T k s h (handle_error e ∷ cs) =
    let b = balanced_handled T k s h e in
    balanced_then b (balanced T k (handled s e).counters b.kept cs)
balanced T k s h (on_cycle_complete ∷ cs) =
    let b = balanced_completed T k s h in
    balanced_then b (balanced T k (completed s).counters b.kept cs)

-- from level 0, with a threshold that 32 bits hold
pub record FromZero (T : ℕ) (k : CounterKind) (ms : List Mark) (L : ℕ) : Type 0 where
  pub below : 0 < T → L < T
  pub low : T * N k ms + L + D k ms ≤ 8 * E k ms
  pub high : 0 < T → 8 * E k ms ≤ (T + 7) * N k ms + L + D k ms
  pub none : T ≡ 0 → N k ms ≡ 0
  pub exact : T ≡ 0 → 8 * E k ms ≤ top → L + D k ms ≡ 8 * E k ms

pub from_zero :
    {T : ℕ} {k : CounterKind} {c c' : ThresholdCounter} {ms : List Mark} →
    T ≤ top → c.threshold_cnt ≡ 0 → Balanced T k c ms c' → FromZero T k ms c'.threshold_cnt
from_zero t z b =
    record {
      below = λ p. b.balance.below (rw z p);
      low = omega (arith, b.balance.low);
      high = λ p. omega (arith, b.balance.high t (rw z p));
      none = b.balance.none;
      exact = λ u h. let g = b.balance.exact u (omega arith) in omega arith;
    }

-- any sequence of the two calls from new counters: of a threshold T above 0, TN + L + D ≤ 8E ≤ (T + 7)N + L + D
pub from_new :
    (t : Thresholds) (k : CounterKind) → threshold_for k t ≤ top → (cs : List CounterCall) →
    FromZero (threshold_for k t) k (marks (new_counters t) cs) (level k (after (new_counters t) cs))
from_new t k h cs =
    from_zero h (ap (λ (c : ThresholdCounter). c.threshold_cnt) (counter_new k t))
    (balanced (threshold_for k t) k (new_counters t) (ap (λ (c : ThresholdCounter). c.threshold) (counter_new k t)) cs)
