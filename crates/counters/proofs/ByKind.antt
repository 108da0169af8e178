-- The counters by kind: what stands at a kind where each is given, one is replaced, or all are new; and their thresholds.
-- Assumes nothing.
use Prim.Native.Nat.{ℕ, zero, suc, ◌≤◌}
use mathlib.Core.Path.{◌≡◌, refl, sym, ap, subst, ◌∙◌}
use mathlib.Core.Bool.{Bool, true}
use mathlib.Core.List.{List, [], ◌∷◌}
use borrow.Author.Tests.{eqb-true, leb-true}
use lib.Dec.{leb}
use lib.ListN.{get_or}
use Rattle.types.specs.Pick.{pick, all_of}
use Rattle.types.proofs.Tests.{both_first, both_second}
use Rattle.counters.specs.Counters.{counter_kinds, place, same_kind, of_kind, for_each, counter, by_kind, replaced, new_counter, new_counters, threshold_for, thresholds_fit, Thresholds}
use Rattle.counters.specs.declared.counters.ByKind.{ByKind}
use Rattle.counters.specs.declared.counters.ThresholdCounter.{ThresholdCounter}
use Rattle.counters.specs.declared.counters.CounterKind.{CounterKind}
use Rattle.counters.specs.declared.counters.CounterKind.TheVariants.{Collision, LossOfSoc, LossOfSoa, LossOfPreq, SoCJitter, Crc, HeartbeatTimeout}
use Rattle.counters.specs.declared.counters.CnErrorCounters.{CnErrorCounters}

-- a kind stands at its place, so two kinds with one place are the same
kind_at : (k : CounterKind) → get_or counter_kinds (place k) Collision ≡ k
kind_at Collision = refl
kind_at LossOfSoc = refl
kind_at LossOfSoa = refl
kind_at LossOfPreq = refl
kind_at SoCJitter = refl
kind_at Crc = refl
kind_at HeartbeatTimeout = refl

pub same_kind_lem : (j k : CounterKind) → same_kind j k ≡ true → j ≡ k
same_kind_lem j k h =
    sym (kind_at j) ∙ ap (λ (n : ℕ). get_or counter_kinds n Collision) (eqb-true (place j) (place k) h) ∙ kind_at k

-- what there is for each kind is fixed by that of each
pub from_each : {T : Type 0} (s : ByKind T) (f : CounterKind → T) → ((k : CounterKind) → of_kind k s ≡ f k) → s ≡ for_each f
from_each s f each =
    λ i. record {
      collision = each Collision i;
      loss_of_soc = each LossOfSoc i;
      loss_of_soa = each LossOfSoa i;
      loss_of_preq = each LossOfPreq i;
      soc_jitter = each SoCJitter i;
      crc_errors = each Crc i;
      heartbeat_timeout = each HeartbeatTimeout i;
    }

pub counter_of_lem : (f : CounterKind → ThresholdCounter) (n : ℕ) (k : CounterKind) → counter k (by_kind f n) ≡ f k
counter_of_lem f n Collision = refl
counter_of_lem f n LossOfSoc = refl
counter_of_lem f n LossOfSoa = refl
counter_of_lem f n LossOfPreq = refl
counter_of_lem f n SoCJitter = refl
counter_of_lem f n Crc = refl
counter_of_lem f n HeartbeatTimeout = refl

pub counter_replaced :
    (j k : CounterKind) (c : ThresholdCounter) (s : CnErrorCounters) →
    counter k (replaced j c s) ≡ pick (same_kind j k) c (counter k s)
unfolding replaced
counter_replaced j k c s =
    counter_of_lem (λ (i : CounterKind). pick (same_kind j i) c (counter i s)) s.loss_of_link_cumulative k

pub counter_new : (k : CounterKind) (t : Thresholds) → counter k (new_counters t) ≡ new_counter (threshold_for k t)
counter_new k t = counter_of_lem (λ (i : CounterKind). new_counter (threshold_for i t)) 0 k

-- what every kind passes, each passes
module _ (p : CounterKind → Bool) where
  at : (n : ℕ) (xs : List CounterKind) (x : CounterKind) → all_of p xs ≡ true → p x ≡ true → p (get_or xs n x) ≡ true
  at n [] x h d = d
  at zero (y ∷ ys) x h d = both_first (p y) (all_of p ys) h
  at (suc n) (y ∷ ys) x h d = at n ys x (both_second (p y) (all_of p ys) h) d

  passes : all_of p counter_kinds ≡ true → (k : CounterKind) → p k ≡ true
  passes h k =
      subst (λ (k : CounterKind). p k ≡ true) (kind_at k)
      (at (place k) counter_kinds Collision h (both_first (p Collision) _ h))

-- each of the thresholds that pass is within the limit
pub limited : (t : Thresholds) → thresholds_fit t ≡ true → (k : CounterKind) → threshold_for k t ≤ 1000000
unfolding thresholds_fit
limited t h k = leb-true (threshold_for k t) 1000000 (passes (λ (k : CounterKind). leb (threshold_for k t) 1000000) h k)
