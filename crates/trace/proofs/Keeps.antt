-- What every call keeps, so that a list of calls keeps it, and the claim that follows from it.
-- Assumes nothing.
use Prim.Native.Nat.{ℕ, ◌+◌, ◌≤◌}
use mathlib.Core.Path.{◌≡◌, refl, sym, ap, ap₂, subst, ◌∙◌}
use mathlib.Core.Bool.{Bool, true, false}
use mathlib.Core.List.{List, [], ◌∷◌, ◌++◌}
use native.Mathlib.Omega.{arith}
use lib.ListN.{length, length-append}
use Rattle.types.specs.Pick.{either}
use Rattle.counters.specs.Counters.{counter, new_counter, top, threshold_for, thresholds_fit, Thresholds}
use Rattle.counters.specs.Marks.{is_crossing, count_of, level, E, N}
use Rattle.counters.specs.declared.counters.CounterKind.{CounterKind}
use Rattle.counters.proofs.ByKind.{counter_new, limited}
use Rattle.counters.proofs.Balance.{Balanced, balanced_none, balanced_then, FromZero, from_zero, count_append}
use Rattle.std.specs.declared.option.Option.TheVariants.{None}
use Rattle.head.specs.Head.{Head}
use Rattle.watched.specs.Watched.{watching}
use Rattle.node.specs.Plain.{Plain, Call, Start, Step}
use Rattle.node.specs.Steps.{earliest, fresh, started}
use Rattle.node.specs.Run.{step, step_all, Said, said_all}
use Rattle.node.specs.Refines.{plain}
use Rattle.trace.specs.Tally.{Tally, noted, nothing, tally, dropped_by, loads_counter3}
use Rattle.trace.specs.Claim.{Merge, empty, Each, tallied, Claim}
use Rattle.trace.proofs.Modes.{mode, mode_word, mode_enabled, mode_ready}
use Rattle.trace.proofs.Visits.{enabled_before, word_before}
use Rattle.trace.proofs.Queues.{merge_queued}
use Rattle.trace.proofs.Earliest.{moment_all}
use Rattle.counters.proofs.Counts.{Rises, rises_none, rises_then, Count, occurrence_count, crossing_count}
use Rattle.trace.proofs.Shares.{Shares, shares, rule}

-- of the head p and what was counted since a start at which counter 3 was lost₀ and the thresholds were ts
pub record Kept (lost₀ : ℕ) (ts : Thresholds) (p : Plain) (z : Tally) : Type 0 where
  pub orders : mode p.nmt z.orders ≡ true
  pub balance : (k : CounterKind) → Balanced (threshold_for k ts) k (new_counter (threshold_for k ts)) z.marks (counter k p.errors)
  pub count : (x : Count) (k : CounterKind) → Rises (x.read (new_counter (threshold_for k ts))) (count_of (x.of_kind k) z.marks) (x.read (counter k p.errors))
  pub crossings : length z.crossings ≡ count_of is_crossing z.checked
  pub entries : Merge z.crossings (z.handed ++ p.queue) z.dropped
  pub lost :
      z.loaded ≡ false →
      lost₀ + length z.dropped ≤ top →
      p.od.counter_3 ≡ lost₀ + length z.dropped

pub either_first : (a b : Bool) → either a b ≡ false → a ≡ false
either_first true b h = h
either_first false b h = refl

pub either_second : (a b : Bool) → either a b ≡ false → b ≡ false
either_second true true h = h
either_second true false h = refl
either_second false b h = h

-- a call that does its share keeps it all
pub kept_by_lem :
    (lost₀ : ℕ) (ts : Thresholds) (p : Plain) (z : Tally) (c : Call) (t : Step) →
    Shares p c t →
    Kept lost₀ ts p z →
    Kept lost₀ ts t.head (noted p c t z)
kept_by_lem lost₀ ts p z c t s i =
    record {
      orders = s.orders z.orders i.orders;
      balance = λ k. balanced_then (i.balance k) (s.counts.balance (threshold_for k ts) k (i.balance k).kept);
      count = λ x k. rw (count_append (x.of_kind k) z.marks t.marks) (rises_then (i.count x k) (s.counts.count x k));
      crossings =
          length-append z.crossings t.crossings
          ∙ ap₂ (λ (m n : ℕ). m + n) i.crossings s.crossed
          ∙ sym (count_append is_crossing z.checked t.checked);
      entries = merge_queued z.crossings z.handed z.dropped s.queue i.entries;
      lost =
          λ l b.
          let n = length-append z.dropped (dropped_by p t.crossings) in
          let h = i.lost (either_first z.loaded (loads_counter3 c) l) (omega arith) in
          let g = s.lost (either_second z.loaded (loads_counter3 c) l) (omega arith) in
          omega arith;
    }

-- and so does a list of calls
pub keeps_all :
    (lost₀ : ℕ) (ts : Thresholds) (p : Plain) (z : Tally) (cs : List Call) → Kept lost₀ ts p z → Kept lost₀ ts (step_all p cs) (tally p cs z)
unfolding step_all tally
keeps_all lost₀ ts p z [] i = i
keeps_all lost₀ ts p z (c ∷ cs) i =
    keeps_all lost₀ ts (step p c).head (noted p c (step p c) z) cs (kept_by_lem lost₀ ts p z c (step p c) (shares p c) i)

-- a fresh head
pub starts : (s : Start) → Kept s.od.counter_3 s.thresholds (fresh s) nothing
unfolding fresh
starts s =
    record {
      orders = refl;
      balance = λ k. rw (counter_new k s.thresholds) (balanced_none (threshold_for k s.thresholds) k (new_counter (threshold_for k s.thresholds)) refl);
      count = λ x k. rw (counter_new k s.thresholds) (rises_none (x.read (new_counter (threshold_for k s.thresholds))));
      crossings = refl;
      entries = empty;
      lost = λ l b. omega arith;
    }

pub each : (p : Plain) (cs : List Call) → Each p cs
unfolding Each
each p [] = tt
each p (c ∷ cs) = (rule p c, each (step p c).head cs)

-- the claim, of a head that is as the plain head's list leaves it, and answers that are the plain head's
pub claimed :
    (s : Start) (cs : List Call) (says : List Said) (h : Head) (q m : List ℕ) →
    thresholds_fit s.thresholds ≡ true →
    earliest (watching (started s).lent) ≡ None →
    plain h q m ≡ step_all (fresh s) cs →
    says ≡ said_all (fresh s) cs →
    Claim s cs says h q m
unfolding occurrence_count crossing_count fresh
claimed s cs says h q m limit unheard alike answered =
    let k : Kept s.od.counter_3 s.thresholds (plain h q m) (tallied s cs) =
    subst (λ (p : Plain). Kept s.od.counter_3 s.thresholds p (tallied s cs)) (sym alike)
    (keeps_all s.od.counter_3 s.thresholds (fresh s) nothing cs (starts s))
    in
    record {
      alike = alike;
      answered = answered;
      asked = λ r. enabled_before s cs (sym (ap (λ (p : Plain). p.nmt.current_state) alike) ∙ r);
      enabled = λ r. mode_enabled h.nmt (tallied s cs).orders k.orders r;
      word =
          λ r.
          word_before s cs (sym (ap (λ (p : Plain). p.nmt.current_state) alike) ∙ r)
          (sym (ap (λ (p : Plain). p.nmt.app_ready) alike) ∙ mode_word h.nmt (tallied s cs).orders k.orders
          ∙ (mode_ready h.nmt (tallied s cs).orders k.orders r).1);
      heeded = mode_word h.nmt (tallied s cs).orders k.orders;
      balance =
          λ j.
          let T = threshold_for j s.thresholds in
          let small = limited s.thresholds limit j in
          let z : FromZero T j (tallied s cs).marks (level j h.errors) = from_zero (omega arith) refl (k.balance j) in
          record {
            low = λ p. z.low;
            high = z.high;
            none = z.none;
            most = λ u. omega (arith, z.low);
            exact = z.exact;
          };
      crossed = λ j b. let r : (counter j h.errors).crossings_cnt ≡ 0 + N j (tallied s cs).marks = (k.count crossing_count j).risen b in omega arith;
      occurred = λ j b. let r : (counter j h.errors).cumulative_cnt ≡ 0 + E j (tallied s cs).marks = (k.count occurrence_count j).risen b in omega arith;
      crossings = k.crossings;
      entries = k.entries;
      each = each (fresh s) cs;
      lost = k.lost;
      moment = ap (λ (p : Plain). p.earliest) alike ∙ moment_all (fresh s) cs (started s).lent (sym unheard);
    }
