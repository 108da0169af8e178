-- The errors of the SoC check in words: an entry that joins, one error, and the walk. What they
-- make of the head is by the laws on a head by its parts; the words are beside it.
-- Assumes nothing.
use Prim.Native.Nat.{ℕ, ◌%◌, ◌<◌}
use mathlib.Core.Path.{◌≡◌, refl, sym, ap, ap₂, subst, ◌∙◌}
use mathlib.Core.Bool.{Bool, true, false}
use mathlib.Core.List.{List, [], ◌∷◌}
use native.Mathlib.Omega.{arith}
use lib.ListN.{length, set}
use Rattle.types.specs.Pick.{pick, all_of}
use Rattle.types.proofs.Tests.{both_first, both_second}
use Rattle.types.specs.declared.frame.error.types.DllError.{DllError}
use Rattle.types.specs.declared.frame.error.types.DllErrors.TheVariants as errors
use Rattle.counters.specs.Counters.{effect, handled, HandledError, replied}
use Rattle.entries.specs.Entry.{FitsBytes, crossing_entry}
use Rattle.entries.specs.Queue.{queue, has_room, pushed, pushed_bytes}
use Rattle.entries.specs.History.{error_history, joined, joined_bytes}
use Rattle.entries.specs.declared.status_response.ErrorEntry.{ErrorEntry}
use Rattle.entries.specs.Queue.{Pushed}
use Rattle.entries.specs.declared.error_history.ErrorHistory.{ErrorHistory}
use Rattle.entries.proofs.Lists.{pushed_capacity}
use Rattle.head.specs.Head.{Head, with_statistic, of_parts, head_with_errors, head_with_od}
use Rattle.node.specs.Steps.{with_errors}
use Rattle.node.specs.Phases.{acts, one_more, signalled}
use Rattle.node.specs.DllErrors.{statistics, counter1, queued, on_dll_error, on_dll_errors}
use Rattle.node.specs.Refines.{plain, Becomes, rings, joins}
use Rattle.head.specs.declared.state.Statistic.TheVariants.{Counter3}
use Rattle.head.proofs.Laws.{statistic_written}
use Rattle.phases.specs.Parts.{is_quiet}
use Rattle.tick.proofs.TickLaws as tick
use Rattle.tick.proofs.TickLaws.{entry_kept, entry_dropped, on_dll_error_signalled, on_dll_error_unsignalled}
use Rattle.head.specs.Places as at
use Rattle.head.specs.Words.{word, errors_of, od_of, queue_of, history_of, head_of}
use Rattle.head.specs.Written.{queue_written, history_written}
use Rattle.node.specs.InPlace.{effect_words}
use Rattle.counters.specs.declared.counters.ErrorTaken.{ErrorTaken}
use Rattle.node.proofs.Refining.{picked}
use Rattle.phases.proofs.Handled.{handled_written, ending, signals, logs}
use Rattle.phases.specs.declared.PhaseOutcome.{PhaseOutcome}
use Rattle.phases.specs.PartWords.{signal_words, finished_words, ends_by}
use Rattle.tick.specs.TickWords.{count2, entry_words, counted_words, on_dll_error_words, on_dll_errors_words}
use Rattle.phases.specs.PartsIn.{Turns, outcome_of, FinishesIn, TicksIn}
use Rattle.tick.proofs.Turning.{counter1_turns, entry_read}

-- the entry of a crossing
module _ (ws : List ℕ) (long : length ws ≡ 60) where
  abbrev P : Pushed
  P = pushed (queue_of ws)

  abbrev K : ErrorHistory
  K = joined (history_of ws)

  abbrev joined_head : ℕ → Pushed → ErrorHistory → Head
  joined_head n p k =
      of_parts (head_of ws).nmt (head_of ws).dll (head_of ws).errors (head_of ws).soc
      (statistics (od_of ws) (od_of ws).counter_1 n (od_of ws).counter_3) p.queue k (head_of ws).earliest

  joined_written : head_of (history_written (queue_written (count2 ws) P.queue) K) ≡ joined_head (one_more (word ws at.counter2)) P K
  unfolding pushed joined
  joined_written =
      let a : P.queue.oldest < 256 = picked (λ (p : Pushed). p.queue.oldest < 256) (has_room (queue_of ws)) _ _ (omega arith) (omega arith) in
      let b : P.queue.length < 256 = picked (λ (p : Pushed). p.queue.length < 256) (has_room (queue_of ws)) _ _ (omega arith) (omega arith) in
      let o : P.queue.oldest % 256 ≡ P.queue.oldest = omega arith in
      let l : P.queue.length % 256 ≡ P.queue.length = omega arith in
      let c : P.queue.capacity ≡ word ws at.capacity % 256 = pushed_capacity [] (queue_of ws) in
      let x : K.newest % 256 ≡ K.newest = omega arith in
      let y : K.count % 256 ≡ K.count = omega arith in
      entry_read ws long _ _ _ _ _
      ∙ (λ i.
      of_parts (head_of ws).nmt (head_of ws).dll (head_of ws).errors (head_of ws).soc
      (statistics (od_of ws) (od_of ws).counter_1 (one_more (word ws at.counter2)) (od_of ws).counter_3) (queue (o i) (l i) (sym c i)) (error_history (x i) (y i)) (head_of ws).earliest)

  module _ (q m q' : List ℕ) (e : ErrorEntry) (p : Pushed) (a : p ≡ P) (b : q' ≡ pushed_bytes q (queue_of ws) e) where
    -- the contract
    abbrev EntersIn : List ℕ → List ℕ → Type 0
    EntersIn ws' m' =
        (plain (head_of ws') q' m' ≡ queued (plain (head_of ws) q m) e)
        × (rings (head_of ws') q' m' ≡ joins (rings (head_of ws) q m) e)
        × (ws' ≡ entry_words ws)

    keeps : (c : Bool) → p.kept ≡ c → P.kept ≡ c
    keeps c y = sym (ap (λ (p : Pushed). p.kept) a) ∙ y

    abbrev entered : Bool → List ℕ
    entered c = pick c (history_written (queue_written (count2 ws) P.queue) K) (set ws at.counter3 (one_more (word ws at.counter3)))

    pub enters :
        length q ≡ 640 →
        length m ≡ 5080 →
        FitsBytes e →
        p.kept ≡ true →
        (k : ErrorHistory) (m' : List ℕ) →
        (k ≡ K) × (m' ≡ joined_bytes m (history_of ws) e) →
        (ws' : List ℕ) →
        ws' ≡ history_written (queue_written (count2 ws) p.queue) k →
        EntersIn ws' m'
    unfolding head_of entry_words
    enters lq lm f y k m' j ws' w =
        let to : ws' ≡ history_written (queue_written (count2 ws) P.queue) K =
        w ∙ (λ i. history_written (queue_written (count2 ws) (a i).queue) (j.0 i)) in
        let h : head_of ws' ≡ joined_head (one_more (word ws at.counter2)) p k =
        ap head_of to ∙ joined_written ∙ (λ i. joined_head (one_more (word ws at.counter2)) (sym a i) (sym j.0 i)) in
        let x = entry_kept (head_of ws) q m q' e p a b lq lm f y k m' j (one_more (word ws at.counter2)) refl in
        let z : (plain (head_of ws') q' m' ≡ queued (plain (head_of ws) q m) e) × (rings (head_of ws') q' m' ≡ joins (rings (head_of ws) q m) e) =
        subst (λ (g : Head). (plain g q' m' ≡ queued (plain (head_of ws) q m) e) × (rings g q' m' ≡ joins (rings (head_of ws) q m) e)) (sym h) x in
        (z.0, z.1, to ∙ sym (ap entered (keeps true y)))

    pub drops :
        length q ≡ 640 →
        p.kept ≡ false →
        (ws' : List ℕ) →
        ws' ≡ set ws at.counter3 (one_more (word ws at.counter3)) →
        EntersIn ws' m
    unfolding head_of entry_words
    drops lq y ws' w =
        let h : head_of ws' ≡ head_with_od (head_of ws) (with_statistic Counter3 (one_more (word ws at.counter3)) (head_of ws).od) =
        ap head_of w ∙ statistic_written ws long Counter3 _ in
        let x = entry_dropped (head_of ws) q m q' e p a b lq y (one_more (word ws at.counter3)) refl in
        let z : (plain (head_of ws') q' m ≡ queued (plain (head_of ws) q m) e) × (rings (head_of ws') q' m ≡ joins (rings (head_of ws) q m) e) =
        subst (λ (g : Head). (plain g q' m ≡ queued (plain (head_of ws) q m) e) × (rings g q' m ≡ joins (rings (head_of ws) q m) e)) (sym h) x in
        (z.0, z.1, w ∙ sym (ap entered (keeps false y)))

-- one error of the SoC check
module _ (ws : List ℕ) (long : length ws ≡ 60) (q m : List ℕ) (e : DllError) (t : ℕ) (quiet : is_quiet e ≡ true) (r : ErrorTaken) (same : r ≡ replied (handled (errors_of ws) e)) (ws₁ : List ℕ) (there : ws₁ ≡ effect_words ws (effect e)) (long₁ : length ws₁ ≡ 60) (ws₂ : List ℕ) (count : ws₂ ≡ set ws₁ at.counter1 (one_more (word ws₁ at.counter1))) (a : Bool) (z : a ≡ acts r.action) (f : PhaseOutcome) (ws' : List ℕ) where
  abbrev R : HandledError
  R = handled (errors_of ws) e

  raised : head_of ws₁ ≡ head_with_errors (head_of ws) R.counters
  raised = handled_written ws e long ws₁ there

  counts : Becomes (head_of ws) (λ p. with_errors (counter1 p) R.counters) (head_of ws₂)
  counts =
      let k = (counter1_turns ws₁ long₁ ws₂ count).becomes in (
        λ q m. k.0 q m ∙ ap (λ (h : Head). counter1 (plain h q m)) raised,
        record { queue = k.1.queue ∙ ap (λ (h : Head). h.queue) raised; history = k.1.history ∙ ap (λ (h : Head). h.history) raised },
      )

  counted : ws₂ ≡ counted_words ws e
  unfolding counted_words
  counted = count ∙ ap (λ (l : List ℕ). set l at.counter1 (one_more (word l at.counter1))) there

  ended : a ≡ ends_by ws e
  ended = ending ws e r same a z

  abbrev ahead : Bool → List ℕ
  ahead b = pick b (entry_words (signal_words (counted_words ws e))) (counted_words ws e)

  pub on_dll_error_quiet : r.signal ≡ false → FinishesIn ws₂ r.logged a f ws' → TicksIn ws q m (on_dll_error t (plain (head_of ws) q m) e) f ws' q m (on_dll_error_words ws e)
  unfolding head_of on_dll_error_words
  on_dll_error_quiet s k =
      record {
        ticks =
            on_dll_error_unsignalled (head_of ws) q m e t quiet R refl (head_of ws₂) counts a ended (outcome_of ws' f) (signals ws e r same false s) (logs ws e r same a (outcome_of ws' f) (head_of ws₂) k.finishes);
        words = k.words ∙ ap₂ finished_words ended (counted ∙ sym (ap ahead (signals ws e r same false s)));
      }

  pub on_dll_error_loud :
      r.signal ≡ true →
      (ws₃ : List ℕ) →
      Turns ws₂ signalled ws₃ (signal_words ws₂) →
      (ws₄ q' m' : List ℕ) →
      (plain (head_of ws₄) q' m' ≡ queued (plain (head_of ws₃) q m) (crossing_entry e t))
      × (rings (head_of ws₄) q' m' ≡ joins (rings (head_of ws₃) q m) (crossing_entry e t))
      × (ws₄ ≡ entry_words ws₃) →
      FinishesIn ws₄ r.logged a f ws' →
      TicksIn ws q m (on_dll_error t (plain (head_of ws) q m) e) f ws' q' m' (on_dll_error_words ws e)
  unfolding head_of on_dll_error_words
  on_dll_error_loud s ws₃ u ws₄ q' m' v k =
      record {
        ticks =
            on_dll_error_signalled (head_of ws) q m e t quiet R refl (head_of ws₂) counts a ended (outcome_of ws' f) (signals ws e r same true s) (head_of ws₃) u.becomes
            (head_of ws₄) q' m' (v.0, v.1) (logs ws e r same a (outcome_of ws' f) (head_of ws₄) k.finishes);
        words =
            k.words
            ∙ ap₂ finished_words ended
            (v.2 ∙ ap entry_words (u.words ∙ ap signal_words counted) ∙ sym (ap ahead (signals ws e r same true s)));
      }

-- the walk, with the words
pub walk_none : (t : ℕ) (ws q m : List ℕ) → TicksIn ws q m (on_dll_errors t (plain (head_of ws) q m) []) (record { logged = errors.None; ended = false }) ws q m (on_dll_errors_words ws [])
unfolding on_dll_errors_words
walk_none t ws q m = record { ticks = tick.walk_none t (head_of ws) q m; words = refl }

module _ (t : ℕ) (ws q m : List ℕ) (e : DllError) (r : PhaseOutcome) (ws' q' m' : List ℕ) (k : TicksIn ws q m (on_dll_error t (plain (head_of ws) q m) e) r ws' q' m' (on_dll_error_words ws e)) where
  ends : r.ended ≡ ends_by ws e
  unfolding head_of on_dll_error
  ends = k.ticks.ended

  abbrev further : List DllError → Bool → List ℕ
  further es c = pick c (on_dll_error_words ws e) (on_dll_errors_words (on_dll_error_words ws e) es)

  goes : (es : List DllError) (c : Bool) → r.ended ≡ c → on_dll_errors_words ws (e ∷ es) ≡ further es c
  unfolding on_dll_errors_words
  goes es c y = ap (further es) (sym ends ∙ y)

  pub walk_stops : (es : List DllError) → r.ended ≡ true → TicksIn ws q m (on_dll_errors t (plain (head_of ws) q m) (e ∷ es)) r ws' q' m' (on_dll_errors_words ws (e ∷ es))
  walk_stops es y =
      record { ticks = tick.walk_stops t (head_of ws) q m e (outcome_of ws' r) q' m' k.ticks es y; words = k.words ∙ sym (goes es true y) }

  pub walk_goes_on :
      is_quiet e ≡ true →
      r.ended ≡ false →
      (es : List DllError) (r' : PhaseOutcome) (ws'' q'' m'' : List ℕ) →
      TicksIn ws' q' m' (on_dll_errors t (plain (head_of ws') q' m') es) r' ws'' q'' m'' (on_dll_errors_words ws' es) →
      TicksIn ws q m (on_dll_errors t (plain (head_of ws) q m) (e ∷ es)) r' ws'' q'' m'' (on_dll_errors_words ws (e ∷ es))
  walk_goes_on c y es r' ws'' q'' m'' w =
      record {
        ticks = tick.walk_goes_on t (head_of ws) q m e (outcome_of ws' r) q' m' k.ticks c y es (outcome_of ws'' r') q'' m'' w.ticks;
        words = w.words ∙ ap (λ (l : List ℕ). on_dll_errors_words l es) k.words ∙ sym (goes es false y);
      }

  pub walk_last : TicksIn ws q m (on_dll_errors t (plain (head_of ws) q m) (e ∷ [])) r ws' q' m' (on_dll_errors_words ws (e ∷ []))
  unfolding on_dll_errors_words
  walk_last =
      record { ticks = tick.walk_last t (head_of ws) q m e (outcome_of ws' r) q' m' k.ticks; words = k.words ∙ sym (by r.ended refl) }
    where
      by : (b : Bool) → r.ended ≡ b → on_dll_errors_words ws (e ∷ []) ≡ on_dll_error_words ws e
      by true y = goes [] true y
      by false y = goes [] false y

-- The walk over the errors es₀, from the words ws₀ and the memory q₀ and m₀: it stands at the words
-- ws and the memory q and m, none of the errors that it passed ended the tick, and the errors es
-- are left. What comes of those comes of all; where none is left, what the last one left does.
pub record DllErrorWalkIn (t : ℕ) (ws₀ q₀ m₀ : List ℕ) (es₀ : List DllError) (ws q m : List ℕ) (d : PhaseOutcome) (es : List DllError) : Type 0 where
  pub quiet : all_of is_quiet es ≡ true
  pub leads :
      (r : PhaseOutcome) (ws' q' m' : List ℕ) →
      TicksIn ws q m (on_dll_errors t (plain (head_of ws) q m) es) r ws' q' m' (on_dll_errors_words ws es) →
      TicksIn ws₀ q₀ m₀ (on_dll_errors t (plain (head_of ws₀) q₀ m₀) es₀) r ws' q' m' (on_dll_errors_words ws₀ es₀)
  pub ends : es ≡ [] → TicksIn ws₀ q₀ m₀ (on_dll_errors t (plain (head_of ws₀) q₀ m₀) es₀) d ws q m (on_dll_errors_words ws₀ es₀)

pub walk_begins :
    (t : ℕ) (ws q m : List ℕ) (es : List DllError) → all_of is_quiet es ≡ true →
    DllErrorWalkIn t ws q m es ws q m (record { logged = errors.None; ended = false }) es
walk_begins t ws q m es h =
    record {
      quiet = h;
      leads = λ r ws' q' m' w. w;
      ends = λ e. subst (λ (es : List DllError). TicksIn ws q m (on_dll_errors t (plain (head_of ws) q m) es) (record { logged = errors.None; ended = false }) ws q m (on_dll_errors_words ws es)) (sym e) (walk_none t ws q m);
    }

module _ (t : ℕ) (ws₀ q₀ m₀ : List ℕ) (es₀ : List DllError) (ws q m : List ℕ) (d : PhaseOutcome) (e : DllError) (es : List DllError) (k : DllErrorWalkIn t ws₀ q₀ m₀ es₀ ws q m d (e ∷ es)) where
  pub first_quiet : is_quiet e ≡ true
  first_quiet = both_first (is_quiet e) (all_of is_quiet es) k.quiet

  module _ (r : PhaseOutcome) (ws' q' m' : List ℕ) (w : TicksIn ws q m (on_dll_error t (plain (head_of ws) q m) e) r ws' q' m' (on_dll_error_words ws e)) where
    pub walk_left : r.ended ≡ true → TicksIn ws₀ q₀ m₀ (on_dll_errors t (plain (head_of ws₀) q₀ m₀) es₀) r ws' q' m' (on_dll_errors_words ws₀ es₀)
    walk_left y = k.leads r ws' q' m' (walk_stops t ws q m e r ws' q' m' w es y)

    pub walk_on : r.ended ≡ false → DllErrorWalkIn t ws₀ q₀ m₀ es₀ ws' q' m' r es
    walk_on y =
        record {
          quiet = both_second (is_quiet e) (all_of is_quiet es) k.quiet;
          leads = λ r' ws'' q'' m'' z. k.leads r' ws'' q'' m'' (walk_goes_on t ws q m e r ws' q' m' w first_quiet y es r' ws'' q'' m'' z);
          ends =
              λ x.
              k.leads r ws' q' m'
              (subst (λ (es : List DllError). TicksIn ws q m (on_dll_errors t (plain (head_of ws) q m) (e ∷ es)) r ws' q' m' (on_dll_errors_words ws (e ∷ es))) (sym x)
              (walk_last t ws q m e r ws' q' m' w));
        }
