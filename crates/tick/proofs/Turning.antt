-- The steps of the tick that make one head of another, in words: a claim about what is written is
-- computed on words written out one by one.
-- Assumes nothing.
use Prim.Native.Nat.{ℕ, ◌+◌, ◌%◌, ◌<◌, ◌≤◌, min}
use mathlib.Core.Path.{◌≡◌, refl, sym, ap, ap₂, ◌∙◌}
use mathlib.Core.Bool.{Bool, true, false}
use mathlib.Core.List.{List}
use lib.Dec.{ltb}
use lib.ListN.{length, set}
use borrow.Author.Tests.{lt-ltb, le-ltb}
use Rattle.types.specs.Pick.{pick, both}
use Rattle.types.specs.declared.nmt.events.NmtEvent.TheVariants.{Timeout}
use Rattle.entries.specs.Queue.{queue}
use Rattle.entries.specs.History.{error_history}
use Rattle.head.specs.declared.state.Deadline.{Deadline}
use Rattle.head.specs.declared.state.Deadline.TheVariants.{At, Nothing}
use Rattle.head.specs.declared.state.Statistic.TheVariants.{Counter1}
use Rattle.head.specs.Head.{Head, soc_watch, of_parts, head_with_soc}
use Rattle.node.specs.Steps.{with_soc, cycle_of, limit_of}
use Rattle.node.specs.Phases.{check_off, event_in_tick, one_more}
use Rattle.node.specs.DllErrors.{statistics, counter1}
use Rattle.node.specs.Deadline.{with_deadline, next_deadline, rescheduled, within_limit, sets_basic, times_out}
use Rattle.tick.proofs.DeadlineLaws.{resched_on, resched_off, within_none, within_ahead, within_late, basic_on, basic_none, timed_out_lem, never_out}
use Rattle.head.specs.Places as at
use Rattle.head.specs.Words.{word, time_of, soc_of, od_of, head_of}
use Rattle.head.specs.Written.{deadline_written}
use Rattle.head.proofs.Whole.{whole}
use Rattle.head.proofs.Laws.{time_back, statistic_written}
use Rattle.phases.specs.PartWords.{event_words}
use Rattle.tick.specs.TickWords.{unlent, rescheduled_words, limit_at, within_words, basic_words, timeout_words}
use Rattle.phases.specs.PartsIn.{Turns}
use Rattle.phases.proofs.Turns.{turned}

abbrev OffRead : List ℕ → Type 0
OffRead ws = head_of (set ws at.check 0) ≡ head_with_soc (head_of ws) (check_off (soc_of ws))

abbrev with_due : Head → Deadline → Head
with_due h d =
    head_with_soc h (soc_watch h.soc.last_soc_reception_time_us h.soc.soc_timeout_check_active d h.soc.error_status_changed)

abbrev DueRead : ℕ → ℕ → List ℕ → Type 0
DueRead a b ws = head_of (set (set (set ws at.due 1) at.deadline a) (at.deadline + 1) b) ≡ with_due (head_of ws) (At (time_of a b))

abbrev NotDueRead : List ℕ → Type 0
NotDueRead ws = head_of (set ws at.due 0) ≡ with_due (head_of ws) Nothing

-- an entry's words: counter 2, the places of the queue and those of the history
abbrev EntryRead : ℕ → ℕ → ℕ → ℕ → ℕ → List ℕ → Type 0
EntryRead n o l a b ws =
    head_of (set (set (set (set (set ws at.counter2 n) at.oldest o) at.queued l) at.newest a) at.count b)
    ≡ of_parts (head_of ws).nmt (head_of ws).dll (head_of ws).errors (head_of ws).soc
    (statistics (od_of ws) (od_of ws).counter_1 n (od_of ws).counter_3) (queue (o % 256) (l % 256) (word ws at.capacity % 256)) (error_history (a % 256) (b % 256)) (head_of ws).earliest

module _ (ws : List ℕ) (long : length ws ≡ 60) where
  off_read : OffRead ws
  unfolding head_of
  off_read = whole OffRead ws long refl

  due_read : (a b : ℕ) → DueRead a b ws
  unfolding head_of
  due_read a b = whole (DueRead a b) ws long refl

  not_due_read : NotDueRead ws
  unfolding head_of
  not_due_read = whole NotDueRead ws long refl

  pub entry_read : (n o l a b : ℕ) → EntryRead n o l a b ws
  unfolding head_of
  entry_read n o l a b = whole (EntryRead n o l a b) ws long refl

  due_written : (d : Deadline) → head_of (deadline_written ws d) ≡ with_due (head_of ws) d
  due_written (At t) = due_read _ _ ∙ ap (λ (t : ℕ). with_due (head_of ws) (At t)) (time_back t)
  due_written Nothing = not_due_read

  module _ (ws' : List ℕ) where
    pub off_turns : ws' ≡ set ws at.check 0 → Turns ws (λ p. with_soc p (check_off p.soc)) ws' (set ws at.check 0)
    unfolding head_of
    off_turns w =
        turned ws (λ p. with_soc p (check_off p.soc)) _ (set ws at.check 0) _ ws' (λ q m. refl, record { queue = refl; history = refl }) off_read refl w

    pub due_turns : (d : Deadline) → ws' ≡ deadline_written ws d → Turns ws (λ p. with_deadline p d) ws' (deadline_written ws d)
    unfolding head_of
    due_turns d w =
        turned ws (λ p. with_deadline p d) _ (deadline_written ws d) _ ws' (λ q m. refl, record { queue = refl; history = refl }) (due_written d) refl w

    pub counter1_turns : ws' ≡ set ws at.counter1 (one_more (word ws at.counter1)) → Turns ws counter1 ws' (set ws at.counter1 (one_more (word ws at.counter1)))
    unfolding head_of
    counter1_turns w =
        turned ws counter1 _ (set ws at.counter1 (one_more (word ws at.counter1))) _ ws' (λ q m. refl, record { queue = refl; history = refl }) (statistic_written ws long Counter1 _) refl w

-- the next deadline
module _ (ws : List ℕ) (t y : ℕ) (b : y ≡ cycle_of (od_of ws)) (ws' : List ℕ) where
  abbrev latest : ℕ
  latest = 4611686018427387903

  cycles : (c : Bool) → ltb 0 y ≡ c → ltb 0 (cycle_of (od_of ws)) ≡ c
  cycles c e = ap (ltb 0) (sym b) ∙ e

  pub goes_to :
      0 < y → (n : ℕ) → n ≡ next_deadline (unlent ws) t → Turns ws (λ p. with_deadline p (At n)) ws' (deadline_written ws (At n)) →
      Turns ws (λ p. rescheduled p t) ws' (rescheduled_words ws t)
  unfolding head_of rescheduled_words
  goes_to z n e k =
      record {
        becomes = resched_on (head_of ws) t y b (head_of ws') z n e k.becomes;
        words =
            k.words ∙ ap (λ (n : ℕ). deadline_written ws (At n)) e
            ∙ sym (ap (λ (c : Bool). pick c (deadline_written ws (At (next_deadline (unlent ws) t))) (set ws at.check 0)) (cycles true (lt-ltb 0 y z)));
      }

  pub goes_off :
      y ≤ 0 → Turns ws (λ p. with_soc p (check_off p.soc)) ws' (set ws at.check 0) →
      Turns ws (λ p. rescheduled p t) ws' (rescheduled_words ws t)
  unfolding head_of rescheduled_words
  goes_off z k =
      record {
        becomes = resched_off (head_of ws) t y b (head_of ws') z k.becomes;
        words =
            k.words
            ∙ sym (ap (λ (c : Bool). pick c (deadline_written ws (At (next_deadline (unlent ws) t))) (set ws at.check 0)) (cycles false (le-ltb 0 y z)));
      }

  abbrev chosen : Bool → List ℕ
  chosen c = pick c (deadline_written ws (At (limit_at ws))) (rescheduled_words ws t)

  pub in_none : y ≤ 0 → Turns ws (λ p. rescheduled p t) ws' (rescheduled_words ws t) → Turns ws (λ p. within_limit p t) ws' (within_words ws t)
  unfolding head_of within_words
  in_none z k =
      record {
        becomes = within_none (head_of ws) t y b (head_of ws') z k.becomes;
        words = k.words ∙ sym (ap (λ (c : Bool). chosen (both c (ltb t (limit_at ws)))) (cycles false (le-ltb 0 y z)));
      }

  module _ (z : 0 < y) (l n : ℕ) (a : l ≡ min (soc_of ws).last_soc_reception_time_us latest) (d : n ≡ limit_of (od_of ws)) where
    at_limit_lem : l + n ≡ limit_at ws
    unfolding head_of
    at_limit_lem = ap₂ ◌+◌ a d

    tests : (c : Bool) → ltb t (l + n) ≡ c → both (ltb 0 (cycle_of (od_of ws))) (ltb t (limit_at ws)) ≡ c
    tests c e = ap₂ both (cycles true (lt-ltb 0 y z)) (ap (ltb t) (sym at_limit_lem) ∙ e)

    pub in_ahead :
        t < l + n → Turns ws (λ p. with_deadline p (At (l + n))) ws' (deadline_written ws (At (l + n))) →
        Turns ws (λ p. within_limit p t) ws' (within_words ws t)
    unfolding head_of within_words
    in_ahead w k =
        record {
          becomes = within_ahead (head_of ws) t y b (head_of ws') z l n a d w k.becomes;
          words = k.words ∙ ap (λ (n : ℕ). deadline_written ws (At n)) at_limit_lem ∙ sym (ap chosen (tests true (lt-ltb t (l + n) w)));
        }

    pub in_late : l + n ≤ t → Turns ws (λ p. rescheduled p t) ws' (rescheduled_words ws t) → Turns ws (λ p. within_limit p t) ws' (within_words ws t)
    unfolding head_of within_words
    in_late w k =
        record {
          becomes = within_late (head_of ws) t y b (head_of ws') z l n a d w k.becomes;
          words = k.words ∙ sym (ap chosen (tests false (le-ltb t (l + n) w)));
        }

-- NotActive
module _ (ws : List ℕ) (t n : ℕ) (e : n ≡ word ws at.timeout) where
  times : (c : Bool) → ltb 0 n ≡ c → ltb 0 (word ws at.timeout) ≡ c
  times c x = ap (ltb 0) (sym e) ∙ x

  abbrev basics : Bool → List ℕ
  basics c = pick c (deadline_written ws (At (t + word ws at.timeout))) ws

  pub basic_due :
      0 < n → (ws' : List ℕ) → Turns ws (λ p. with_deadline p (At (t + n))) ws' (deadline_written ws (At (t + n))) →
      Turns ws (λ p. sets_basic p t) ws' (basic_words ws t)
  unfolding head_of basic_words
  basic_due z ws' k =
      record {
        becomes = basic_on (head_of ws) (head_of ws') t n e z k.becomes;
        words = k.words ∙ ap (λ (n : ℕ). deadline_written ws (At (t + n))) e ∙ sym (ap basics (times true (lt-ltb 0 n z)));
      }

  pub basic_not : n ≤ 0 → Turns ws (λ p. sets_basic p t) ws (basic_words ws t)
  unfolding head_of basic_words
  basic_not z =
      record { becomes = basic_none (head_of ws) (head_of ws) t n e z; words = sym (ap basics (times false (le-ltb 0 n z))) }

  pub out : 0 < n → (ws' : List ℕ) → Turns ws (λ p. event_in_tick p Timeout) ws' (event_words ws Timeout) → Turns ws times_out ws' (timeout_words ws)
  unfolding head_of timeout_words
  out z ws' k =
      record {
        becomes = timed_out_lem (head_of ws) (head_of ws') t n e z k.becomes;
        words = k.words ∙ sym (ap (λ (c : Bool). pick c (event_words ws Timeout) ws) (times true (lt-ltb 0 n z)));
      }

  pub never : n ≤ 0 → Turns ws times_out ws (timeout_words ws)
  unfolding head_of timeout_words
  never z =
      record {
        becomes = never_out (head_of ws) (head_of ws) t n e z;
        words = sym (ap (λ (c : Bool). pick c (event_words ws Timeout) ws) (times false (le-ltb 0 n z)));
      }
