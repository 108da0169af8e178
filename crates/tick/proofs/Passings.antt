-- The deadline and the SoC check in words. What they make of the head is by the laws on a head by
-- its parts; the words are beside it.
-- Assumes nothing.
use Prim.Native.Nat.{ℕ, ◌-◌, ◌<◌, ◌≤◌, min}
use mathlib.Core.Path.{◌≡◌, sym, ap, ap₂, subst, ◌∙◌}
use mathlib.Core.Bool.{Bool, true, false}
use mathlib.Core.List.{List}
use lib.Dec.{ltb, leb}
use lib.ListN.{set}
use borrow.Author.Tests.{le-leb, lt-leb}
use Rattle.types.specs.Pick.{pick}
use Rattle.types.specs.declared.frame.error.types.DllErrors.TheVariants as errors
use Rattle.types.specs.declared.frame.cs_state_machine.DllCsEvent.TheVariants.{SocTimeout}
use Rattle.head.specs.declared.state.Deadline.TheVariants.{At, Nothing}
use Rattle.node.specs.Steps.{limit_of}
use Rattle.node.specs.DllErrors.{on_dll_event}
use Rattle.node.specs.Deadline.{with_deadline, rescheduled, within_limit, is_loss, lost, soc_check, at_not_active, sets_basic, times_out, by_deadline}
use Rattle.node.specs.Refines.{plain}
use Rattle.tick.proofs.DeadlineLaws.{lose_ends, lose_goes_on, check_none, check_lost, check_within, none_stands, basic_set, not_passed, passed_idle, passed_check}
use Rattle.head.specs.Places as at
use Rattle.head.specs.Words.{soc_of, od_of, head_of}
use Rattle.head.specs.Written.{deadline_written}
use Rattle.phases.specs.declared.PhaseOutcome.{PhaseOutcome}
use Rattle.tick.specs.TickWords.{unlent, rescheduled_words, within_words, after_loss_words, on_dll_event_words, lost_words, check_words, basic_words, timeout_words, passed_words, deadline_words}
use Rattle.phases.specs.PartsIn.{Turns, outcome_of, TicksIn}

abbrev pub on : PhaseOutcome
on = record { logged = errors.None; ended = false }

-- a lost SoC
module _ (ws q m : List ℕ) (t : ℕ) (d : PhaseOutcome) (ws₁ q' m' : List ℕ) (w : TicksIn ws q m (on_dll_event t (plain (head_of ws) q m) SocTimeout) d ws₁ q' m' (on_dll_event_words ws SocTimeout)) where
  abbrev after : Bool → List ℕ
  after b = after_loss_words b (on_dll_event_words ws SocTimeout) t

  ended : (b : Bool) → d.ended ≡ b → (on_dll_event t (plain (head_of ws) q m) SocTimeout).ended ≡ b
  ended b e = sym w.ticks.ended ∙ e

  pub lost_ends : d.ended ≡ true → TicksIn ws q m (lost (plain (head_of ws) q m) t) d ws₁ q' m' (lost_words ws q m t)
  unfolding lost_words
  lost_ends e =
      record {
        ticks = lose_ends (head_of ws) q m t (outcome_of ws₁ d) q' m' w.ticks e;
        words = w.words ∙ sym (ap after (ended true e));
      }

  pub lost_goes_on :
      d.ended ≡ false → (ws₂ : List ℕ) → Turns ws₁ (λ p. rescheduled p t) ws₂ (rescheduled_words ws₁ t) →
      TicksIn ws q m (lost (plain (head_of ws) q m) t) d ws₂ q' m' (lost_words ws q m t)
  unfolding lost_words
  lost_goes_on e ws₂ k =
      subst (λ (ended : Bool). TicksIn ws q m (lost (plain (head_of ws) q m) t) (record { logged = d.logged; ended = ended }) ws₂ q' m' (lost_words ws q m t)) (sym e)
      (record {
        ticks = lose_goes_on (head_of ws) q m t (outcome_of ws₁ d) q' m' w.ticks e (head_of ws₂) k.becomes;
        words = k.words ∙ ap (λ (l : List ℕ). rescheduled_words l t) w.words ∙ sym (ap after (ended false e));
      })

-- the SoC check
module _ (ws q m : List ℕ) (t : ℕ) (r : PhaseOutcome) where
  abbrev latest : ℕ
  latest = 4611686018427387903

  abbrev late : Bool
  late = ltb (limit_of (od_of ws)) (t - min (soc_of ws).last_soc_reception_time_us latest)

  abbrev checked : Bool → Bool → List ℕ
  checked c late = pick c (pick late (lost_words ws q m t) (within_words ws t)) ws

  pub none_checked : (soc_of ws).soc_timeout_check_active ≡ false → r ≡ on → TicksIn ws q m (soc_check (plain (head_of ws) q m) t) r ws q m (check_words ws q m t)
  unfolding head_of check_words
  none_checked z e =
      record {
        ticks = check_none (head_of ws) q m t z (outcome_of ws r) (ap (outcome_of ws) e);
        words = sym (ap (λ (c : Bool). checked c late) z);
      }

  module _ (z : (soc_of ws).soc_timeout_check_active ≡ true) (b : Bool) (a : b ≡ is_loss (unlent ws) t) (ws' : List ℕ) where
    pub lost_checked :
        b ≡ true → (q' m' : List ℕ) → TicksIn ws q m (lost (plain (head_of ws) q m) t) r ws' q' m' (lost_words ws q m t) →
        TicksIn ws q m (soc_check (plain (head_of ws) q m) t) r ws' q' m' (check_words ws q m t)
    unfolding head_of check_words
    lost_checked y q' m' w =
        record {
          ticks = check_lost (head_of ws) q m t z b a (outcome_of ws' r) y q' m' w.ticks;
          words = w.words ∙ sym (ap₂ checked z (sym a ∙ y));
        }

    pub within_checked :
        b ≡ false → Turns ws (λ p. within_limit p t) ws' (within_words ws t) → r ≡ on →
        TicksIn ws q m (soc_check (plain (head_of ws) q m) t) r ws' q m (check_words ws q m t)
    unfolding head_of check_words
    within_checked y k e =
        record {
          ticks = check_within (head_of ws) q m t z b a (outcome_of ws' r) y (head_of ws') k.becomes (ap (outcome_of ws') e);
          words = k.words ∙ sym (ap₂ checked z (sym a ∙ y));
        }

-- what stands after the heartbeats
module _ (ws q m : List ℕ) (t : ℕ) (r : PhaseOutcome) where
  -- the contract
  abbrev pub PassesIn : List ℕ → List ℕ → List ℕ → Type 0
  PassesIn ws' q' m' =
      TicksIn ws q m (by_deadline (plain (head_of ws) q m) t (soc_of ws).next_tick_us) r ws' q' m' (deadline_words ws q m t (soc_of ws).next_tick_us)

  module _ (z : (soc_of ws).next_tick_us ≡ Nothing) (b : Bool) (a : b ≡ at_not_active (unlent ws)) where
    none_there : (c : Bool) → b ≡ c → deadline_words ws q m t (soc_of ws).next_tick_us ≡ pick c (basic_words ws t) ws
    unfolding deadline_words
    none_there c y = ap (deadline_words ws q m t) z ∙ ap (λ (c : Bool). pick c (basic_words ws t) ws) (sym a ∙ y)

    pub none_passes : b ≡ false → r ≡ on → PassesIn ws q m
    unfolding head_of
    none_passes y e =
        record {
          ticks = none_stands (head_of ws) q m t (outcome_of ws r) z b a y (ap (outcome_of ws) e);
          words = sym (none_there false y);
        }

    pub basic_passes : b ≡ true → (ws' : List ℕ) → Turns ws (λ p. sets_basic p t) ws' (basic_words ws t) → r ≡ on → PassesIn ws' q m
    unfolding head_of
    basic_passes y ws' k e =
        record {
          ticks = basic_set (head_of ws) q m t (outcome_of ws' r) z b a y (head_of ws') k.becomes (ap (outcome_of ws') e);
          words = k.words ∙ sym (none_there true y);
        }

  module _ (d : ℕ) (z : (soc_of ws).next_tick_us ≡ At d) where
    there : (c : Bool) → leb d t ≡ c → deadline_words ws q m t (soc_of ws).next_tick_us ≡ pick c (passed_words (set ws at.due 0) q m t) ws
    unfolding deadline_words
    there c y = ap (deadline_words ws q m t) z ∙ ap (λ (c : Bool). pick c (passed_words (set ws at.due 0) q m t) ws) y

    pub ahead_passes : t < d → r ≡ on → PassesIn ws q m
    unfolding head_of
    ahead_passes y e =
        record {
          ticks = not_passed (head_of ws) q m t (outcome_of ws r) d z y (ap (outcome_of ws) e);
          words = sym (there false (lt-leb d t y));
        }

    module _ (y : d ≤ t) (ws₁ : List ℕ) (k : Turns ws (λ p. with_deadline p Nothing) ws₁ (deadline_written ws Nothing)) (b : Bool) (a : b ≡ at_not_active (unlent ws₁)) (ws' : List ℕ) where
      used_up_lem : (c : Bool) → b ≡ c → deadline_words ws q m t (soc_of ws).next_tick_us ≡ pick c (timeout_words ws₁) (check_words ws₁ q m t)
      unfolding passed_words
      used_up_lem c x =
          there true (le-leb d t y) ∙ ap (λ (l : List ℕ). passed_words l q m t) (sym k.words)
          ∙ ap (λ (c : Bool). pick c (timeout_words ws₁) (check_words ws₁ q m t)) (sym a ∙ x)

      pub idle_passes : b ≡ true → Turns ws₁ times_out ws' (timeout_words ws₁) → r ≡ on → PassesIn ws' q m
      unfolding head_of
      idle_passes x n e =
          record {
            ticks = passed_idle (head_of ws) q m t (outcome_of ws' r) d z y (head_of ws₁) k.becomes b a x (head_of ws') n.becomes (ap (outcome_of ws') e);
            words = n.words ∙ sym (used_up_lem true x);
          }

      pub check_passes :
          b ≡ false → (q' m' : List ℕ) → TicksIn ws₁ q m (soc_check (plain (head_of ws₁) q m) t) r ws' q' m' (check_words ws₁ q m t) → PassesIn ws' q' m'
      unfolding head_of
      check_passes x q' m' w =
          record {
            ticks = passed_check (head_of ws) q m t (outcome_of ws' r) d z y (head_of ws₁) k.becomes b a x q' m' w.ticks;
            words = w.words ∙ sym (used_up_lem false x);
          }
