-- Examples of the counters alone (RULES 11.4, the sixth and the seventh), computed.
-- Assumes nothing.
use mathlib.Core.Path.{◌≡◌, refl}
use mathlib.Core.Bool.{true, false}
use mathlib.Core.List.{List, [], ◌∷◌}
use Rattle.types.specs.declared.frame.error.types.DllError.TheVariants as error
use Rattle.counters.specs.Counters.{counter, counter_of, replaced, new_counters, same_for_all, incremented, decremented, crossed_answer, unsignalled, after_error, counted_error, handled, lowered, completed}
use Rattle.counters.specs.Marks.{CounterCall, handle_error, on_cycle_complete, after}
use Rattle.counters.specs.declared.counters.CounterKind.TheVariants.{LossOfSoc}
use Rattle.counters.specs.declared.counters.CnErrorCounters.{CnErrorCounters}

-- every threshold is 15
abbrev fifteen : CnErrorCounters
fifteen = new_counters (same_for_all 15)

-- new counters after a lost SoC and then some calls
abbrev lost : List CounterCall → CnErrorCounters
lost cs = after fifteen (handle_error error.LossOfSoc ∷ cs)

-- two SoC losses, one cycle between: 15, crossing
one_between_lem : (incremented (counter LossOfSoc (lost (on_cycle_complete ∷ [])))).threshold_cnt ≡ 15
unfolding replaced after_error counted_error handled lowered completed
one_between_lem = refl

one_between_crosses :
    handled (lost (on_cycle_complete ∷ [])) error.LossOfSoc ≡
    crossed_answer (replaced LossOfSoc (counter_of 2 0 15 1) fifteen) error.LossOfSoc
unfolding replaced after_error counted_error handled lowered completed
one_between_crosses = refl

-- two cycles between: 14, none
two_between_lem :
    handled (lost (on_cycle_complete ∷ on_cycle_complete ∷ [])) error.LossOfSoc ≡
    unsignalled (replaced LossOfSoc (counter_of 2 14 15 0) fifteen)
unfolding replaced after_error counted_error handled lowered completed
two_between_lem = refl

-- both counts stop at 2^32 - 1: a counter one below it, and at it, after an error that crosses
near_the_top : after_error (counter_of 4294967294 8 15 4294967294) ≡ record { counter = counter_of 4294967295 0 15 4294967295; reached = true }
unfolding after_error
near_the_top = refl

at_the_top : after_error (counter_of 4294967295 8 15 4294967295) ≡ record { counter = counter_of 4294967295 0 15 4294967295; reached = true }
unfolding after_error
at_the_top = refl

-- a threshold of 0 never crosses, and its level stops at 2^32 - 1: a level of 4294967290 after an
-- error, and then after a cycle
at_zero : after_error (counter_of 0 4294967290 0 0) ≡ record { counter = counter_of 1 4294967295 0 0; reached = false }
unfolding after_error
at_zero = refl

at_zero_drained : decremented (counter_of 1 4294967295 0 0) ≡ counter_of 1 4294967294 0 0
at_zero_drained = refl
