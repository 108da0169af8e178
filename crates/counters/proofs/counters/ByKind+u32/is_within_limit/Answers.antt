-- `counters::counters::ByKind<u32>::is_within_limit` meets its contract: each of the seven passes the test.
-- Assumes nothing.
use Rattle.std.proofs.Common.{rules, tests, map, ◌&&◌, ◌≡◌, ℕ, List, [], ◌∷◌, Bool, true, false}
use mathlib.Core.Path.{refl, ◌∙◌}
use lib.Dec.{leb}
use Rattle.std.specs.List.{list_all}
use Rattle.std.proofs.lemmas.Iterator.{YieldsList-from_slice}
use Rattle.std.proofs.lemmas.Iterator.Search.{all_from_yields_List}
use Rattle.types.specs.Pick.{both, all_of}
use Rattle.counters.specs.Counters.{counter_kinds, threshold_for, Thresholds, thresholds_fit}
use Rattle.counters.specs.declared.counters.CounterKind.{CounterKind}
use Rattle.counters.proofs.counters.ByKind+u32.is_within_limit.Goals as goal

abbrev within : ℕ → Bool
within n = leb n 1000000

by_both : (a : Bool) {b c : Bool} → b ≡ c → (a && b) ≡ both a c
by_both true e = e
by_both false e = refl

of_kinds : (t : Thresholds) (ks : List CounterKind) → list_all within (map (λ k. threshold_for k t) ks) ≡ all_of (λ k. within (threshold_for k t)) ks
of_kinds t [] = refl
of_kinds t (k ∷ ks) = by_both (within (threshold_for k t)) (of_kinds t ks)

pub returns : goal.returns
unfolding thresholds_fit
returns c =
    all_from_yields_List within _ _ _ c.all.ensures.ran (YieldsList-from_slice (map (λ k. threshold_for k c.args.self) counter_kinds) (c.iter.ensures.rest ∙ c.each.ensures)) (λ x b q k. search (rules, tests)) ∙
    of_kinds c.args.self counter_kinds
