-- What is printed of the counters.
-- Assumes nothing.
use Rattle.std.specs.Prelude.{ℕ, List, map}
use Rattle.counters.specs.Counters.{counter_kinds, counter}
use Rattle.counters.specs.declared.counters.CounterKind.{CounterKind}
use Rattle.counters.specs.declared.counters.CnErrorCounters.{CnErrorCounters}

-- the level of each of the seven kinds
abbrev pub levels_of : CnErrorCounters → List ℕ
levels_of s = map (λ (k : CounterKind). (counter k s).threshold_cnt) counter_kinds

-- the cumulative count of each
abbrev pub counts_of : CnErrorCounters → List ℕ
counts_of s = map (λ (k : CounterKind). (counter k s).cumulative_cnt) counter_kinds

-- the crossings of each
abbrev pub crossings_of : CnErrorCounters → List ℕ
crossings_of s = map (λ (k : CounterKind). (counter k s).crossings_cnt) counter_kinds
