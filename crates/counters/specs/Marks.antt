-- What E, N and D of RULES 10.3 count. Each call on the counters leaves marks, each of a kind; E, N
-- and D count them in a list of marks.
-- Assumes nothing.
use Rattle.std.specs.Prelude.{ℕ, ◌+◌, Bool, true, false, List, [], ◌∷◌, ◌++◌}
use Rattle.types.specs.Pick.{pick}
use Rattle.types.specs.declared.frame.error.types.DllError.{DllError}
use Rattle.counters.specs.Counters.{counter_kinds, same_kind, counter, active, after_error, Effect, counts, loses_link, is_logged, nothing, effect, handled, completed}
use Rattle.counters.specs.declared.counters.CounterKind.{CounterKind}
use Rattle.counters.specs.declared.counters.CnErrorCounters.{CnErrorCounters}

-- the level of a kind's counter
abbrev pub level : CounterKind → CnErrorCounters → ℕ
level k s = (counter k s).threshold_cnt

-- the threshold of a kind's counter
abbrev pub threshold_of : CounterKind → CnErrorCounters → ℕ
threshold_of k s = (counter k s).threshold

-- what a call on the counters does to the counter of a kind
pub data Mark : Type 0 where
  -- an error was given to it
  given : CounterKind → Mark
  -- its level reached its threshold
  crossed : CounterKind → Mark
  -- a completed cycle took 1 from its level
  drained : CounterKind → Mark

-- a mark of the kind k that an error was given to its counter
abbrev pub is_given : CounterKind → Mark → Bool
is_given k (given j) = same_kind j k
is_given k (crossed j) = false
is_given k (drained j) = false

-- a mark of the kind k that its counter reached the threshold
abbrev pub is_crossed : CounterKind → Mark → Bool
is_crossed k (given j) = false
is_crossed k (crossed j) = same_kind j k
is_crossed k (drained j) = false

-- a mark of the kind k that a completed cycle took 1 from its level
abbrev pub is_drained : CounterKind → Mark → Bool
is_drained k (given j) = false
is_drained k (crossed j) = false
is_drained k (drained j) = same_kind j k

-- a crossing, of any kind
abbrev pub is_crossing : Mark → Bool
is_crossing (given j) = false
is_crossing (crossed j) = true
is_crossing (drained j) = false

-- how many items of a list pass a test
abbrev pub count_of : {A : Type 0} → (A → Bool) → List A → ℕ
count_of p [] = 0
count_of p (x ∷ xs) = pick (p x) 1 0 + count_of p xs

-- E: the errors that were given to the counter of kind k
abbrev pub E : CounterKind → List Mark → ℕ
E k ms = count_of (is_given k) ms

-- N: its crossings
abbrev pub N : CounterKind → List Mark → ℕ
N k ms = count_of (is_crossed k) ms

-- D: the completed cycles that took 1 from its level
abbrev pub D : CounterKind → List Mark → ℕ
D k ms = count_of (is_drained k) ms

-- an error with this effect crosses: it reaches the threshold of its kind
abbrev pub effect_crosses : Effect → CnErrorCounters → Bool
effect_crosses (counts k) s = (after_error (counter k s)).reached
effect_crosses loses_link s = false
effect_crosses is_logged s = false
effect_crosses nothing s = false

-- an error, given to these counters, reaches the threshold of its kind
unfoldable pub crosses : CnErrorCounters → DllError → Bool
crosses s e = effect_crosses (effect e) s

-- the marks of an error with this effect: that it was given to the counter of its kind and, where
-- that crossed, the crossing; none where its kind has no counter
abbrev pub effect_marks : Effect → CnErrorCounters → List Mark
effect_marks (counts k) s = given k ∷ pick (after_error (counter k s)).reached (crossed k ∷ []) []
effect_marks loses_link s = []
effect_marks is_logged s = []
effect_marks nothing s = []

-- the marks that an error leaves, when it is given to these counters
unfoldable pub error_marks : CnErrorCounters → DllError → List Mark
error_marks s e = effect_marks (effect e) s

-- the marks of a completed cycle, for some kinds: each of them whose level was above 0
abbrev pub drained_of : List CounterKind → CnErrorCounters → List Mark
drained_of [] s = []
drained_of (k ∷ ks) s = pick (active (counter k s)) (drained k ∷ []) [] ++ drained_of ks s

-- the marks that a completed cycle leaves: each kind whose level was above 0
unfoldable pub cycle_marks : CnErrorCounters → List Mark
cycle_marks s = drained_of counter_kinds s

-- a call on the counters: an error that is given to them, or a completed cycle
pub data CounterCall : Type 0 where
  handle_error : DllError → CounterCall
  on_cycle_complete : CounterCall

-- the counters after a call
abbrev pub called : CnErrorCounters → CounterCall → CnErrorCounters
called s (handle_error e) = (handled s e).counters
called s on_cycle_complete = (completed s).counters

-- the marks that a call leaves
abbrev pub marked : CnErrorCounters → CounterCall → List Mark
marked s (handle_error e) = error_marks s e
marked s on_cycle_complete = cycle_marks s

-- the counters after a list of calls, each on those that the last one left
abbrev pub after : CnErrorCounters → List CounterCall → CnErrorCounters
after s [] = s
after s (c ∷ cs) = after (called s c) cs

-- the marks that a list of calls leaves, in their order
abbrev pub marks : CnErrorCounters → List CounterCall → List Mark
marks s [] = []
marks s (c ∷ cs) = marked s c ++ marks (called s c) cs
