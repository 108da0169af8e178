-- The place of each word of a head, 0 to 59. A time takes two words, its low one and its high one;
-- the word named is the low one.
-- Assumes nothing.
use Rattle.std.specs.Prelude.{ℕ, ◌+◌, ◌*◌}
use Rattle.counters.specs.Counters.{place}
use Rattle.counters.specs.declared.counters.CounterKind.{CounterKind}
use Rattle.head.specs.declared.state.Object.{Object}
use Rattle.head.specs.declared.state.Object.TheVariants.{CycleTime, Tolerance}
use Rattle.head.specs.declared.state.Statistic.{Statistic}
use Rattle.head.specs.declared.state.Statistic.TheVariants.{Counter1, Counter2, Counter3, Counter5}

-- the NMT state, by its number
abbrev pub state : ℕ
state = 0

-- the node's number
abbrev pub node : ℕ
node = 1

-- the feature flags
abbrev pub flags : ℕ
flags = 2

-- the basic timeout in µs
abbrev pub timeout : ℕ
timeout = 3

-- whether the NMT machine is enabled
abbrev pub enabled : ℕ
enabled = 4

-- whether the application is ready
abbrev pub ready : ℕ
ready = 5

-- the DLL state, by its number
abbrev pub dll : ℕ
dll = 6

-- the counters, four words for each kind: cumulative count, level, threshold, count of crossings
abbrev pub counter : CounterKind → ℕ
counter k = 7 + 4 * place k

-- the count of lost links
abbrev pub links : ℕ
links = 35

-- the time of the last SoC in µs
abbrev pub last_soc : ℕ
last_soc = 36

-- the time of the deadline in µs
abbrev pub deadline : ℕ
deadline = 38

-- whether the SoC check is on
abbrev pub check : ℕ
check = 40

-- whether there is a deadline
abbrev pub due : ℕ
due = 41

-- `error_status_changed`
abbrev pub changed : ℕ
changed = 42

-- the error register
abbrev pub register : ℕ
register = 43

-- whether there is a cycle; its value in µs is in the next word
abbrev pub cycle : ℕ
cycle = 44

-- whether there is a tolerance; its value in ns is in the next word
abbrev pub tolerance : ℕ
tolerance = 46

-- counter 1 of object 0x1102: an error at the SoC check raises it
abbrev pub counter1 : ℕ
counter1 = 48

-- counter 2 of object 0x1102: an entry that joins the queue raises it
abbrev pub counter2 : ℕ
counter2 = 49

-- counter 3 of object 0x1102: an entry that is dropped raises it
abbrev pub counter3 : ℕ
counter3 = 50

-- counter 5 of object 0x1102: a change of the error register by a signal raises it
abbrev pub counter5 : ℕ
counter5 = 51

-- the place of cycle or tolerance
abbrev pub object : Object → ℕ
object CycleTime = cycle
object Tolerance = tolerance

-- the place of a counter of object 0x1102
abbrev pub statistic : Statistic → ℕ
statistic Counter1 = counter1
statistic Counter2 = counter2
statistic Counter3 = counter3
statistic Counter5 = counter5

-- the place of the oldest entry in the queue
abbrev pub oldest : ℕ
oldest = 52

-- how many entries wait in the queue
abbrev pub queued : ℕ
queued = 53

-- how many entries may wait in the queue
abbrev pub capacity : ℕ
capacity = 54

-- the place of the newest entry in the history
abbrev pub newest : ℕ
newest = 55

-- how many entries there are in the history
abbrev pub count : ℕ
count = 56

-- whether there is an earliest moment at which a watched node would be late
abbrev pub awaited : ℕ
awaited = 57

-- the time of the earliest moment in µs
abbrev pub earliest : ℕ
earliest = 58
