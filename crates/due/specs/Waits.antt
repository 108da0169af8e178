-- WHO TICKS AT EACH MOMENT THAT `next_due` GIVES, AND NOT IN BETWEEN, MISSES NOTHING (RULES 7.13):
-- what that says of a tick. proofs/Waits.antt shows it of every tick that is taken, on any words,
-- at any time and with any run, from the tick's contract alone (`waits`, and `waits_in` of nodes in
-- words).
-- Assumes nothing.
use Rattle.std.specs.Prelude.{ℕ, ◌<◌, ◌≡◌, List, []}
use Rattle.std.specs.declared.option.Option.{Option}
use Rattle.std.specs.declared.result.Result.TheVariants.{Ok}
use Rattle.types.specs.Errors.{reported}
use Rattle.types.specs.declared.frame.error.types.DllErrors.{DllErrors}
use Rattle.head.specs.Words.{soc_of}
use Rattle.head.specs.Written.{earliest_written}
use Rattle.watched.specs.Watched.{Run, run, watching}
use Rattle.watched.specs.Nodes.{nodes_of}
use Rattle.node.specs.Steps.{earliest}
use Rattle.node.specs.Due.{IsBefore}
use Rattle.due.specs.Moment.{next_due}

-- A tick on the words ws, the memory q and m and the run r, which logged es and left ws', q', m'
-- and r', found nothing to do: nothing is logged, and all is as it was, but for the earliest
-- moment, which is that of the run.
pub record Idle (ws q m : List ℕ) (r : Run) (es : DllErrors) (ws' q' m' : List ℕ) (r' : Run) : Type 0 where
  pub logged : reported es ≡ []
  pub words : ws' ≡ earliest_written ws (earliest (watching r))
  pub queue : q' ≡ q
  pub history : m' ≡ m
  pub run : r' ≡ r

-- the two things that a tick waits for, the deadline and the run, are as they were
pub record SameDeadlineAndRun (ws : List ℕ) (r : Run) (ws' : List ℕ) (r' : Run) : Type 0 where
  pub deadline : (soc_of ws').next_tick_us ≡ (soc_of ws).next_tick_us
  pub run : r' ≡ r

-- Of such a tick at the time t, where d is the moment that `next_due` gave before it.
pub record Waits (d : Option ℕ) (ws q m : List ℕ) (r : Run) (t : ℕ) (es : DllErrors) (ws' q' m' : List ℕ) (r' : Run) : Type 0 where
  -- before the moment it finds nothing to do
  pub before : IsBefore t d → Idle ws q m r es ws' q' m' r'
  -- and behind it `next_due` gives the same moment
  pub stays : IsBefore t d → next_due ws' r' ≡ Ok d
  -- the moment is no earlier than it has to be: a tick from it on, at a time above 0, changes the
  -- deadline or the run
  pub from : 0 < t → SameDeadlineAndRun ws r ws' r' → IsBefore t d

-- the same of nodes in the words ns, of which the first k are watched: before the moment these stay
-- too
pub record WaitsIn (d : Option ℕ) (ws q m ns : List ℕ) (k t : ℕ) (es : DllErrors) (ws' q' m' ns' : List ℕ) : Type 0 where
  pub on : Waits d ws q m (run (nodes_of ns) k) t es ws' q' m' (run (nodes_of ns') k)
  pub nodes : IsBefore t d → ns' ≡ ns
