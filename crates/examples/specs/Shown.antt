-- What the program's functions ensure: that words stand for a head of the examples, that a call was
-- compared with what an example states, and that an example came as it is stated.
-- Assumes nothing.
use Rattle.std.specs.Prelude.{ℕ, ◌≡◌, Bool, true, List, [], ◌∷◌, set, replicate}
use Rattle.types.specs.declared.nmt.states.NmtState.{NmtState}
use Rattle.counters.specs.Counters.{new_counters, same_for_all}
use Rattle.entries.specs.Queue.{queue}
use Rattle.entries.specs.History.{error_history}
use Rattle.entries.specs.declared.emergency_queue.EmergencyQueue.{EmergencyQueue}
use Rattle.entries.specs.declared.error_history.ErrorHistory.{ErrorHistory}
use Rattle.head.specs.declared.state.Dictionary.{Dictionary}
use Rattle.head.specs.Head.{Head, of_parts}
use Rattle.head.specs.Places as at
use Rattle.head.specs.Words.{head_of}
use Rattle.head.specs.Written.{nmt_written, identity_written, thresholds_written, od_written}
use Rattle.watched.specs.Watched.{Run, run}
use Rattle.watched.specs.Nodes.{nodes_of}
use Rattle.node.specs.Plain.{Plain, Call, Answer, taken, Step}
use Rattle.node.specs.Steps.{no_run, answers}
use Rattle.node.specs.Run.{step}
use Rattle.node.specs.Refines.{plain, rings, joins_all}
use Rattle.node.specs.Examples.{Coming, Example, machine}
use Rattle.examples.specs.Same.{Exactly}
use Rattle.examples.specs.declared.bench.Bench.{Bench}

-- a head with the parts of a plain one, its queue and its history at these places
abbrev pub placed : Plain → EmergencyQueue → ErrorHistory → Head
placed p o n = of_parts p.nmt (record { state = p.dll }) p.errors p.soc p.od o n p.earliest

-- the words ws stand for p, whatever stands in the memory: queue of 1 and history are empty
pub record Stands (ws : List ℕ) (p : Plain) : Type 0 where
  pub places : head_of ws ≡ placed p (queue 0 0 1) (error_history 0 0)
  pub whole : (q m : List ℕ) → plain (head_of ws) q m ≡ p

-- the words of a head that rests in a state, with these values
unfoldable pub resting_words : NmtState → Bool → Bool → Dictionary → List ℕ
resting_words s enabled ready od =
    set
    (od_written
    (thresholds_written (identity_written (nmt_written (replicate 60 0) (machine s enabled ready)) (machine s enabled ready)) (new_counters (same_for_all 15))) od)
    at.capacity 1

-- A call c on the words ws with the memory q and m left ws', q', m' and the run l, and was compared
-- with the answer a and with a head: what is left is the plain head's, and r is true exactly where
-- the plain head's answer is a and the head that is left is the one stated.
pub record Came (ws q m : List ℕ) (c : Call) (a : Answer) (stated : List ℕ) (ws' q' m' : List ℕ) (l : Run) (r : Bool) : Type 0 where
  pub head : plain (head_of ws') q' m' ≡ (step (plain (head_of ws) q m) c).head
  pub places : rings (head_of ws') q' m' ≡ joins_all (rings (head_of ws) q m) (step (plain (head_of ws) q m) c).crossings
  pub lent : l ≡ (step (plain (head_of ws) q m) c).lent
  pub tells : Exactly r (((step (plain (head_of ws) q m) c).answer ≡ a) × (head_of ws' ≡ head_of stated))

-- the last step of some, behind the step s
abbrev last_of : Step → List Coming → Step
last_of s [] = s
last_of s (x ∷ xs) = last_of x.all xs

-- the last step that an example states
abbrev pub last : Example → Step
last e = last_of (answers e.before taken no_run) e.after

-- An example came as it is stated: what is left stands for the head and the run that it states
-- last, and all that was compared was the same.
pub record Shown (e : Example) (ws q m : List ℕ) (l : Run) (r : Bool) : Type 0 where
  pub head : plain (head_of ws) q m ≡ (last e).head
  pub lent : l ≡ (last e).lent
  pub same : r ≡ true

-- the same by what an example of ticks ran on, and how many of its nodes are watched
abbrev pub ShownOn : Example → Bench → ℕ → Bool → Type 0
ShownOn e b k r = Shown e b.head b.queue b.history (run (nodes_of b.nodes) k) r
