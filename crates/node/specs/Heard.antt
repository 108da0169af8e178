-- What heard leaves: the plain head's answer, head and run, and of nodes in words every word.
-- Assumes nothing.
use Rattle.std.specs.Prelude.{ℕ, ◌+◌, ◌*◌, ◌≡◌, Bool, List, [], ◌∷◌, set}
use Rattle.watched.specs.Watched.{in_time, watched_of, place_of, Run, run}
use Rattle.watched.specs.Nodes.{nodes_of}
use Rattle.types.specs.declared.refusals.Refusal.TheVariants.{WatchedNodes, TimeLimit, NotWatched}
use Rattle.std.specs.declared.result.Result.{Result}
use Rattle.std.specs.declared.result.Result.TheVariants.{Ok, Err}
use Rattle.types.specs.declared.refusals.Refusal.{Refusal}
use Rattle.node.specs.Steps.{must, tried}
use Rattle.node.specs.Plain.{Call}
use Rattle.node.specs.InPlace.{unless_refused, OnRun}

-- heard's refusals in their order, WatchedNodes, TimeLimit, NotWatched, by what was found of the
-- nodes: whether they are well formed, and whether the node is among them
abbrev pub heard_answer : Bool → ℕ → Bool → Result (Unit {0}) Refusal
heard_answer formed t watched =
    tried (must formed WatchedNodes ∷ must (in_time t) TimeLimit ∷ must watched NotWatched ∷ []) Err (Ok tt)

-- of heard on the words ws and the run r, which answered a and left ws' and r'
abbrev pub HeardOn : List ℕ → Run → ℕ → ℕ → Result (Unit {0}) Refusal → List ℕ → Run → Type 0
HeardOn ws r n t a ws' r' = OnRun ws (Call.heard n t r) a ws' r'

-- one word is written, the last-heard time at the node's place; by a call that is refused none
abbrev pub heard_words : Result (Unit {0}) Refusal → List ℕ → ℕ → ℕ → ℕ → List ℕ
heard_words a ns k n t = unless_refused a ns (set ns (3 * place_of n (watched_of (nodes_of ns) k) + 2) t)

-- of heard on the words ws and nodes in the words ns, of which the first k are watched: as on their
-- run; and every word of theirs
pub record Heard (ws ns : List ℕ) (k n t : ℕ) (a : Result (Unit {0}) Refusal) (ws' ns' : List ℕ) : Type 0 where
  pub on : HeardOn ws (run (nodes_of ns) k) n t a ws' (run (nodes_of ns') k)
  pub nodes : ns' ≡ heard_words a ns k n t
