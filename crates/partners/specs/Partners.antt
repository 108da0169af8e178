-- Heartbeat partners arrive and leave (RULES 8.4): what add and remove answer by their tests, and
-- what they leave.
-- Assumes nothing.
use Rattle.std.specs.Prelude.{ℕ, ◌≡◌, Bool, not, List, [], ◌∷◌, ltb}
use Rattle.types.specs.Pick.{both}
use Rattle.types.specs.declared.refusals.Refusal.TheVariants.{NodeNumber, WatchedNodes, NotWatched, AllWatched, AlreadyWatched}
use Rattle.watched.specs.declared.nodes.WatchedNode.{WatchedNode}
use Rattle.watched.specs.Watched.{in_time, Run, run, watched_places}
use Rattle.watched.specs.Nodes.{nodes_of}
use Rattle.std.specs.declared.result.Result.{Result}
use Rattle.std.specs.declared.result.Result.TheVariants.{Ok, Err}
use Rattle.types.specs.declared.refusals.Refusal.{Refusal}
use Rattle.node.specs.Plain.{Call}
use Rattle.node.specs.Steps.{must, tried, added, removed}
use Rattle.node.specs.InPlace.{unless_refused, OnRun}

-- an add's refusals in their order, NodeNumber, WatchedNodes, AlreadyWatched, AllWatched, by what
-- was found: whether n is a node's number, whether the run is well formed, the timeout o, whether
-- the node is watched, and how many nodes are
abbrev pub add_answer : Bool → Bool → ℕ → Bool → ℕ → Result (Unit {0}) Refusal
add_answer known formed o watched k =
    tried
    (must known NodeNumber ∷ must (both formed (in_time o)) WatchedNodes ∷ must (not watched) AlreadyWatched ∷ must (ltb k watched_places) AllWatched ∷ [])
    Err (Ok tt)

-- a removal's refusals in their order, WatchedNodes, NotWatched, by what was found: whether the run
-- is well formed, and whether the node is watched
abbrev pub remove_answer : Bool → Bool → Result (Unit {0}) Refusal
remove_answer formed watched = tried (must formed WatchedNodes ∷ must watched NotWatched ∷ []) Err (Ok tt)

-- of an add of n with the timeout o, on the words ws and the run r, which answered a and left ws'
-- and r'
abbrev pub AddedOn : List ℕ → Run → ℕ → ℕ → Result (Unit {0}) Refusal → List ℕ → Run → Type 0
AddedOn ws r n o a ws' r' = OnRun ws (Call.add n o r) a ws' r'

-- of a removal of n, on the words ws and the run r, which answered a and left ws' and r'
abbrev pub RemovedOn : List ℕ → Run → ℕ → Result (Unit {0}) Refusal → List ℕ → Run → Type 0
RemovedOn ws r n a ws' r' = OnRun ws (Call.remove n r) a ws' r'

-- the words of nodes, three a node
abbrev pub words_of : List WatchedNode → List ℕ
words_of [] = []
words_of (v ∷ vs) = v.node ∷ v.timeout ∷ v.last_heard ∷ words_of vs

-- Of an add on the words ws and nodes in the words ns, of which the first k are watched: as on
-- their run; and every word of theirs, those of all 32 places of the run that is left; by an add
-- that is refused none is written.
pub record Added (ws ns : List ℕ) (k n o : ℕ) (a : Result (Unit {0}) Refusal) (ws' ns' : List ℕ) (k' : ℕ) : Type 0 where
  pub on : AddedOn ws (run (nodes_of ns) k) n o a ws' (run (nodes_of ns') k')
  pub nodes : ns' ≡ unless_refused a ns (words_of (added n o (run (nodes_of ns) k)).places)

-- Of a removal of n on the words ws and nodes in the words ns, of which the first k are watched: as
-- on their run, and every word of theirs, as of an add.
pub record Removed (ws ns : List ℕ) (k n : ℕ) (a : Result (Unit {0}) Refusal) (ws' ns' : List ℕ) (k' : ℕ) : Type 0 where
  pub on : RemovedOn ws (run (nodes_of ns) k) n a ws' (run (nodes_of ns') k')
  pub nodes : ns' ≡ unless_refused a ns (words_of (removed n (run (nodes_of ns) k)).places)
