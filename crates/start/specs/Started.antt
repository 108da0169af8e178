-- What start leaves of a head and watched nodes in words: the plain start's head or number and run,
-- and every word.
-- Assumes nothing.
use Rattle.std.specs.Prelude.{ℕ, zero, suc, ◌+◌, ◌*◌, ◌≡◌, Bool, false, List, [], ◌∷◌, leb, set, replicate}
use Rattle.types.specs.Types.{node, is_node}
use Rattle.types.specs.Refusals.{refusal_number}
use Rattle.types.specs.declared.types.NodeId.{NodeId}
use Rattle.types.specs.declared.refusals.Refusal.TheVariants.{NodeNumber, QueueCapacity, WatchedNodes, ThresholdLimit}
use Rattle.nmt.specs.Nmt as Nmt
use Rattle.dll.specs.Dll.{fresh_machine}
use Rattle.counters.specs.Counters.{new_counters, thresholds_fit, Thresholds}
use Rattle.entries.specs.Sizes.{queue_places}
use Rattle.entries.specs.Queue.{queue}
use Rattle.entries.specs.History.{error_history}
use Rattle.std.specs.Result.{IfOk}
use Rattle.std.specs.declared.result.Result.{Result}
use Rattle.std.specs.declared.result.Result.TheVariants.{Ok, Err}
use Rattle.std.specs.declared.option.Option.TheVariants.{None}
use Rattle.head.specs.declared.state.Deadline.TheVariants.{Nothing}
use Rattle.types.specs.declared.refusals.Refusal.{Refusal}
use Rattle.head.specs.Head.{Head, soc_watch}
use Rattle.head.specs.Places as at
use Rattle.head.specs.Words.{head_of}
use Rattle.head.specs.Written.{nmt_written, identity_written, thresholds_written, od_written}
use Rattle.watched.specs.Watched.{unheard, Run, run, well_lent, changing}
use Rattle.watched.specs.Nodes.{nodes_of}
use Rattle.node.specs.Plain.{Start, Begun, begins, declined}
use Rattle.node.specs.Steps.{must, tried, started}
use Rattle.node.specs.Refines.{plain}
use Rattle.node.specs.InPlace.{unless_refused}
use Rattle.start.specs.declared.start.Setup.{Setup}

-- what the plain start is given, from start's arguments
abbrev pub start_of : Setup → Run → Start
start_of s r =
    record {
      node = s.node;
      flags = s.feature_flags.0;
      timeout = s.basic_ethernet_timeout;
      capacity = s.queue_capacity;
      od = s.od;
      thresholds = s.thresholds;
      watched = r;
    }

-- what start answers, with the head that its words stand for
abbrev pub begun_by : Result (Unit {0}) Refusal → Head → List ℕ → List ℕ → Begun
begun_by (Ok _) h q m = begins (plain h q m)
begun_by (Err r) h q m = declined (refusal_number r)

-- the places of a head that start gave: queue and history are empty
abbrev pub FreshPlaces : Result (Unit {0}) Refusal → Head → ℕ → Type 0
FreshPlaces a h c = IfOk a (λ _. (h.queue ≡ queue 0 0 c) × (h.history ≡ error_history 0 0))

-- the head that start gives, of a node number and a capacity that were tried
abbrev pub fresh_head : NodeId → ℕ → Setup → Head
fresh_head n c s =
    record {
      nmt = Nmt.new_machine n s.feature_flags s.basic_ethernet_timeout;
      dll = fresh_machine;
      errors = new_counters s.thresholds;
      soc = soc_watch 0 false Nothing false;
      od = s.od;
      queue = queue 0 0 c;
      history = error_history 0 0;
      earliest = None;
    }

-- Of start, whatever stands in the memory that will be lent: the plain start's head or number, and
-- run.
pub record Begins (s : Start) (a : Result (Unit {0}) Refusal) (h : Head) (l : Run) : Type 0 where
  pub begun : (q m : List ℕ) → begun_by a h q m ≡ (started s).begun
  pub lent : l ≡ (started s).lent

-- all 60 words, from the arguments alone: those that no part names are 0
unfoldable pub fresh_words : NodeId → ℕ → Setup → List ℕ
fresh_words n c s =
    let m = Nmt.new_machine n s.feature_flags s.basic_ethernet_timeout in
    set (od_written (thresholds_written (identity_written (nmt_written (replicate 60 0) m) m) (new_counters s.thresholds)) s.od) at.capacity c

-- the last-heard words of the first so many nodes are 0
unfoldable pub unheard_words : ℕ → List ℕ → List ℕ
unheard_words zero ns = ns
unheard_words (suc i) ns = set (unheard_words i ns) (3 * i + 2) 0

-- start's refusals in their order, NodeNumber, QueueCapacity, WatchedNodes, ThresholdLimit, where
-- it is known whether the nodes are well formed
abbrev pub start_answer : ℕ → ℕ → Bool → Thresholds → Result (Unit {0}) Refusal
start_answer n c formed ts =
    tried (must (is_node n) NodeNumber ∷ must (leb c queue_places) QueueCapacity ∷ must formed WatchedNodes ∷ must (thresholds_fit ts) ThresholdLimit ∷ []) Err (Ok tt)

-- the run that start leaves: where it is taken, all watched nodes count as never heard
abbrev pub start_left : Result (Unit {0}) Refusal → Run → Run
start_left a r = unless_refused a r (changing unheard r)

-- Of start on the words ws and the run r, which answered a and left the words ws' and the run r':
-- the plain start's head or number and run, and every word of the head.
pub record StartedOn (ws : List ℕ) (r : Run) (s : Setup) (a : Result (Unit {0}) Refusal) (ws' : List ℕ) (r' : Run) : Type 0 where
  pub begins : Begins (start_of s r) a (head_of ws') r'
  pub places : FreshPlaces a (head_of ws') s.queue_capacity
  pub words : ws' ≡ unless_refused a ws (fresh_words (node s.node) s.queue_capacity s)

-- Of start on the words ws and nodes in the words ns, of which the first k are watched: as on their
-- run; and every word of theirs.
pub record StartedIn (ws ns : List ℕ) (k : ℕ) (s : Setup) (a : Result (Unit {0}) Refusal) (ws' ns' : List ℕ) : Type 0 where
  pub on : StartedOn ws (run (nodes_of ns) k) s a ws' (run (nodes_of ns') k)
  pub nodes : ns' ≡ unless_refused a ns (unheard_words k ns)

-- Of start without the run, whose form it need not know: what it answers, every word of the head,
-- and what start leaves of any run that is well formed, or is not, as was said.
pub record BeginsBy (ws : List ℕ) (s : Setup) (formed : Bool) (a : Result (Unit {0}) Refusal) (ws' : List ℕ) : Type 0 where
  pub answer : a ≡ start_answer s.node s.queue_capacity formed s.thresholds
  pub words : ws' ≡ unless_refused a ws (fresh_words (node s.node) s.queue_capacity s)
  pub on : (r : Run) → formed ≡ well_lent r → (l : Run) → l ≡ start_left a r → StartedOn ws r s a ws' l
