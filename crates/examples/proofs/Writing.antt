-- The words of the table's heads, computed: they stand for those heads.
-- Assumes nothing.
use Prim.Native.Nat.{ℕ}
use mathlib.Core.Path.{◌≡◌, refl, ap, ◌∙◌}
use mathlib.Core.Bool.{Bool, true, false}
use mathlib.Core.List.{List, []}
use lib.ListN.{length, set, replicate}
use Rattle.types.specs.States.{read_state}
use Rattle.types.specs.declared.nmt.states.NmtState.{NmtState}
use Rattle.types.specs.declared.nmt.states.NmtState.TheVariants.{NmtOperational, NmtPreOperational1}
use Rattle.counters.specs.Counters.{counter_of}
use Rattle.counters.specs.declared.counters.CounterKind.TheVariants.{LossOfSoc, HeartbeatTimeout}
use Rattle.entries.specs.Ring.{listed}
use Rattle.entries.specs.Queue.{queue, waiting}
use Rattle.entries.specs.History.{error_history, history}
use Rattle.std.specs.declared.option.Option.TheVariants.{Some}
use Rattle.head.specs.declared.state.Deadline.TheVariants.{At, Nothing}
use Rattle.head.specs.Head.{Head, soc_watch, head_with_earliest}
use Rattle.head.specs.Places as at
use Rattle.head.specs.Words.{head_of}
use Rattle.head.specs.Written.{counter_written, soc_written, queue_written, history_written, earliest_written}
use Rattle.head.proofs.Laws.{state_back, yes_one, time_back, earliest_written_lem}
use Rattle.node.specs.Plain.{Plain}
use Rattle.node.specs.Steps.{plain_of}
use Rattle.node.specs.Refines.{plain}
use Rattle.watched.specs.Watched.{run}
use Rattle.watched.specs.Nodes.{nodes_of}
use Rattle.node.specs.Examples.{values, counters_of, resting, counting, cycling, crossing_tick, no_nodes, watching_one, awaiting}
use Rattle.examples.specs.Shown.{placed, Stands, resting_words}

-- an empty queue and an empty history are empty whatever the memory
pub stands :
    (ws : List ℕ) (p : Plain) →
    head_of ws ≡ placed p (queue 0 0 1) (error_history 0 0) →
    1 ≡ p.capacity → [] ≡ p.queue → [] ≡ p.history →
    Stands ws p
unfolding waiting history listed
stands ws p e c o n =
    record {
      places = e;
      whole =
          λ q m.
          ap (λ (h : Head). plain h q m) e ∙ (λ i. plain_of p.nmt p.dll p.errors p.soc p.od (c i) (o i) (n i) p.earliest);
    }

pub resting_stands : (s : NmtState) (enabled ready : Bool) (ws : List ℕ) → ws ≡ resting_words s enabled ready (values 0 0 0 0 0) → Stands ws (resting s enabled ready)
unfolding head_of resting_words
resting_stands s enabled ready ws e =
    stands ws (resting s enabled ready)
    (ap head_of e ∙ (λ i. placed (resting (state_back s i) (yes_one enabled i) (yes_one ready i)) (queue 0 0 1) (error_history 0 0))) refl refl refl

pub counting_stands :
    (a x b c d : ℕ) (ws : List ℕ) →
    ws ≡ counter_written (counter_written (resting_words NmtOperational false true (values 0 0 0 0 0)) LossOfSoc (counter_of a b 15 x)) HeartbeatTimeout (counter_of c d 15 0) →
    Stands ws (counting (counters_of a x b c d))
unfolding head_of resting_words read_state
counting_stands a x b c d ws e = stands ws (counting (counters_of a x b c d)) (ap head_of e) refl refl refl

-- a head that counts, with the moment at which a watched node would be late
pub awaiting_stands :
    (t c d : ℕ) (ws : List ℕ) → length ws ≡ 60 → Stands ws (counting (counters_of 0 0 0 c d)) → (ws' : List ℕ) → ws' ≡ earliest_written ws (Some t) →
    Stands ws' (awaiting t (counters_of 0 0 0 c d))
awaiting_stands t c d ws long s ws' e =
    stands ws' (awaiting t (counters_of 0 0 0 c d))
    (ap head_of e ∙ earliest_written_lem ws long (Some t) ∙ ap (λ (h : Head). head_with_earliest h (Some t)) s.places) refl refl refl

pub cycling_stands :
    (deadline level lost : ℕ) (ws : List ℕ) →
    ws ≡
    counter_written (soc_written (set (resting_words NmtOperational false true (values 0 lost 0 0 0)) at.dll 1) (soc_watch 10000 true (At deadline) false)) LossOfSoc
    (counter_of lost level 15 0) →
    Stands ws (cycling deadline level lost)
unfolding head_of resting_words read_state
cycling_stands deadline level lost ws e =
    stands ws (cycling deadline level lost)
    (ap head_of e ∙ (λ i. placed (cycling (time_back deadline i) level lost) (queue 0 0 1) (error_history 0 0))) refl refl refl

pub crossed_placed :
    (ws : List ℕ) →
    ws ≡
    history_written
    (queue_written
    (counter_written (soc_written (set (resting_words NmtPreOperational1 false true (values 1 2 1 0 1)) at.dll 1) (soc_watch 10000 false Nothing true)) LossOfSoc
    (counter_of 2 0 15 1))
    (queue 0 1 1))
    (error_history 253 1) →
    head_of ws ≡ placed crossing_tick.all.head (queue 0 1 1) (error_history 253 1)
unfolding head_of resting_words read_state
crossed_placed ws e = ap head_of e

pub watching_written :
    (t : ℕ) (ns : List ℕ) → ns ≡ set (set (set (replicate 96 0) 0 5) 1 50) 2 t → run (nodes_of ns) 1 ≡ watching_one t
unfolding nodes_of listed
watching_written t ns e = ap (λ (l : List ℕ). run (nodes_of l) 1) e

pub none_watched : (ns : List ℕ) → ns ≡ replicate 96 0 → run (nodes_of ns) 0 ≡ no_nodes
unfolding nodes_of listed
none_watched ns e = ap (λ (l : List ℕ). run (nodes_of l) 0) e
