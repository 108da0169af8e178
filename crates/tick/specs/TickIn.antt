-- The contract of the tick.
-- Assumes nothing.
use Rattle.std.specs.Prelude.{ℕ, ◌≡◌, Bool, true, List, [], ◌∷◌}
use Rattle.types.specs.Pick.{pick, all_of}
use Rattle.types.specs.Errors.{reported}
use Rattle.types.specs.declared.frame.error.types.DllErrors.{DllErrors}
use Rattle.node.specs.Plain.{Plain, Call, Answer, tick_answer, Step}
use Rattle.watched.specs.Watched.{in_time, well_formed, Run, run, watching}
use Rattle.node.specs.Steps.{must, tried, with_earliest, no_run, declines, earliest}
use Rattle.node.specs.Phases.{Ticked}
use Rattle.node.specs.Heartbeats.{checks_heartbeats}
use Rattle.node.specs.Deadline.{by_deadline}
use Rattle.node.specs.Run.{step}
use Rattle.node.specs.InPlace.{answered, unless_refused}
use Rattle.node.specs.Refines.{plain, left, rings, joins_all, Refines}
use Rattle.head.specs.Words.{nmt_of, head_of}
use Rattle.watched.specs.Nodes.{nodes_of, rests, not_before, never, soonest, moment_of}
use Rattle.head.specs.Written.{earliest_written}
use Rattle.watched.specs.declared.nodes.WatchedNode.{WatchedNode}
use Rattle.watched.specs.declared.nodes.Seen.{Seen}
use Rattle.watched.specs.declared.nodes.Seen.TheVariants as seen
use Rattle.std.specs.declared.option.Option.{Option}
use Rattle.std.specs.declared.option.Option.TheVariants.{Some, None}
use Rattle.std.specs.declared.result.Result.{Result}
use Rattle.types.specs.declared.refusals.Refusal.{Refusal}
use Rattle.heartbeats.specs.Words.{refreshed_words}
use Rattle.tick.specs.TickWords.{rest_words, tick_words}

-- heartbeats are not checked, or all nodes rest: none asks for anything
abbrev pub is_still : Bool → ℕ → List WatchedNode → Bool
is_still c t vs = pick c (all_of (rests t) vs) true

-- none where the nodes are not well formed; of nodes that are, whether one asks for something, and
-- then whether none was heard after now
abbrev pub active_of : Bool → ℕ → List WatchedNode → Option Seen
active_of c t vs =
    pick (well_formed vs)
    (Some (pick (is_still c t vs) (seen.Resting (moment_of (soonest never vs))) (seen.Active (all_of (not_before t) vs))))
    None

-- the answer of a tick that is taken: what it logged
abbrev pub tick_says : DllErrors → Answer
tick_says es = tick_answer (reported es)

-- the answer of a tick
abbrev pub tick_said : Result DllErrors Refusal → Answer
tick_said = answered tick_says

-- Of a tick at t on the words ws, the memory q and m and the run r, which answered a and left ws',
-- q', m' and r': head, answer and run are the plain head's; every byte of both memories with the
-- places of both rings, and every word of the head, is known. The lists stand one by one, as the
-- contracts that cite it name them: a record would be made in each of those, and taken apart in
-- each proof.
pub record TickedOn (ws q m : List ℕ) (r : Run) (t : ℕ) (a : Result DllErrors Refusal) (ws' q' m' : List ℕ) (r' : Run) : Type 0 where
  pub refines : Refines (head_of ws) q m (Call.tick t r) (left (head_of ws') (tick_said a)) q' m' r'
  pub rings : rings (head_of ws') q' m' ≡ joins_all (rings (head_of ws) q m) (step (plain (head_of ws) q m) (Call.tick t r)).crossings
  pub words : ws' ≡ unless_refused a ws (earliest_written (tick_words ws q m t (watching r)) (earliest (watching r')))

-- Of a tick on a head and nodes in the words ns, of which the first k are watched: as on their run;
-- and every word of theirs.
pub record TickedIn (ws q m ns : List ℕ) (k t : ℕ) (a : Result DllErrors Refusal) (ws' q' m' ns' : List ℕ) : Type 0 where
  pub on : TickedOn ws q m (run (nodes_of ns) k) t a ws' q' m' (run (nodes_of ns') k)
  pub nodes : ns' ≡ unless_refused a ns (pick (checks_heartbeats (nmt_of ws).current_state) (refreshed_words t k ns) ns)

-- what the plain tick leaves behind its heartbeats, with s as the earliest moment
abbrev pub still_answered : Ticked → Option ℕ → Step
still_answered k s =
    record {
      head = with_earliest k.head s;
      answer = tick_answer k.logged;
      lent = no_run;
      event = k.event;
      marks = k.marks;
      checked = k.checked;
      crossings = k.crossings;
    }

-- The plain tick at t behind its heartbeats, after which s is shown as the earliest moment. Its one
-- test is TimeLimit.
abbrev pub still_step : Plain → ℕ → Option ℕ → Step
still_step p t s =
    tried (must (in_time t) 5 ∷ []) (declines p no_run) (still_answered (by_deadline p t p.soc.next_tick_us) s)

-- Of a tick behind its heartbeats at any time t, with any moment s to show, on the words ws and the
-- memory q and m, which answered a and left ws', q' and m': head and answer are the plain head's;
-- every byte of both memories with the places of both rings, and every word of the head, is known.
-- With the moment of a run of which no node asks for anything it is the tick on that run
-- (`still_on` in proofs/Tickings.antt).
pub record StillTicks (ws q m : List ℕ) (t : ℕ) (s : Option ℕ) (a : Result DllErrors Refusal) (ws' q' m' : List ℕ) : Type 0 where
  pub head : plain (head_of ws') q' m' ≡ (still_step (plain (head_of ws) q m) t s).head
  pub answer : tick_said a ≡ (still_step (plain (head_of ws) q m) t s).answer
  pub rings : rings (head_of ws') q' m' ≡ joins_all (rings (head_of ws) q m) (still_step (plain (head_of ws) q m) t s).crossings
  pub words : ws' ≡ unless_refused a ws (earliest_written (rest_words ws q m t) s)
