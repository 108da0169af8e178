-- What holds after any list of calls behind a start that was taken (RULES 10): `Claim`, with a
-- field for each rule.
-- Assumes nothing.
use Rattle.std.specs.Prelude.{ℕ, ◌+◌, ◌*◌, ◌<◌, ◌≤◌, ◌≡◌, false, List, [], ◌∷◌, ◌++◌, length}
use Rattle.types.specs.declared.nmt.states.NmtState.TheVariants.{NmtPreOperational2, NmtReadyToOperate}
use Rattle.counters.specs.Counters.{counter, top, threshold_for, error_weight}
use Rattle.counters.specs.Marks.{Mark, level, is_crossing, count_of, E, N, D}
use Rattle.counters.specs.declared.counters.CounterKind.{CounterKind}
use Rattle.entries.specs.declared.status_response.ErrorEntry.{ErrorEntry}
use Rattle.std.specs.declared.option.Option.TheVariants.{None}
use Rattle.head.specs.Head.{Head}
use Rattle.watched.specs.Watched.{watching}
use Rattle.node.specs.Plain.{Plain, Call, hand_out, Start, hand_out_answer}
use Rattle.node.specs.Steps.{earliest, fresh}
use Rattle.node.specs.Run.{step, step_all, Said, said_all}
use Rattle.node.specs.Refines.{plain}
use Rattle.trace.specs.Tally.{Tally, handed_by, dropped_by, nothing, tally}
use Rattle.trace.specs.Visits.{Enabled, ReadyWord}
use Rattle.trace.specs.Earliest.{run_after}

-- The first list is made of the other two: every item of theirs stands in it once, in the order of
-- its list, and nothing else does.
pub data Merge : List ErrorEntry → List ErrorEntry → List ErrorEntry → Type 0 where
  empty : Merge [] [] []
  -- the next item is that of the second list
  left : {e : ErrorEntry} {x y z : List ErrorEntry} → Merge x y z → Merge (e ∷ x) (e ∷ y) z
  -- the next item is that of the third list
  right : {e : ErrorEntry} {x y z : List ErrorEntry} → Merge x y z → Merge (e ∷ x) y (e ∷ z)

-- What one call does to an emergency queue in which n entries may wait (RULES 10.4). The five lists
-- are: what waited before it, the entry of a crossing, the entry handed out, the entry dropped, and
-- what waits after it, oldest first. Each of the three in the middle has one entry or none.
pub data Queued (n : ℕ) : List ErrorEntry → List ErrorEntry → List ErrorEntry → List ErrorEntry → List ErrorEntry → Type 0 where
  -- nothing joins and nothing leaves
  still : {q : List ErrorEntry} → Queued n q [] [] [] q
  -- an entry joins: fewer than n waited
  kept : {q : List ErrorEntry} {e : ErrorEntry} → length q < n → Queued n q (e ∷ []) [] [] (q ++ (e ∷ []))
  -- an entry is dropped: the queue was full
  dropped : {q : List ErrorEntry} {e : ErrorEntry} → n ≤ length q → Queued n q (e ∷ []) [] (e ∷ []) q
  -- the oldest is handed out
  handed : {q : List ErrorEntry} {e : ErrorEntry} → Queued n (e ∷ q) [] (e ∷ []) [] q

-- what a call c on the head p does to the queue (RULES 10.4)
pub record Rule (p : Plain) (c : Call) : Type 0 where
  -- a crossing's entry is dropped where the queue was full, and joins where it was not
  pub queue :
      Queued p.capacity p.queue (step p c).crossings (handed_by (step p c).answer) (dropped_by p (step p c).crossings)
      (step p c).head.queue
  -- a hand-out answers none exactly where the queue was empty
  pub none :
      c ≡ hand_out →
      ((step p c).answer ≡ hand_out_answer None → p.queue ≡ []) × (p.queue ≡ [] → (step p c).answer ≡ hand_out_answer None)

-- so it is at each call of a list, on the head that the calls before it left
unfoldable pub Each : Plain → List Call → Type 0
Each p [] = Unit {0}
Each p (c ∷ cs) = Rule p c × Each (step p c).head cs

-- The counter of a kind k with the threshold T (RULES 10.3), over some calls that left the marks
-- ms, and its level L after them: `E` counts the errors, `N` the crossings and `D` the completed
-- cycles that took 1 from the level. An error adds 8 to the level, and a crossing clears it.
pub record Balance (T : ℕ) (k : CounterKind) (ms : List Mark) (L : ℕ) : Type 0 where
  -- a crossing clears a level of at least T
  pub low : 0 < T → T * N k ms + L + D k ms ≤ error_weight * E k ms
  -- and of at most T + 7: without the last error it was below T
  pub high : 0 < T → error_weight * E k ms ≤ (T + 7) * N k ms + L + D k ms
  -- a threshold of 0 never crosses
  pub none : T ≡ 0 → N k ms ≡ 0
  -- an error adds at most 8, for the level stops at its top of 2^32 − 1
  pub most : T ≡ 0 → L + D k ms ≤ error_weight * E k ms
  -- and exactly 8 while 8 × E is no more than that
  pub exact : T ≡ 0 → error_weight * E k ms ≤ top → L + D k ms ≡ error_weight * E k ms

-- what is counted of the calls cs behind the start s
abbrev pub tallied : Start → List Call → Tally
tallied s cs = tally (fresh s) cs nothing

-- THE CLAIM, of a start s that was taken and the calls cs behind it: `says` is what each call
-- answered and which run of watched nodes it left, h is the head after them, and q and m are the
-- bytes of its queue and its history.
pub record Claim (s : Start) (cs : List Call) (says : List Said) (h : Head) (q m : List ℕ) : Type 0 where
  -- RULES 10.1: head, queue and history are those of the plain head after these calls
  pub alike : plain h q m ≡ step_all (fresh s) cs
  -- and so is what the calls answered, with the runs that they left
  pub answered : says ≡ said_all (fresh s) cs
  -- RULES 10.2: at ReadyToOperate, an enable (EnableReadyToOperate) or StartNode came in the visit
  -- to PreOperational2 just before
  pub asked : h.nmt.current_state ≡ NmtReadyToOperate → Enabled (fresh s) cs
  -- in PreOperational2 the head is enabled exactly where one came in this visit
  pub enabled : h.nmt.current_state ≡ NmtPreOperational2 → h.nmt.ready_to_operate_enabled ≡ (tallied s cs).orders.asked
  -- at ReadyToOperate, a ready word (CnConfigurationComplete) counted since the last reset, and no
  -- withdrawal was taken behind it
  pub word : h.nmt.current_state ≡ NmtReadyToOperate → ReadyWord (fresh s) cs
  -- in every state the head's ready flag is what the last word or withdrawal that counted since the
  -- last reset says: off where none did. Before the first reset it is on until a withdrawal is
  -- taken.
  pub heeded : h.nmt.app_ready ≡ (tallied s cs).orders.word
  -- RULES 10.3: level, errors, crossings and completed cycles of each kind, with the threshold that
  -- start was given
  pub balance : (k : CounterKind) → Balance (threshold_for k s.thresholds) k (tallied s cs).marks (level k h.errors)
  -- N is the head's own count of the kind's crossings, while that is below its top of 2^32 − 1
  pub crossed :
      (k : CounterKind) →
      (counter k h.errors).crossings_cnt < top →
      (counter k h.errors).crossings_cnt ≡ N k (tallied s cs).marks
  -- and E is its own count of the kind's errors, while that is below its top
  pub occurred :
      (k : CounterKind) →
      (counter k h.errors).cumulative_cnt < top →
      (counter k h.errors).cumulative_cnt ≡ E k (tallied s cs).marks
  -- RULES 10.4: there is one entry for each crossing of the errors of SoC checks and of frames
  pub crossings : length (tallied s cs).crossings ≡ count_of is_crossing (tallied s cs).checked
  -- these entries are the ones that were handed out, the ones that wait and the ones that were
  -- dropped, each once: the kept ones in their order, and the dropped ones in theirs
  pub entries : Merge (tallied s cs).crossings ((tallied s cs).handed ++ (plain h q m).queue) (tallied s cs).dropped
  -- at each call an entry is dropped exactly where the queue is full, and none handed out exactly
  -- where it is empty
  pub each : Each (fresh s) cs
  -- RULES 10.5: counter 3 rose by the number of dropped entries, where no load set it and it did
  -- not pass its top of 2^32 − 1, behind which it goes on from 0
  pub lost :
      (tallied s cs).loaded ≡ false →
      s.od.counter_3 + length (tallied s cs).dropped ≤ top →
      h.od.counter_3 ≡ s.od.counter_3 + length (tallied s cs).dropped
  -- RULES 10.6: the earliest moment is that of the run which the last taken start, tick, heard, add
  -- or removal left
  pub moment : h.earliest ≡ earliest (watching (run_after s cs))
