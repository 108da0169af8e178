-- The error counters of a controlled node (RULES 6.1 to 6.6): what errors and completed cycles make
-- of them, and what they answer.
-- Assumes nothing.
use Rattle.std.specs.Prelude.{ℕ, ◌+◌, ◌-◌, min, Bool, true, false, not, List, [], ◌∷◌, eqb, leb, ltb}
use Rattle.types.specs.Pick.{pick, both, all_of, any_of}
use Rattle.types.specs.declared.frame.error.types.DllError.{DllError}
use Rattle.types.specs.declared.frame.error.types.DllError.TheVariants as error
use Rattle.types.specs.declared.frame.error.types.DllErrors.{DllErrors}
use Rattle.types.specs.declared.frame.error.types.DllErrors.TheVariants as errors
use Rattle.types.specs.declared.frame.error.types.NmtAction.{NmtAction}
use Rattle.types.specs.declared.frame.error.types.NmtAction.TheVariants as action
use Rattle.counters.specs.declared.counters.ThresholdCounter.{ThresholdCounter}
use Rattle.counters.specs.declared.counters.CounterKind.{CounterKind}
use Rattle.counters.specs.declared.counters.CounterKind.TheVariants.{Collision, LossOfSoc, LossOfSoa, LossOfPreq, SoCJitter, Crc, HeartbeatTimeout}
use Rattle.counters.specs.declared.counters.CnErrorCounters.{CnErrorCounters}
use Rattle.counters.specs.declared.counters.ByKind.{ByKind}
use Rattle.counters.specs.declared.counters.ErrorTaken.{ErrorTaken}
use Rattle.counters.specs.declared.counters.ErrorEffect.{ErrorEffect}
use Rattle.counters.specs.declared.counters.ErrorEffect.TheVariants as an-effect

-- the seven kinds that have a counter, in the order in which thresholds are given
abbrev pub counter_kinds : List CounterKind
counter_kinds = Collision ∷ LossOfSoc ∷ LossOfSoa ∷ LossOfPreq ∷ SoCJitter ∷ Crc ∷ HeartbeatTimeout ∷ []

-- a kind's place among the seven, from 0
abbrev pub place : CounterKind → ℕ
place Collision = 0
place LossOfSoc = 1
place LossOfSoa = 2
place LossOfPreq = 3
place SoCJitter = 4
place Crc = 5
place HeartbeatTimeout = 6

-- two kinds are the same
abbrev pub same_kind : CounterKind → CounterKind → Bool
same_kind j k = eqb (place j) (place k)

-- the value of a kind, among values for each kind
abbrev pub of_kind : {T : Type 0} → CounterKind → ByKind T → T
of_kind Collision s = s.collision
of_kind LossOfSoc s = s.loss_of_soc
of_kind LossOfSoa s = s.loss_of_soa
of_kind LossOfPreq s = s.loss_of_preq
of_kind SoCJitter s = s.soc_jitter
of_kind Crc s = s.crc_errors
of_kind HeartbeatTimeout s = s.heartbeat_timeout

-- the value f k for each kind k
abbrev pub for_each : {T : Type 0} → (CounterKind → T) → ByKind T
for_each f =
    record {
      collision = f Collision;
      loss_of_soc = f LossOfSoc;
      loss_of_soa = f LossOfSoa;
      loss_of_preq = f LossOfPreq;
      soc_jitter = f SoCJitter;
      crc_errors = f Crc;
      heartbeat_timeout = f HeartbeatTimeout;
    }

-- the counter of a kind
abbrev pub counter : CounterKind → CnErrorCounters → ThresholdCounter
counter k s = of_kind k s.counters

-- counters of which that of kind k is f k, with a count of lost links
abbrev pub by_kind : (CounterKind → ThresholdCounter) → ℕ → CnErrorCounters
by_kind f links = record { counters = for_each f; loss_of_link_cumulative = links }

-- the counters with c for kind k, and the others as they were
unfoldable pub replaced : CounterKind → ThresholdCounter → CnErrorCounters → CnErrorCounters
replaced k c s =
    by_kind (λ (j : CounterKind). pick (same_kind k j) c (counter j s)) s.loss_of_link_cumulative

-- a counter by its cumulative count, its level, its threshold and its count of crossings
abbrev pub counter_of : ℕ → ℕ → ℕ → ℕ → ThresholdCounter
counter_of n l t x = record { cumulative_cnt = n; threshold_cnt = l; threshold = t; crossings_cnt = x }

-- a new counter with a threshold
abbrev pub new_counter : ℕ → ThresholdCounter
new_counter t = counter_of 0 0 t 0

-- a threshold for each kind
abbrev pub Thresholds : Type 0
Thresholds = ByKind ℕ

-- the threshold of a kind
abbrev pub threshold_for : CounterKind → Thresholds → ℕ
threshold_for k t = of_kind k t

-- new counters with these thresholds
abbrev pub new_counters : Thresholds → CnErrorCounters
new_counters t = by_kind (λ (k : CounterKind). new_counter (threshold_for k t)) 0

-- one threshold for all kinds
abbrev pub same_for_all : ℕ → Thresholds
same_for_all n = for_each (λ (k : CounterKind). n)

-- each threshold is at most 1,000,000
unfoldable pub thresholds_fit : Thresholds → Bool
thresholds_fit t = all_of (λ (k : CounterKind). leb (threshold_for k t) 1000000) counter_kinds

-- 2^32 - 1, where counts and levels stop
abbrev pub top : ℕ
top = 4294967295

-- the sum of a and b, which stops at 2^32 - 1
abbrev pub add_top : ℕ → ℕ → ℕ
add_top a b = min (a + b) top

-- what an error adds to the level of its counter
abbrev pub error_weight : ℕ
error_weight = 8

-- an error raises the cumulative count by 1 and the level by 8; both stop at the top
abbrev pub incremented : ThresholdCounter → ThresholdCounter
incremented c = counter_of (add_top c.cumulative_cnt 1) (add_top c.threshold_cnt error_weight) c.threshold c.crossings_cnt

-- the level is at the threshold or above; a threshold of 0 is never reached
abbrev pub reaches : ThresholdCounter → Bool
reaches c = both (ltb 0 c.threshold) (leb c.threshold c.threshold_cnt)

-- a counter after its check, and whether it reached the threshold
pub record ThresholdCheck : Type 0 where
  pub counter : ThresholdCounter
  pub reached : Bool

-- at a crossing the level drops to 0 and the count of crossings rises by 1, up to the top
abbrev pub after_check : ThresholdCounter → ThresholdCheck
after_check c =
    pick (reaches c)
    (record { counter = counter_of c.cumulative_cnt 0 c.threshold (add_top c.crossings_cnt 1); reached = true })
    (record { counter = c; reached = false })

-- what the counters make of an error: the counters after it, and its answer (RULES 6.3, 6.5)
pub record HandledError : Type 0 where
  pub counters : CnErrorCounters
  -- what the NMT machine is asked for
  pub action : NmtAction
  -- whether the error is signalled (RULES 7.9)
  pub signal : Bool
  -- the error, where it is logged
  pub logged : DllErrors

-- the answer without the counters
abbrev pub replied : HandledError → ErrorTaken
replied r = record { action = r.action; signal = r.signal; logged = r.logged }

-- a crossing asks for ResetCommunication, and is signalled and logged
abbrev pub crossed_answer : CnErrorCounters → DllError → HandledError
crossed_answer s e = record { counters = s; action = action.ResetCommunication; signal = true; logged = errors.One e }

-- no action, no signal, nothing logged
abbrev pub unsignalled : CnErrorCounters → HandledError
unsignalled s = record { counters = s; action = action.None; signal = false; logged = errors.None }

-- a counter after an error, and whether it crossed
unfoldable pub after_error : ThresholdCounter → ThresholdCheck
after_error c = after_check (incremented c)

-- the counters after an error was given to that of the kind k
abbrev pub raised : CounterKind → CnErrorCounters → CnErrorCounters
raised k s = replaced k (after_error (counter k s)).counter s

-- an error that goes to the counter of the kind k: the counters after it, and the answer of a
-- crossing or of none
unfoldable pub counted_error : CounterKind → CnErrorCounters → DllError → HandledError
counted_error k s e = pick (after_error (counter k s)).reached (crossed_answer (raised k s) e) (unsignalled (raised k s))

-- a completed cycle takes 1 from a level above 0
abbrev pub decremented : ThresholdCounter → ThresholdCounter
decremented c = counter_of c.cumulative_cnt (c.threshold_cnt - 1) c.threshold c.crossings_cnt

-- the counters after a completed cycle, which takes 1 from each level above 0
unfoldable pub lowered : CnErrorCounters → CnErrorCounters
lowered s = by_kind (λ (k : CounterKind). decremented (counter k s)) s.loss_of_link_cumulative

-- the level is above 0
abbrev pub active : ThresholdCounter → Bool
active c = ltb 0 c.threshold_cnt

-- the level of some kind is above 0
unfoldable pub any_active : CnErrorCounters → Bool
any_active s = any_of (λ (k : CounterKind). active (counter k s)) counter_kinds

-- the counters after a completed cycle, and whether it cleared the last level
pub record CompletedCycle : Type 0 where
  pub counters : CnErrorCounters
  pub cleared : Bool

-- a completed cycle clears the last level where one was above 0 and none is after it
unfoldable pub completed : CnErrorCounters → CompletedCycle
completed s = record { counters = lowered s; cleared = both (any_active s) (not (any_active (lowered s))) }

-- a LossOfLink raises the count of lost links by 1, up to the top
abbrev pub link_lost : CnErrorCounters → CnErrorCounters
link_lost s = by_kind (λ (k : CounterKind). counter k s) (add_top s.loss_of_link_cumulative 1)

-- signalled and logged, without an action: LossOfLink and the two PDO errors
abbrev pub signalled_answer : CnErrorCounters → DllError → HandledError
signalled_answer s e = record { counters = s; action = action.None; signal = true; logged = errors.One e }

-- what an error does to the counters (RULES 6)
pub data Effect : Type 0 where
  -- it goes to the counter of this kind
  counts : CounterKind → Effect
  -- it raises the count of lost links, and is signalled and logged
  loses_link : Effect
  -- it is signalled and logged alone
  is_logged : Effect
  -- it changes nothing
  nothing : Effect

-- what an error of each kind does
abbrev pub effect : DllError → Effect
effect error.LossOfLink = loses_link
effect error.BadPhysicalMode = nothing
effect error.MacBuffer = nothing
effect error.Crc = counts Crc
effect error.Collision = counts Collision
effect error.InvalidFormat = nothing
effect error.LossOfSoc = counts LossOfSoc
effect error.LossOfSoa = counts LossOfSoa
effect error.LossOfPreq = counts LossOfPreq
effect (error.LossOfPres n) = nothing
effect (error.LossOfStatusRes n) = nothing
effect error.CycleTimeExceeded = nothing
effect (error.LatePres n) = nothing
effect error.SoCJitter = counts SoCJitter
effect error.MsWaitSoc = nothing
effect error.MultipleMn = nothing
effect error.AddressConflict = nothing
effect error.MevAsndTimeout = nothing
effect (error.UnexpectedEventInState s e) = nothing
effect (error.PdoMapVersion n) = is_logged
effect (error.PdoPayloadShort n) = is_logged
effect (error.HeartbeatTimeout n) = counts HeartbeatTimeout

-- the effect that a value of `ErrorEffect` stands for
abbrev pub effect_of : ErrorEffect → Effect
effect_of (an-effect.Counts k) = counts k
effect_of an-effect.LosesLink = loses_link
effect_of an-effect.IsLogged = is_logged
effect_of an-effect.Nothing = nothing

-- what an error with an effect leaves and answers
abbrev pub handled_as : Effect → CnErrorCounters → DllError → HandledError
handled_as (counts k) s e = counted_error k s e
handled_as loses_link s e = signalled_answer (link_lost s) e
handled_as is_logged s e = signalled_answer s e
handled_as nothing s e = unsignalled s

-- the counters after an error was given to them, and its answer
unfoldable pub handled : CnErrorCounters → DllError → HandledError
handled s e = handled_as (effect e) s e
