-- What the handling of an error in a tick makes of a head, over plain variables; and the errors
-- that are quiet.
-- Assumes nothing.
use Rattle.std.proofs.Common.{◌≡◌, Bool, true, false, [], sym, refl, ap, ◌∙◌, true≢false}
use mathlib.Core.Bool.{false≢true}
use Rattle.types.specs.Pick.{pick}
use Rattle.types.specs.Errors.{reported}
use Rattle.types.specs.declared.nmt.events.NmtEvent.{NmtEvent}
use Rattle.types.specs.declared.nmt.events.NmtEvent.TheVariants.{Error}
use Rattle.types.specs.declared.frame.error.types.DllError.{DllError}
use Rattle.types.specs.declared.frame.error.types.DllErrors.{DllErrors}
use Rattle.nmt.specs.Nmt as Nmt
use Rattle.nmt.specs.declared.cn_state_machine.NmtAnswer.{NmtAnswer}
use Rattle.counters.specs.Counters.{counter, after_error, raised, counted_error, unsignalled, Effect, counts, loses_link, is_logged, nothing, effect, handled_as, handled, HandledError}
use Rattle.counters.specs.Counters as Counters
use Rattle.counters.specs.Marks.{effect_crosses, crosses}
use Rattle.counters.specs.declared.counters.CounterKind.{CounterKind}
use Rattle.counters.specs.declared.counters.CnErrorCounters.{CnErrorCounters}
use Rattle.entries.specs.Queue.{capacity_of, waiting}
use Rattle.entries.specs.History.{history}
use Rattle.head.specs.Head.{Head, of_parts}
use Rattle.node.specs.Steps.{plain_of}
use Rattle.node.specs.Phases.{Ticked, acts, check_off, event_in_tick}
use Rattle.node.specs.Refines.{plain, Becomes}
use Rattle.phases.specs.Parts.{Finishes, quiet_effect, is_quiet}

module _ (h : Head) where
  -- a head with these parts replaced stands for a plain head with them replaced
  pub event_becomes :
      (event : NmtEvent) (a : NmtAnswer) →
      Nmt.outcome a ≡ Nmt.processed h.nmt event →
      Becomes h (λ p. event_in_tick p event) (of_parts a.machine h.dll h.errors (check_off h.soc) h.od h.queue h.history h.earliest)
  event_becomes event a e = (
    λ q m i.
        plain_of (e i).machine h.dll.state h.errors (check_off h.soc) h.od (capacity_of h.queue) (waiting q h.queue) (history m h.history) h.earliest,
    record { queue = refl; history = refl },
  )

-- an error's end: with an action the event Error follows
module _ (g : Head) (es : DllErrors) (ends : Bool) where
  pub finish_on : ends ≡ false → Finishes g es ends (record { head = g; logged = es; ended = ends })
  finish_on e =
      record {
        head = λ q m. sym (ap (λ (b : Bool). pick b (event_in_tick (plain g q m) Error) (plain g q m)) e);
        places = record { queue = refl; history = refl };
        logged = refl;
        ended = refl;
      }

  pub finish_off :
      ends ≡ true → (f : Head) → Becomes g (λ p. event_in_tick p Error) f → Finishes g es ends (record { head = f; logged = es; ended = ends })
  finish_off e f b =
      record {
        head = λ q m. b.0 q m ∙ sym (ap (λ (b : Bool). pick b (event_in_tick (plain g q m) Error) (plain g q m)) e);
        places = b.1;
        logged = refl;
        ended = refl;
      }

-- An error that counts for a kind, or for none, is quiet: nothing is signalled or logged unless it
-- brings an action.
pub record Quiet (r : HandledError) : Type 0 where
  pub signal : r.signal ≡ false
  pub logged : reported r.logged ≡ []

pub handled_quiet : (s : CnErrorCounters) (e : DllError) → is_quiet e ≡ true → acts (handled s e).action ≡ false → Quiet (handled s e)
unfolding handled counted_error
handled_quiet s e = by (effect e)
  where
    crossed : (k : CounterKind) (b : Bool) → acts (pick b (Counters.crossed_answer (raised k s) e) (unsignalled (raised k s))).action ≡ false → Quiet (pick b (Counters.crossed_answer (raised k s) e) (unsignalled (raised k s)))
    crossed k true a = absurd (true≢false a)
    crossed k false a = record { signal = refl; logged = refl }

    by : (f : Effect) → quiet_effect f ≡ true → acts (handled_as f s e).action ≡ false → Quiet (handled_as f s e)
    by (counts k) q a = crossed k (after_error (counter k s)).reached a
    by loses_link q a = absurd (false≢true q)
    by is_logged q a = absurd (false≢true q)
    by nothing q a = record { signal = refl; logged = refl }

-- and it signals exactly where it crosses: where it reaches the threshold of its kind
pub quiet_crosses : (s : CnErrorCounters) (e : DllError) → is_quiet e ≡ true → (handled s e).signal ≡ crosses s e
unfolding handled counted_error crosses
quiet_crosses s e = by (effect e)
  where
    crossed : (k : CounterKind) (b : Bool) → (pick b (Counters.crossed_answer (raised k s) e) (unsignalled (raised k s))).signal ≡ b
    crossed k true = refl
    crossed k false = refl

    by : (f : Effect) → quiet_effect f ≡ true → (handled_as f s e).signal ≡ effect_crosses f s
    by (counts k) q = crossed k (after_error (counter k s)).reached
    by loses_link q = absurd (false≢true q)
    by is_logged q = absurd (false≢true q)
    by nothing q = refl

-- two ticks alike in all but their marks
pub record Alike (a b : Ticked) : Type 0 where
  pub head : a.head ≡ b.head
  pub logged : a.logged ≡ b.logged
  pub crossings : a.crossings ≡ b.crossings
  pub ended : a.ended ≡ b.ended
