-- What the parts of the tick leave, against the plain tick.
-- Assumes nothing.
use Rattle.std.specs.Prelude.{◌≡◌, ℕ, Bool, true, false, List}
use Rattle.types.specs.Pick.{pick}
use Rattle.types.specs.Errors.{reported}
use Rattle.types.specs.declared.nmt.events.NmtEvent.TheVariants as event
use Rattle.types.specs.declared.frame.error.types.DllError.{DllError}
use Rattle.types.specs.declared.frame.error.types.DllErrors.{DllErrors}
use Rattle.counters.specs.Counters.{Effect, counts, loses_link, is_logged, nothing, effect}
use Rattle.head.specs.Head.{Head}
use Rattle.node.specs.Phases.{Ticked, event_in_tick}
use Rattle.node.specs.Refines.{plain, SamePlaces, rings, joins_all}

-- what a part of the tick leaves: the head, what was logged, and whether the tick has ended
pub record PartLeft : Type 0 where
  pub head : Head
  pub logged : DllErrors
  pub ended : Bool

-- the head g after an error was handled, with what was logged and whether it ends the tick
pub record Finishes (g : Head) (es : DllErrors) (ends : Bool) (r : PartLeft) : Type 0 where
  pub head : (q m : List ℕ) → plain r.head q m ≡ pick ends (event_in_tick (plain g q m) event.Error) (plain g q m)
  pub places : SamePlaces g r.head
  pub logged : r.logged ≡ es
  pub ended : r.ended ≡ ends

-- on a head h with its memory: the head and the memory left stand for the plain tick's head, and
-- the entries of its crossings have joined
pub record Ticks (h : Head) (q m : List ℕ) (k : Ticked) (r : PartLeft) (q' m' : List ℕ) : Type 0 where
  pub head : plain r.head q' m' ≡ k.head
  pub logged : reported r.logged ≡ k.logged
  pub ended : r.ended ≡ k.ended
  pub joined : rings r.head q' m' ≡ joins_all (rings h q m) k.crossings

-- an error with this effect is quiet: it goes to a counter or changes nothing, so that nothing is
-- signalled or logged unless it brings an action
abbrev pub quiet_effect : Effect → Bool
quiet_effect (counts k) = true
quiet_effect loses_link = false
quiet_effect is_logged = false
quiet_effect nothing = true

-- an error is quiet: it is neither a lost link nor one of the two PDO errors
abbrev pub is_quiet : DllError → Bool
is_quiet e = quiet_effect (effect e)
