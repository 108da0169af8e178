-- What the parts of the tick leave of a head in words, against the plain tick.
-- Assumes nothing.
use Rattle.std.specs.Prelude.{◌≡◌, ℕ, Bool, List}
use Rattle.types.specs.declared.frame.error.types.DllErrors.{DllErrors}
use Rattle.node.specs.Plain.{Plain}
use Rattle.node.specs.Phases.{Ticked}
use Rattle.node.specs.Refines.{Becomes}
use Rattle.phases.specs.Parts.{PartLeft, Finishes, Ticks}
use Rattle.head.specs.Words.{head_of}
use Rattle.phases.specs.declared.PhaseOutcome.{PhaseOutcome}
use Rattle.phases.specs.PartWords.{finished_words}

-- Of a step f of the tick: the head that the words stand for becomes what f makes of it, queue and
-- history stand where they stood, and the words are all known.
pub record Turns (ws : List ℕ) (f : Plain → Plain) (ws' known : List ℕ) : Type 0 where
  pub becomes : Becomes (head_of ws) f (head_of ws')
  pub words : ws' ≡ known

-- what a part of the tick leaves, with the head that the words stand for
abbrev pub outcome_of : List ℕ → PhaseOutcome → PartLeft
outcome_of ws d = record { head = head_of ws; logged = d.logged; ended = d.ended }

-- of the end of an error on the words ws: what it leaves, and every word
pub record FinishesIn (ws : List ℕ) (es : DllErrors) (ends : Bool) (d : PhaseOutcome) (ws' : List ℕ) : Type 0 where
  pub finishes : Finishes (head_of ws) es ends (outcome_of ws' d)
  pub words : ws' ≡ finished_words ends ws

-- of a part of the tick on the words ws and the memory q and m: what it leaves is what k says, and
-- the words are all known
pub record TicksIn (ws q m : List ℕ) (k : Ticked) (d : PhaseOutcome) (ws' q' m' known : List ℕ) : Type 0 where
  pub ticks : Ticks (head_of ws) q m k (outcome_of ws' d) q' m'
  pub words : ws' ≡ known
