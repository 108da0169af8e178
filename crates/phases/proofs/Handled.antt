-- An error that was handled in words: what the answer and the words that were written say of the
-- head, and of how the error ends.
-- Assumes nothing.
use Rattle.std.proofs.Common.{◌≡◌, ℕ, Bool, List, length, sym, ap, ◌∙◌, subst}
use Rattle.types.specs.declared.frame.error.types.DllError.{DllError}
use Rattle.types.specs.declared.frame.error.types.DllErrors.{DllErrors}
use Rattle.counters.specs.Counters.{effect, handled, HandledError, replied}
use Rattle.counters.specs.declared.counters.ErrorTaken.{ErrorTaken}
use Rattle.head.specs.Head.{Head, head_with_errors}
use Rattle.head.specs.Words.{errors_of, head_of}
use Rattle.node.specs.InPlace.{effect_words}
use Rattle.node.specs.Phases.{acts}
use Rattle.node.proofs.Refining.{effect_written}
use Rattle.phases.specs.Parts.{PartLeft, Finishes}
use Rattle.phases.specs.PartWords.{ends_by}

module _ (ws : List ℕ) (e : DllError) where
  abbrev R : HandledError
  R = handled (errors_of ws) e

  pub handled_written : length ws ≡ 60 → (ws₁ : List ℕ) → ws₁ ≡ effect_words ws (effect e) → head_of ws₁ ≡ head_with_errors (head_of ws) R.counters
  unfolding handled
  handled_written long ws₁ there = ap head_of there ∙ effect_written ws long (effect e) e

  module _ (r : ErrorTaken) (same : r ≡ replied R) where
    pub ending : (a : Bool) → a ≡ acts r.action → a ≡ ends_by ws e
    ending a z = z ∙ ap (λ (r : ErrorTaken). acts r.action) same

    pub signals : (b : Bool) → r.signal ≡ b → R.signal ≡ b
    signals b s = sym (ap (λ (r : ErrorTaken). r.signal) same) ∙ s

    pub logs : (a : Bool) (d : PartLeft) (g : Head) → Finishes g r.logged a d → Finishes g R.logged a d
    logs a d g k = subst (λ (es : DllErrors). Finishes g es a d) (ap (λ (r : ErrorTaken). r.logged) same) k
