-- A list of things that are done, each on what the last one left, and what each answered.
-- Assumes nothing.
use Rattle.std.specs.Prelude.{◌≡◌, List, [], ◌∷◌}

-- `Does x a o x'` says of one thing a that it was done on x, answered o and left x'.
pub data Chain {S A O : Type 0} (Does : S → A → O → S → Type 0) : S → List A → List O → S → Type 0 where
  stop : {x : S} → Chain Does x [] [] x
  next :
      {x x₁ x' : S} {a : A} {o : O} {acts : List A} {os : List O} →
      Does x a o x₁ → Chain Does x₁ acts os x' → Chain Does x (a ∷ acts) (o ∷ os) x'

-- answers written over a list from its first place on, as far as it reaches
unfoldable pub written_over : {O : Type 0} → List O → List O → List O
written_over [] out = out
written_over (o ∷ os) [] = []
written_over (o ∷ os) (p ∷ out) = o ∷ written_over os out

-- A list that was done, and its answers in `out`.
pub record ChainInto {S A O : Type 0}
    (Does : S → A → O → S → Type 0)
    (x : S)
    (acts : List A)
    (out : List O)
    (x' : S)
    (out' : List O) : Type 0 where
  pub answers : List O
  pub played : Chain Does x acts answers x'
  pub written : out' ≡ written_over answers out
