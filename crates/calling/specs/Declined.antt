-- What holds of a call that is refused (RULES 2), and the refusals of a start.
-- Assumes nothing.
use Rattle.std.specs.Prelude.{ℕ, ◌≡◌, Bool, true, List, [], ◌∷◌, eqb}
use Rattle.types.specs.Pick.{any_of}
use Rattle.node.specs.Plain.{refused}
use Rattle.calling.specs.declared.Call.{Call}
use Rattle.calling.specs.Held.{Held}
use Rattle.calling.specs.Values.{call_of}
use Rattle.calling.specs.Table.{row_of}
use Rattle.calling.specs.Made.{step_of}

-- the number n is one of some
abbrev pub is_among : ℕ → List ℕ → Bool
is_among n ns = any_of (eqb n) ns

-- the numbers that a start may be refused with, in the order in which they are tried
abbrev pub start_refusals : List ℕ
start_refusals = 1 ∷ 2 ∷ 3 ∷ 14 ∷ []

-- Of a call c on x, which was refused with the number n and left x'.
pub record Declined (x : Held) (c : Call) (n : ℕ) (x' : Held) : Type 0 where
  -- one of the numbers that the call has
  pub number : is_among n (row_of (call_of c x.lent)).refusals ≡ true
  -- the plain head's: by `step`, the first that applies
  pub first : (step_of x c).answer ≡ refused n
  -- no word of the head, no lent byte, no place of the watched nodes and not their number
  pub same : x' ≡ x
