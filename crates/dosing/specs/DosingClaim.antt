-- What holds after any list of calls on a weigh head behind a start that was taken (RULES 12.6).
-- Assumes nothing.
use Rattle.std.specs.Prelude.{ℕ, ◌≡◌, List, ◌∷◌, ◌++◌, length}
use Rattle.std.specs.List.{slice_get}
use Rattle.std.specs.declared.option.Option.TheVariants.{Some}
use Rattle.types.specs.declared.refusals.Refusal.TheVariants.{NoWeight}
use Rattle.head.specs.Words.{head_of}
use Rattle.node.specs.Plain.{Start}
use Rattle.node.specs.Steps as node
use Rattle.node.specs.Run.{Said}
use Rattle.trace.specs.Claim as trace
use Rattle.recipes.specs.Recipe.{no_places}
use Rattle.weigh.specs.PlainWeigh.{Weigh, weigh, Call, weight, Answer, refused}
use Rattle.weigh.specs.WeighHeld.{Held, plain_at}
use Rattle.dosing.specs.LastRecipe.{step_all, said_all, asked_all, Weighed, Forgotten}

-- a fresh weigh head: a fresh node, and no recipe
abbrev pub fresh : Start → Weigh
fresh s = weigh (node.fresh s) no_places

-- a call c stands in a list behind the calls `before`, and o is its answer
pub record Stands (cs : List Call) (os : List Answer) (before : List Call) (c : Call) (o : Answer) : Type 0 where
  pub after : List Call
  pub call : cs ≡ before ++ (c ∷ after)
  pub answer : slice_get os (length before) ≡ Some o

-- THE CLAIM, of a start s that was taken and the calls cs on a weigh head behind it: os is what
-- they answered, `says` what the calls that they made on its node said, and y is what they left.
pub record Claim (s : Start) (cs : List Call) (os : List Answer) (says : List Said) (y : Held) : Type 0 where
  -- all that is claimed of a node, of the calls that were made on it
  pub node : trace.Claim s (asked_all (fresh s) cs) says (head_of y.node.head) y.node.queue y.node.history
  -- the node and the places are those of the plain weigh head after these calls
  pub alike : plain_at y ≡ step_all (fresh s) cs
  -- and so is what they answered
  pub answered : os ≡ said_all (fresh s) cs
  -- each weight that is told is the one for that place in the recipe last loaded since the last
  -- reset, and each such weight is told in Operational; otherwise NoWeight
  pub weights :
      (before : List Call) (i : ℕ) (o : Answer) → Stands cs os before (weight i) o → Weighed (fresh s) before i o
  -- no weight is told behind a reset before a recipe was loaded
  pub forgotten :
      (before : List Call) (i : ℕ) (o : Answer) → Stands cs os before (weight i) o → Forgotten (fresh s) before → o ≡ refused NoWeight
