-- Which recipe is loaded, by a list of calls alone (RULES 12.6).
-- Assumes nothing.
use Rattle.std.specs.Prelude.{ℕ, ◌≡◌, Bool, true, false, List, [], ◌∷◌, ◌++◌}
use Rattle.std.specs.List.{list_any, slice_get}
use Rattle.std.specs.declared.option.Option.TheVariants.{Some}
use Rattle.types.specs.declared.refusals.Refusal.TheVariants.{NoWeight}
use Rattle.types.specs.declared.nmt.states.NmtState.TheVariants.{NmtOperational}
use Rattle.node.specs.Plain as plain
use Rattle.node.specs.Run as node
use Rattle.trace.specs.Visits.{resets, nmt_state}
use Rattle.trace.specs.Visits as visits
use Rattle.recipes.specs.declared.Component.{Component}
use Rattle.weigh.specs.PlainWeigh.{Weigh, Call, node_call, load_recipe, weight, Answer, node_answer, weight_answer, refused, step}

-- a list of calls, each on the weigh head that the last one left: the weigh head after it
unfoldable pub step_all : Weigh → List Call → Weigh
step_all w [] = w
step_all w (c ∷ cs) = step_all (step w c).head cs

-- what the calls of a list answer
unfoldable pub said_all : Weigh → List Call → List Answer
said_all w [] = []
said_all w (c ∷ cs) = (step w c).answer ∷ said_all (step w c).head cs

-- the calls that they make on the node
unfoldable pub asked_all : Weigh → List Call → List plain.Call
asked_all w [] = []
asked_all w (c ∷ cs) = (step w c).asked ++ asked_all (step w c).head cs

-- an answer of a load that was taken
abbrev pub is_taken : Answer → Bool
is_taken (node_answer a) = visits.is_taken a
is_taken (weight_answer g) = false

-- a recipe is loaded: by a load that is taken
abbrev pub loads : Weigh → Call → Bool
loads w (node_call c) = false
loads w (load_recipe r) = is_taken (step w (load_recipe r)).answer
loads w (weight i) = false

-- the node is reset, through whatever call: one that is made on it makes one of the five events
abbrev pub is_reset : Weigh → Call → Bool
is_reset w c = list_any (λ (p : plain.Call). resets (node.step w.node p).event) (step w c).asked

-- the calls are made from the weigh head w on, and none of them loads a recipe
unfoldable pub NoneLoaded : Weigh → List Call → Type 0
NoneLoaded w [] = Unit {0}
NoneLoaded w (c ∷ cs) = (loads w c ≡ false) × NoneLoaded (step w c).head cs

-- and none of them is a reset
unfoldable pub NoReset : Weigh → List Call → Type 0
NoReset w [] = Unit {0}
NoReset w (c ∷ cs) = (is_reset w c ≡ false) × NoReset (step w c).head cs

-- Of the calls from the weigh head w on, r is the recipe last loaded since the last reset: some
-- calls, a load of r that is taken, and calls among which is no load that is taken, and no reset.
pub data Loaded (w : Weigh) (r : List Component) : List Call → Type 0 where
  last :
      (before after : List Call) →
      loads (step_all w before) (load_recipe r) ≡ true →
      NoneLoaded (step (step_all w before) (load_recipe r)).head after →
      NoReset (step (step_all w before) (load_recipe r)).head after →
      Loaded w r (before ++ (load_recipe r ∷ after))

-- The answer of a weight for the place i that is wanted behind the calls `before` from the weigh
-- head w on.
pub data Weighed (w : Weigh) (before : List Call) (i : ℕ) : Answer → Type 0 where
  -- in Operational, with r the recipe last loaded since the last reset: the grams of its component
  -- at i
  told :
      (r : List Component) (c : Component) →
      nmt_state (step_all w before).node ≡ NmtOperational → Loaded w r before → slice_get r i ≡ Some c →
      Weighed w before i (weight_answer c.grams)
  -- where there is no such recipe, or it has no component at i, or the state is another: NoWeight
  withheld :
      ((r : List Component) (c : Component) →
      nmt_state (step_all w before).node ≡ NmtOperational → Loaded w r before → slice_get r i ≡ Some c → ⊥) →
      Weighed w before i (refused NoWeight)

-- Behind the calls `before` from the weigh head w on: a reset, through whatever call, and calls
-- among which is no load that is taken.
pub data Forgotten (w : Weigh) : List Call → Type 0 where
  since :
      (before : List Call) (c : Call) (after : List Call) →
      is_reset (step_all w before) c ≡ true →
      NoneLoaded (step (step_all w before) c).head after →
      Forgotten w (before ++ (c ∷ after))
