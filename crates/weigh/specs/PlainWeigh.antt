-- The plain weigh head (RULES 12): what one keeps, in plain values, and what it does at each call.
-- Assumes nothing.
use Rattle.std.specs.Prelude.{ℕ, List, [], ◌∷◌, eqb}
use Rattle.std.specs.List.{slice_get}
use Rattle.std.specs.declared.option.Option.{Option}
use Rattle.std.specs.declared.option.Option.TheVariants.{Some, None}
use Rattle.types.specs.Pick.{pick}
use Rattle.types.specs.States.{same_state}
use Rattle.types.specs.Events.{event_number}
use Rattle.types.specs.Refusals.{refusal_number}
use Rattle.types.specs.declared.refusals.Refusal.{Refusal}
use Rattle.types.specs.declared.refusals.Refusal.TheVariants.{RecipeLimits, NotPreOperational2, NoWeight}
use Rattle.types.specs.declared.nmt.states.NmtState.{NmtState}
use Rattle.types.specs.declared.nmt.states.NmtState.TheVariants.{NmtPreOperational2, NmtOperational}
use Rattle.types.specs.declared.nmt.events.NmtEvent.TheVariants.{CnConfigurationComplete}
use Rattle.node.specs.Plain as plain
use Rattle.node.specs.Steps.{Test, must, tried}
use Rattle.node.specs.Run as node
use Rattle.calling.specs.Values.{tells_reset}
use Rattle.recipes.specs.declared.Component.{Component}
use Rattle.recipes.specs.Recipe.{is_recipe, places_of, no_places}

-- a node, and 16 places, each with a bin and grams
pub record Weigh : Type 0 where
  pub node : plain.Plain
  pub places : List Component

-- a weigh head of its two parts
abbrev pub weigh : plain.Plain → List Component → Weigh
weigh p ps = record { node = p; places = ps }

-- the calls: any of the node's, a recipe that is loaded, the weight for a place
pub data Call : Type 0 where
  node_call : plain.Call → Call
  load_recipe : List Component → Call
  weight : ℕ → Call

-- what a call answers: what the node answers, `taken` of a load, and the numbers of refusals; or
-- grams
pub data Answer : Type 0 where
  node_answer : plain.Answer → Answer
  weight_answer : ℕ → Answer

-- a refusal, by its number
abbrev pub refused : Refusal → Answer
refused r = node_answer (plain.refused (refusal_number r))

-- what comes of a call: the weigh head after it, the answer, and the calls that it made on its node
pub record Step : Type 0 where
  pub head : Weigh
  pub answer : Answer
  pub asked : List plain.Call

-- a call that changes nothing
abbrev pub answers : Weigh → Answer → Step
answers w a = record { head = w; answer = a; asked = [] }

-- A call on the node: the node does it; where its answer tells of a reset, all places are emptied.
abbrev pub node_taken : Weigh → plain.Call → plain.Step → Step
node_taken w c s =
    record {
      head = weigh s.head (pick (tells_reset s.answer) no_places w.places);
      answer = node_answer s.answer;
      asked = c ∷ [];
    }

-- A load, in a state: RecipeLimits, then NotPreOperational2.
abbrev pub load_tests : NmtState → List Component → List (Test Refusal)
load_tests s cs =
    must (is_recipe cs) RecipeLimits ∷ must (same_state s NmtPreOperational2) NotPreOperational2 ∷ []

-- the application's ready word
abbrev pub ready_word : plain.Call
ready_word = plain.nmt_event (event_number CnConfigurationComplete)

-- where it is taken, the recipe fills the places, and the node gets the ready word
abbrev pub load_taken : Weigh → List Component → Step
load_taken w cs =
    record {
      head = weigh (node.step w.node ready_word).head (places_of cs);
      answer = node_answer plain.taken;
      asked = ready_word ∷ [];
    }

-- the weight of what a place has: grams, or NoWeight past the places and where no component stands
abbrev pub weight_in : Option Component → Answer
weight_in None = refused NoWeight
weight_in (Some c) = pick (eqb c.bin 0) (refused NoWeight) (weight_answer c.grams)

-- A weight, in a state: that of the place in Operational, NoWeight in every other state.
abbrev pub weight_told : NmtState → List Component → ℕ → Answer
weight_told s ps i = pick (same_state s NmtOperational) (weight_in (slice_get ps i)) (refused NoWeight)

-- what the plain weigh head does at a call
abbrev pub step : Weigh → Call → Step
step w (node_call c) = node_taken w c (node.step w.node c)
step w (load_recipe cs) =
    tried (load_tests w.node.nmt.current_state cs) (λ r. answers w (refused r)) (load_taken w cs)
step w (weight i) = answers w (weight_told w.node.nmt.current_state w.places i)
