-- All that a call on a weigh head leaves, and a start.
-- Assumes nothing.
use Rattle.std.specs.Prelude.{◌≡◌, List, [], ◌∷◌, replicate}
use Rattle.std.specs.declared.result.Result.{Result}
use Rattle.std.specs.declared.result.Result.TheVariants.{Ok, Err}
use Rattle.types.specs.declared.refusals.Refusal.{Refusal}
use Rattle.watched.specs.Watched.{Run}
use Rattle.node.specs.Plain as plain
use Rattle.start.specs.declared.start.Setup.{Setup}
use Rattle.start.specs.Started.{StartedOn}
use Rattle.calling.specs.declared.Call.{Call}
use Rattle.calling.specs.Held as node
use Rattle.calling.specs.Values as calling
use Rattle.calling.specs.Made as node_made
use Rattle.recipes.specs.Recipe.{no_places}
use Rattle.weigh.specs.declared.WeighCall.{WeighCall}
use Rattle.weigh.specs.WeighParts.{Parts}
use Rattle.weigh.specs.PlainWeigh.{Step, step}
use Rattle.weigh.specs.WeighHeld.{Held, plain_at}
use Rattle.weigh.specs.WeighValues.{call_of, Reply, said}

-- The calls that were made on the node: none, or one, as `calling` made it; every word of the
-- node, every byte and every watched node is then known.
pub data Asked : node.Held → List plain.Call → node.Held → Type 0 where
  none : {x : node.Held} → Asked x [] x
  one :
      {x x' : node.Held} {c : Call} {o : calling.Reply} →
      node_made.Made x c o x' → Asked x (calling.call_of c x.lent ∷ []) x'

-- what comes of a call
abbrev pub step_of : Held → WeighCall → Step
step_of y c = step (plain_at y) (call_of c y.node.lent)

-- A call c as it was made on y, which answered o and left y'. Head and answer are the plain weigh
-- head's, and so are the calls on the node.
pub record Made (y : Held) (c : WeighCall) (o : Reply) (y' : Held) : Type 0 where
  pub head : plain_at y' ≡ (step_of y c).head
  pub answer : said o ≡ (step_of y c).answer
  pub node : Asked y.node (step_of y c).asked y'.node

-- a weigh head before its start
abbrev pub blank : Parts
blank = record { node = replicate 60 0; places = no_places }

-- A start on the run r, which gave a weigh head or a refusal and left the run r': its node is as
-- the node's start leaves one, and all places are empty; a refused start leaves the run.
abbrev pub Started : Run → Setup → Result Parts Refusal → Run → Type 0
Started r s (Ok v) r' = StartedOn blank.node r s (Ok tt) v.node r' × (v.places ≡ no_places)
Started r s (Err e) r' = StartedOn blank.node r s (Err e) blank.node r' × (r' ≡ r)
