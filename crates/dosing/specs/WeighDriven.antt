-- Any list of calls on a weigh head, each on what the last one left (RULES 12.6): nobody else
-- writes head, queue or history meanwhile. The watched nodes are the owner's, who may lend others
-- between two calls.
-- Assumes nothing.
use Rattle.std.specs.Prelude.{◌≡◌, List, [], ◌∷◌}
use Rattle.node.specs.Plain as plain
use Rattle.calling.specs.Held as node
use Rattle.trace.specs.Driven as trace
use Rattle.weigh.specs.declared.WeighCall.{WeighCall}
use Rattle.weigh.specs.PlainWeigh.{Call, Answer}
use Rattle.weigh.specs.WeighHeld.{Held, relent}
use Rattle.weigh.specs.WeighValues.{Reply, call_of, said}
use Rattle.weigh.specs.WeighMade.{Asked, none, one, Made}

-- the first is what the calls were made on, the second what they left
pub data Driven : Held → Held → Type 0 where
  stop : {y : Held} → Driven y y
  -- a call as it was made, and the rest of the list
  call : {y y₁ y' : Held} {c : WeighCall} {o : Reply} → Made y c o y₁ → Driven y₁ y' → Driven y y'
  -- other watched nodes are lent, and the rest of the list
  lend : {y y₁ y' : Held} → y₁ ≡ relent y y₁.node.lent → Driven y₁ y' → Driven y y'

-- the calls as the plain weigh head's, each with the run that was lent to it
abbrev pub calls_of : {y y' : Held} → Driven y y' → List Call
calls_of stop = []
calls_of (call {y} {c = c} t d) = call_of c y.node.lent ∷ calls_of d
calls_of (lend e d) = calls_of d

-- what each of them answered
abbrev pub answers_of : {y y' : Held} → Driven y y' → List Answer
answers_of stop = []
answers_of (call {o = o} t d) = said o ∷ answers_of d
answers_of (lend e d) = answers_of d

-- the calls that were made on the node, and what they left, before a list of calls on it
abbrev pub asked_then :
    {x x₁ x' : node.Held} {cs : List plain.Call} → Asked x cs x₁ → trace.Driven x₁ x' → trace.Driven x x'
asked_then none d = d
asked_then (one t) d = trace.call t d

-- the list of calls that were made on the node
abbrev pub node_driven : {y y' : Held} → Driven y y' → trace.Driven y.node y'.node
node_driven stop = trace.stop
node_driven (call t d) = asked_then t.node (node_driven d)
node_driven (lend e d) = trace.lend (λ i. (e i).node) (node_driven d)
