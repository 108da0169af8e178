-- Any list of calls on a head, each on what the last one left (RULES 10): nobody else writes head,
-- queue or history meanwhile. The watched nodes are the owner's, who may lend others between two
-- calls: in another form, of another length, or by another reference.
-- Assumes nothing.
use Rattle.std.specs.Prelude.{◌≡◌, List, [], ◌∷◌}
use Rattle.watched.specs.Watched.{Run}
use Rattle.node.specs.Plain as plain
use Rattle.node.specs.Steps.{no_run}
use Rattle.node.specs.Run.{Said}
use Rattle.calling.specs.declared.Call.{Call}
use Rattle.calling.specs.Held.{Held, relent}
use Rattle.calling.specs.Values.{Reply, call_of, said}
use Rattle.calling.specs.Made.{by_lent, Made}

-- the first is what the calls were made on, the second what they left
pub data Driven : Held → Held → Type 0 where
  -- no call, and no other run
  stop : {x : Held} → Driven x x
  -- a call as it was made, and the rest of the list
  call : {x x₁ x' : Held} {c : Call} {o : Reply} → Made x c o x₁ → Driven x₁ x' → Driven x x'
  -- other watched nodes are lent, and the rest of the list
  lend : {x x₁ x' : Held} → x₁ ≡ relent x x₁.lent → Driven x₁ x' → Driven x x'

-- the calls as the plain head's, each with the run that was lent to it
abbrev pub calls_of : {x x' : Held} → Driven x x' → List plain.Call
calls_of stop = []
calls_of (call {x} {c = c} t d) = call_of c x.lent ∷ calls_of d
calls_of (lend e d) = calls_of d

-- what a call said: its answer and the run that it left
abbrev pub says : plain.Answer → Run → Said
says a r = record { answer = a; lent = r }

-- what each call of the list said; a call that is lent no run leaves the empty one
abbrev pub said_by : {x x' : Held} → Driven x x' → List Said
said_by stop = []
said_by (call {x} {x₁ = x₁} {c = c} {o = o} t d) =
    says (said o) (by_lent x c no_run x₁.lent) ∷ said_by d
said_by (lend e d) = said_by d
