-- What a trace prints: how the NMT machine of a node was moved.
-- Assumes nothing.
use Rattle.std.specs.Prelude.{ℕ, List, [], ◌∷◌, codes}
use Rattle.std.specs.Fmt.{decimal}
use Rattle.types.specs.Names.{state_name, event_name}
use Rattle.telling.specs.declared.moves.Cause.{Cause}
use Rattle.telling.specs.declared.moves.Cause.TheVariants as cause
use Rattle.telling.specs.declared.moves.Moved.{Moved}
use Rattle.telling.specs.Texts.{joined}

-- what moved it: a start, or an event by its name
abbrev pub cause_text : Cause → List ℕ
cause_text cause.Start = codes "start"
cause_text (cause.Event e) = event_name e

-- the line of a move, as `node 7: ReadyToOperate to Operational on StartNode`
abbrev pub moved_text : Moved → List ℕ
moved_text m =
    joined
    (codes "node " ∷ decimal m.node.0 ∷ codes ": " ∷ state_name m.from ∷ codes " to " ∷ state_name m.to ∷ codes " on " ∷ cause_text m.on
    ∷ codes "\n" ∷ [])
