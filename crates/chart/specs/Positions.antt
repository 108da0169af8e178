-- The positions that a head can come to, and the steps between them, as the page prints them.
-- Assumes nothing.
use Rattle.std.specs.Prelude.{ℕ, false, List, [], ◌∷◌, codes}
use Rattle.std.specs.Fmt.{decimal}
use Rattle.types.specs.Pick.{pick}
use Rattle.types.specs.Names.{state_name, event_name}
use Rattle.types.specs.States.{same_state}
use Rattle.types.specs.declared.nmt.states.NmtState.TheVariants.{NmtReadyToOperate}
use Rattle.nmt.specs.Table.{ruled}
use Rattle.nmt.specs.declared.cn_state_machine.Position.{Position}
use Rattle.head.specs.Words.{nmt_of}
use Rattle.reach.specs.declared.Line.{Line}
use Rattle.chart.specs.Texts.{joined, text_if}
use Rattle.chart.specs.Transitions.{same_position}
use Rattle.chart.specs.declared.positions.Step.{Step}
use Rattle.chart.specs.declared.positions.Step.TheVariants as step

-- the position of a head, by its words
abbrev pub position_of : List ℕ → Position
position_of ws =
    record { state = (nmt_of ws).current_state; enabled = (nmt_of ws).ready_to_operate_enabled; ready = (nmt_of ws).app_ready }

-- the position after a step: an event by the table's entry, a withdrawal where it is not refused
abbrev pub stepped : Position → Step → Position
stepped p (step.Event e) = (ruled p.state e p.enabled p.ready).position
stepped p step.Withdrawal =
    record { state = p.state; enabled = p.enabled; ready = pick (same_state p.state NmtReadyToOperate) p.ready false }

-- a step by its name
abbrev pub step_text : Step → List ℕ
step_text (step.Event e) = event_name e
step_text step.Withdrawal = codes "withdrawal"

-- a position's key in the picture
abbrev pub key_text : Position → List ℕ
key_text p = joined (state_name p.state ∷ text_if p.enabled (codes "_E") ∷ text_if p.ready (codes "_R") ∷ [])

-- a position with its least number of steps, and its key
unfoldable pub position_line : Line → List ℕ
position_line l =
    joined
    (codes "    state \"" ∷
    decimal l.steps ∷
    codes ": " ∷
    state_name l.position.state ∷
    text_if l.position.enabled (codes ", enabled") ∷
    text_if l.position.ready (codes ", ready") ∷
    codes "\" as " ∷
    key_text l.position ∷
    codes "\n" ∷
    [])

-- an arrow of the picture for the step x from the position p to the position q; none where the step
-- leads back to p
abbrev pub arrow_to : Position → Step → Position → List ℕ
arrow_to p x q =
    pick (same_position q p) []
    (joined (codes "    " ∷ key_text p ∷ codes " --> " ∷ key_text q ∷ codes " : " ∷ step_text x ∷ codes "\n" ∷ []))

-- the arrow of a step from the position p
unfoldable pub arrow_text : Position → Step → List ℕ
arrow_text p x = arrow_to p x (stepped p x)
