-- What the node's own calls make of a head's position.
-- Assumes nothing.
use Rattle.std.proofs.Common.{◌≡◌, ℕ, Bool, true, false, List, [], refl, ap, ◌∙◌}
use Rattle.types.specs.States.{same_state}
use Rattle.types.specs.Events.{event_number}
use Rattle.types.specs.declared.nmt.events.NmtEvent.{NmtEvent}
use Rattle.types.specs.declared.nmt.states.NmtState.TheVariants.{NmtReadyToOperate}
use Rattle.head.specs.Words.{head_of}
use Rattle.node.specs.Plain.{Plain, Answer, nmt_event, withdraw}
use Rattle.node.specs.Run.{step}
use Rattle.node.specs.Refines.{plain}
use Rattle.node.specs.InPlace.{InPlace}
use Rattle.reach.specs.Positions.{position}
use Rattle.reach.proofs.Reaching.{number_moves}
use Rattle.chart.specs.Positions.{position_of, stepped}
use Rattle.chart.specs.declared.positions.Step.TheVariants as by

-- an event
pub event_steps :
    (ws ws' known : List ℕ) (a : Answer) (k : ℕ) (e : NmtEvent) → k ≡ event_number e → InPlace ws (nmt_event k) a ws' known → position_of ws' ≡ stepped (position_of ws) (by.Event e)
unfolding head_of
event_steps ws ws' known a k e is h =
    ap position (h.refines [] []).head ∙
    ap (λ (n : ℕ). position (step (plain (head_of ws) [] []) (nmt_event n)).head) is ∙
    number_moves (plain (head_of ws) [] []) e

-- a withdrawal
withdrawn_by : (p : Plain) → position (step p withdraw).head ≡ stepped (position p) by.Withdrawal
withdrawn_by p = at (same_state p.nmt.current_state NmtReadyToOperate) refl
  where
    at : (b : Bool) → same_state p.nmt.current_state NmtReadyToOperate ≡ b → position (step p withdraw).head ≡ stepped (position p) by.Withdrawal
    at true e = rw e refl
    at false e = rw e refl

pub withdrawal_steps :
    (ws ws' known : List ℕ) (a : Answer) → InPlace ws withdraw a ws' known → position_of ws' ≡ stepped (position_of ws) by.Withdrawal
unfolding head_of
withdrawal_steps ws ws' known a h = ap position (h.refines [] []).head ∙ withdrawn_by (plain (head_of ws) [] [])
