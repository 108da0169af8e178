-- How a head came to ReadyToOperate (RULES 10.2): where in the list of calls the enable or
-- StartNode stands, and where the ready word.
-- Assumes nothing.
use Rattle.std.specs.Prelude.{◌≡◌, Bool, true, false, List, [], ◌∷◌, ◌++◌}
use Rattle.types.specs.Pick.{both}
use Rattle.types.specs.declared.nmt.states.NmtState.{NmtState}
use Rattle.types.specs.declared.nmt.states.NmtState.TheVariants.{NmtPreOperational2, NmtReadyToOperate}
use Rattle.types.specs.declared.nmt.events.NmtEvent.{NmtEvent}
use Rattle.types.specs.declared.nmt.events.NmtEvent.TheVariants.{CnConfigurationComplete}
use Rattle.nmt.specs.Resets.{is_reset}
use Rattle.node.specs.Plain.{Plain, Call, Answer, refused, taken, nmt_answer, dll_answer, error_answer, cycle_answer, hand_out_answer, tick_answer, range_answer, margin_answer, due_answer, not_ours, frame_answer, EventMade, made, no_event}
use Rattle.node.specs.Run.{step, step_all}
use Rattle.calling.specs.Table.{Tells, row_of}
use Rattle.calling.specs.Table as table
use Rattle.trace.specs.Tally.{asks}

-- a head's NMT state
abbrev pub nmt_state : Plain → NmtState
nmt_state p = p.nmt.current_state

-- the calls are made from the head p on, and after each of them the NMT state is s
unfoldable pub Stays : NmtState → Plain → List Call → Type 0
Stays s p [] = Unit {0}
Stays s p (c ∷ cs) = (nmt_state (step p c).head ≡ s) × Stays s (step p c).head cs

-- The call c on the head p made an NMT event, by its number or by a frame, which was taken in
-- PreOperational2 and passes a test.
pub record InVisit (test : NmtEvent → Type 0) (p : Plain) (c : Call) : Type 0 where
  pub event : NmtEvent
  pub given : (step p c).event ≡ made event
  pub passes : test event
  pub visit : nmt_state p ≡ NmtPreOperational2

-- the call is an enable or StartNode, taken in PreOperational2
abbrev pub Asking : Plain → Call → Type 0
Asking p c = InVisit (λ (e : NmtEvent). asks e ≡ true) p c

-- The calls from the head p on left it in PreOperational2, and in this visit an enable or StartNode
-- came: first some calls, then that one, and after it and each call behind it the head is in
-- PreOperational2.
pub data Asked (p : Plain) : List Call → Type 0 where
  visiting :
      (before : List Call) (c : Call) (visit : List Call) → Asking (step_all p before) c → Stays NmtPreOperational2 (step_all p before) (c ∷ visit) →
      Asked p (before ++ (c ∷ visit))

-- The calls from the head p on left it at ReadyToOperate, and an enable or StartNode came in the
-- visit to PreOperational2 just before.
pub data Enabled (p : Plain) : List Call → Type 0 where
  -- it led to ReadyToOperate itself, where the head has been since
  at_once :
      (before : List Call) (c : Call) (after : List Call) → Asking (step_all p before) c → Stays NmtReadyToOperate (step_all p before) (c ∷ after) →
      Enabled p (before ++ (c ∷ after))
  -- it left the head in PreOperational2, until another call led to ReadyToOperate, where the head
  -- has been since
  later :
      {visited : List Call} → Asked p visited → (c : Call) (after : List Call) → Stays NmtReadyToOperate (step_all p visited) (c ∷ after) →
      Enabled p (visited ++ (c ∷ after))

-- what the call tells is that the ready word is taken back
abbrev pub takes_back : Tells → Bool
takes_back table.nothing = false
takes_back table.event = false
takes_back table.withdrawal = true

-- the call is a withdrawal
abbrev pub is_withdraw : Call → Bool
is_withdraw c = takes_back (row_of c).tells

-- a withdrawal that answers so was taken
abbrev pub is_taken : Answer → Bool
is_taken taken = true
is_taken (refused r) = false
is_taken (nmt_answer es r) = false
is_taken (dll_answer es) = false
is_taken (error_answer a s es) = false
is_taken (cycle_answer b) = false
is_taken (hand_out_answer f) = false
is_taken (tick_answer es) = false
is_taken (range_answer v) = false
is_taken (margin_answer z) = false
is_taken (due_answer d) = false
is_taken not_ours = false
is_taken (frame_answer es r) = false

-- the calls are made from the head p on, and none is a withdrawal that is taken
unfoldable pub NoneWithdrawn : Plain → List Call → Type 0
NoneWithdrawn p [] = Unit {0}
NoneWithdrawn p (c ∷ cs) = (both (is_withdraw c) (is_taken (step p c).answer) ≡ false) × NoneWithdrawn (step p c).head cs

-- the event that a call made is one of the five resets
abbrev pub resets : EventMade → Bool
resets (made e) = is_reset e
resets no_event = false

-- the calls are made from the head p on, and none makes a reset
unfoldable pub NoReset : Plain → List Call → Type 0
NoReset p [] = Unit {0}
NoReset p (c ∷ cs) = (resets (step p c).event ≡ false) × NoReset (step p c).head cs

-- the head behind some calls and the reset r
abbrev pub after_reset : Plain → List Call → Call → Plain
after_reset p before r = (step (step_all p before) r).head

-- Among the calls from the head p on, a ready word counted since the last reset, and no withdrawal
-- was taken behind it. In their order: calls of any kind, the last reset r, calls without a reset,
-- the ready word c (CnConfigurationComplete, taken in PreOperational2), and calls without a reset
-- and without a withdrawal that was taken. A head that was never reset is at GsInitialising, so at
-- ReadyToOperate there was a reset.
pub data ReadyWord (p : Plain) : List Call → Type 0 where
  since :
      (before : List Call) (r : Call) (between : List Call) (c : Call) (after : List Call) →
      resets (step (step_all p before) r).event ≡ true →
      NoReset (after_reset p before r) (between ++ (c ∷ after)) →
      InVisit (λ (e : NmtEvent). e ≡ CnConfigurationComplete) (step_all (after_reset p before r) between) c →
      NoneWithdrawn (step_all (after_reset p before r) between) (c ∷ after) →
      ReadyWord p (before ++ (r ∷ (between ++ (c ∷ after))))
