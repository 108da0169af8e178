-- `reception::receive` meets its contract: the DLL event, and what follows it by whether an action
-- came.
-- Assumes nothing.
use Rattle.reception.proofs.Receiving.{frame_stops, frame_follows}
use Rattle.reception.proofs.receive.Goals as goal

pub returns-then-outcome : goal.returns-then-outcome
returns-then-outcome c =
    let a = c.args in
    frame_stops a.head.now a.queue.now a.history.now a.time.us a.message c.on_dll_event-outcome.result _ _ _ (rw (c.dll_cn_event-event.ensures, c.message_type.ensures) at c.on_dll_event-outcome.ensures) c.if-outcome.true

pub returns : goal.returns
returns c =
    let a = c.args in
    frame_follows a.head.now a.queue.now a.history.now a.time.us a.message c.on_dll_event-outcome.result _ _ _ (rw (c.dll_cn_event-event.ensures, c.message_type.ensures) at c.on_dll_event-outcome.ensures) c.if-outcome.false
    c.give_event-nmt.result _ c.give_event-nmt.ensures _ c.arm_by.ensures
