-- `tick::dll_errors::on_dll_event` meets its contract: what the event reports is quiet, so the walk
-- may take it.
-- Assumes nothing.
use Rattle.tick.proofs.DllEvents.{reports_quiet, event_walked}
use Rattle.tick.proofs.dll_errors.on_dll_event.Goals as goal

pub on_dll_errors-requires : goal.on_dll_errors-requires
on_dll_errors-requires c =
    reports_quiet c.args.head.now c.args.event c.process_dll_event-errors.result _ c.process_dll_event-errors.ensures

pub returns : goal.returns
returns c =
    let a = c.args in
    event_walked a.head.now c.told-head a.event c.process_dll_event-errors.result _ c.process_dll_event-errors.ensures
    a.queue.now a.history.now a.time c.on_dll_errors.result _ _ _ c.on_dll_errors.ensures
