-- `tick::dll_errors::on_dll_error` meets its contract: counted, and on a signal registered and queued.
-- Assumes nothing.
use mathlib.Core.Path.{◌∙◌}
use Rattle.tick.proofs.DllErrorWalk.{on_dll_error_loud, on_dll_error_quiet}
use Rattle.tick.proofs.dll_errors.on_dll_error.Goals as goal
use Rattle.tick.proofs.dll_errors.on_dll_error.Goals.{then-answer, else-answer}

pub returns : goal.returns
returns c =
    let a = c.args in
    elim c.if-answer.branch [
      | then-answer w ↦
          on_dll_error_loud a.head.now c.told-head a.queue.now a.history.now a.error a.time c.requires c.handled-answer.result c.handled-answer.ensures.0 _ c.handled-answer.ensures.1
          c.handled-answer.array_long _ c.increment_counter.ensures c.acts.result c.acts.ensures c.finish.result _ w.if-answer.true _ w.signal.ensures
          c.if-answer.head c.if-answer.queue c.if-answer.history (rw (w.head-is, w.queue-is, w.history-is) w.queue_entry.ensures) c.finish.ensures
      | else-answer w ↦
          rw (w.queue-is, w.history-is)
          (on_dll_error_quiet a.head.now c.told-head a.queue.now a.history.now a.error a.time c.requires c.handled-answer.result c.handled-answer.ensures.0 _ c.handled-answer.ensures.1
          c.handled-answer.array_long c.if-answer.head (w.head-is ∙ c.increment_counter.ensures) c.acts.result c.acts.ensures c.finish.result _ w.if-answer.false c.finish.ensures)
    ]
