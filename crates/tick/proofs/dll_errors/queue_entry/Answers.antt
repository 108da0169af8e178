-- `tick::dll_errors::queue_entry` meets its contract: the entry joins queue and history, or no byte is
-- written.
-- Assumes nothing.
use mathlib.Core.Path.{ap, ap₂, ◌∙◌}
use mathlib.Core.List.{List}
use Prim.Native.Nat.{ℕ}
use Rattle.entries.specs.Entry.{crossing_entry}
use Rattle.entries.specs.Queue.{pushed_bytes}
use Rattle.entries.proofs.Lists.{pushed_as}
use Rattle.entries.specs.History.{joined, joined_bytes}
use Rattle.entries.proofs.Entries.{crossing_fits}
use Rattle.head.specs.Written.{queue_written, history_written}
use Rattle.tick.proofs.DllErrorWalk.{enters, drops}
use Rattle.tick.proofs.dll_errors.queue_entry.Goals as goal

pub returns-then-push_back : goal.returns-then-push_back
returns-then-push_back c =
    enters c.args.head.now c.told-head c.args.queue.now c.args.history.now _ (crossing_entry c.args.error c.args.time) (record { queue = c.push_back.new.self; kept = c.push_back.result })
    (pushed_as c.push_back.ensures.queue c.push_back.ensures.kept c.queue_of-places.ensures)
    (c.push_back.ensures.bytes ∙ ap₂ (pushed_bytes c.args.queue.now) c.queue_of-places.ensures c.of_crossing-entry.ensures) c.told-queue c.told-history (crossing_fits c.args.error c.args.time) c.if-push_back.true
    c.write_error_to_history.new.self _ (
      c.write_error_to_history.ensures.history ∙ ap joined c.history_of-joined.ensures,
      c.write_error_to_history.ensures.bytes ∙ ap₂ (joined_bytes c.args.history.now) c.history_of-joined.ensures c.of_crossing-entry.ensures,
    )
    _ (c.set_history.ensures ∙ ap (λ (l : List ℕ). history_written l c.write_error_to_history.new.self)
    (c.set_queue.ensures ∙ ap (λ (l : List ℕ). queue_written l c.push_back.new.self) c.increment_counter.ensures))

pub returns : goal.returns
returns c =
    drops c.args.head.now c.told-head c.args.queue.now c.args.history.now _ (crossing_entry c.args.error c.args.time) (record { queue = c.push_back.new.self; kept = c.push_back.result })
    (pushed_as c.push_back.ensures.queue c.push_back.ensures.kept c.queue_of-places.ensures)
    (c.push_back.ensures.bytes ∙ ap₂ (pushed_bytes c.args.queue.now) c.queue_of-places.ensures c.of_crossing-entry.ensures) c.told-queue c.if-push_back.false _ c.increment_counter-2.ensures
