-- `tick::dll_errors::on_dll_errors` meets its contract. The invariant of the walk: what comes of the errors
-- that are left comes of all.
-- Assumes nothing.
use Rattle.types.specs.Errors.{reported}
use Rattle.tick.proofs.DllErrorWalk.{DllErrorWalkIn}
use Rattle.tick.proofs.dll_errors.on_dll_errors.Given as goal

abbrev pub invariant-walk : goal.invariant-walk
invariant-walk l =
    DllErrorWalkIn l.time l.initial.head l.initial.queue l.initial.history (reported l.fn.errors) l.head l.queue l.history l.outcome (reported l.error-iterator.0)
