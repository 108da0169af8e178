-- `phases::signal` meets its contract: by whether the register is even.
-- Assumes nothing.
use Rattle.std.proofs.Common.{ℕ, List, ◌+◌, ◌%◌, set, sym, ap, ap₂, ◌∙◌}
use Rattle.head.specs.Places as at
use Rattle.phases.proofs.Turns.{signal_even, signal_odd}
use Rattle.phases.proofs.signal.Goals as goal

pub returns-then-register-eq0 : goal.returns-then-register-eq0
returns-then-register-eq0 c =
    signal_even c.args.head.now c.told-head _
    (sym (ap (λ (n : ℕ). n % 2) c.register_of-register.ensures) ∙ c.if-register-eq0.true)
    _ (c.set_register.ensures ∙ ap₂ (λ (l : List ℕ) (n : ℕ). set l at.register (n + 1)) c.set_changed.ensures c.register_of-register.ensures)
    c.increment_counter.ensures

pub returns-else-register-eq0 : goal.returns-else-register-eq0
returns-else-register-eq0 c =
    signal_odd c.args.head.now c.told-head _
    (λ e. c.if-register-eq0.false (ap (λ (n : ℕ). n % 2) c.register_of-register.ensures ∙ e)) c.set_changed.ensures
