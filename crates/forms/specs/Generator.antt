-- The numbers that choose the calls of a long comparison.
-- Assumes nothing.
use Rattle.std.specs.Prelude.{ℕ, ◌+◌, ◌*◌, ◌%◌}

-- the state that follows the state x
abbrev pub drawn : ℕ → ℕ
drawn x = (x * 1103515245 + 12345) % 2147483648
