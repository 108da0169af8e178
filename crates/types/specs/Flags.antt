-- The feature flags are their number.
-- Assumes nothing.
use Rattle.std.specs.Prelude.{ℕ, ◌^◌}
use Rattle.types.specs.declared.nmt.flags.FeatureFlags.{FeatureFlags}

-- the feature flags whose bits are those of n
abbrev pub flags : ℕ → FeatureFlags
flags n = record { 0 = n }

-- one flag alone, by its bit, counted from 0
abbrev pub flag : ℕ → FeatureFlags
flag bit = flags (2 ^ bit)
