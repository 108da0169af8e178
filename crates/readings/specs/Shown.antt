-- What is printed for the kind behind a code, the flags by their places, and the times that are
-- added to and compared.
-- Assumes nothing.
use Rattle.std.specs.Prelude.{ℕ, ◌^◌, min, List, [], ◌∷◌}
use Rattle.types.specs.Flags.{flags}
use Rattle.types.specs.Common.{net_time}
use Rattle.types.specs.declared.common.NetTime.{NetTime}
use Rattle.types.specs.Kinds.{CodeAnswer, kind_number, refused_by}
use Rattle.types.specs.declared.nmt.flags.FeatureFlags.{FeatureFlags}
use Rattle.std.specs.declared.option.Option.{Option}
use Rattle.std.specs.declared.option.Option.TheVariants.{Some, None}

-- the place of the kind, or nothing
abbrev pub of_code : CodeAnswer → Option ℕ
of_code (kind_number n) = Some n
of_code (refused_by n) = None

-- the flag at place n of the sixteen: the number with that bit alone; above 15, the last
abbrev pub flag_at : ℕ → FeatureFlags
flag_at n = flags (2 ^ min n 15)

-- the sixteen places
abbrev pub places : List ℕ
places = 0 ∷ 1 ∷ 2 ∷ 3 ∷ 4 ∷ 5 ∷ 6 ∷ 7 ∷ 8 ∷ 9 ∷ 10 ∷ 11 ∷ 12 ∷ 13 ∷ 14 ∷ 15 ∷ []

-- the times that are added to and compared
abbrev pub compared_times : List NetTime
compared_times = net_time 0 0 ∷ net_time 0 999999999 ∷ net_time 1 500000000 ∷ net_time 4294967295 999999999 ∷ []
