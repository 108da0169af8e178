-- A refusal's number fixes it: no two refusals have one number.
-- Assumes nothing.
use Prim.Native.Nat.{ℕ}
use mathlib.Core.Path.{◌≡◌, refl, sym, ap, ◌∙◌}
use mathlib.Core.List.{[], ◌∷◌}
use Rattle.types.specs.Pick.{read_by}
use Rattle.types.specs.Refusals.{refusal_number}
use Rattle.types.specs.declared.refusals.Refusal.{Refusal}
use Rattle.types.specs.declared.refusals.Refusal.TheVariants.{NodeNumber, QueueCapacity, WatchedNodes, UnknownNumber, TimeLimit, BeforeHeard, NotWatched, ReadyToOperate, AllWatched, AlreadyWatched, BufferTooShort, ProfileLimit, NoSingleKind, ThresholdLimit, RecipeLimits, NotPreOperational2, NoWeight, FrameTooShort, OtherEtherType, OtherMessageType, EarliestAfterLatest}

-- the refusal that has a number; where none has it, any
abbrev named : ℕ → Refusal
named n =
    read_by refusal_number (λ (r : Refusal). r) NodeNumber
    (NodeNumber ∷ QueueCapacity ∷ WatchedNodes ∷ UnknownNumber ∷ TimeLimit ∷ BeforeHeard ∷ NotWatched ∷ ReadyToOperate ∷ AllWatched ∷ AlreadyWatched ∷ BufferTooShort ∷ ProfileLimit ∷ NoSingleKind ∷ ThresholdLimit ∷ RecipeLimits ∷ NotPreOperational2 ∷ NoWeight ∷ FrameTooShort ∷ OtherEtherType ∷ OtherMessageType ∷ EarliestAfterLatest ∷ []) n

back : (r : Refusal) → named (refusal_number r) ≡ r
back NodeNumber = refl
back QueueCapacity = refl
back WatchedNodes = refl
back UnknownNumber = refl
back TimeLimit = refl
back BeforeHeard = refl
back NotWatched = refl
back ReadyToOperate = refl
back AllWatched = refl
back AlreadyWatched = refl
back BufferTooShort = refl
back ProfileLimit = refl
back NoSingleKind = refl
back ThresholdLimit = refl
back RecipeLimits = refl
back NotPreOperational2 = refl
back NoWeight = refl
back FrameTooShort = refl
back OtherEtherType = refl
back OtherMessageType = refl
back EarliestAfterLatest = refl

pub number_fixes : {r s : Refusal} → refusal_number r ≡ refusal_number s → r ≡ s
number_fixes {r = r} {s = s} e = sym (back r) ∙ ap named e ∙ back s
