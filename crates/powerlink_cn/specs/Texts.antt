-- Texts for C.
-- Assumes nothing.
use Rattle.std.specs.Prelude.{ℕ, List, [], ◌∷◌, length, take, drop, replicate, min, ◌++◌}
use Rattle.std.specs.declared.option.Option.{Option}
use Rattle.std.specs.declared.option.Option.TheVariants.{Some, None}
use Rattle.std.specs.declared.result.Result.{Result}
use Rattle.std.specs.declared.result.Result.TheVariants.{Ok, Err}
use Rattle.types.specs.Pick.{read_by}
use Rattle.types.specs.Refusals.{refusal_number}
use Rattle.types.specs.declared.refusals.Refusal.{Refusal}
use Rattle.types.specs.declared.refusals.Refusal.TheVariants.{NodeNumber, QueueCapacity, WatchedNodes, UnknownNumber, TimeLimit, BeforeHeard, NotWatched, ReadyToOperate, AllWatched, AlreadyWatched, BufferTooShort, ProfileLimit, NoSingleKind, ThresholdLimit, RecipeLimits, NotPreOperational2, NoWeight, FrameTooShort, OtherEtherType, OtherMessageType, EarliestAfterLatest}
use Rattle.powerlink_cn.specs.declared.text.PlcnText.{PlcnText}

-- so many bytes, and zeros behind them
abbrev pub filled : ℕ → List ℕ → List ℕ
filled n xs = take n xs ++ drop n (replicate 96 0)

-- a text: its bytes, as far as there is room for them with a 0 behind
abbrev pub c_text : List ℕ → PlcnText
c_text xs = record { text = filled (min (length xs) 95) xs }

-- the text of what a number was read as, if of anything
abbrev pub text_of : {A : Type 0} → (A → List ℕ) → Option A → List ℕ
text_of f (Some a) = f a
text_of f None = []

-- the name of what a number was read as, if of anything
abbrev pub name_of : {A : Type 0} → (A → List ℕ) → Result A Refusal → List ℕ
name_of f (Ok a) = f a
name_of f (Err r) = []

-- all refusals, by their numbers
abbrev pub refusals : List Refusal
refusals =
    NodeNumber ∷
    QueueCapacity ∷
    WatchedNodes ∷
    UnknownNumber ∷
    TimeLimit ∷
    BeforeHeard ∷
    NotWatched ∷
    ReadyToOperate ∷
    AllWatched ∷
    AlreadyWatched ∷
    BufferTooShort ∷
    ProfileLimit ∷
    NoSingleKind ∷
    ThresholdLimit ∷
    RecipeLimits ∷
    NotPreOperational2 ∷
    NoWeight ∷
    FrameTooShort ∷
    OtherEtherType ∷
    OtherMessageType ∷
    EarliestAfterLatest ∷
    []

-- the refusal that has a number
abbrev pub refusal_named : ℕ → Option Refusal
refusal_named n = read_by refusal_number Some None refusals n
