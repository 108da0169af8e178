-- The numbers of the refusals, and their texts.
-- Assumes nothing.
use Rattle.std.specs.Prelude.{ℕ, List, codes}
use Rattle.types.specs.declared.refusals.Refusal.{Refusal}
use Rattle.types.specs.declared.refusals.Refusal.TheVariants.{NodeNumber, QueueCapacity, WatchedNodes, UnknownNumber, TimeLimit, BeforeHeard, NotWatched, ReadyToOperate, AllWatched, AlreadyWatched, BufferTooShort, ProfileLimit, NoSingleKind, ThresholdLimit, RecipeLimits, NotPreOperational2, NoWeight, FrameTooShort, OtherEtherType, OtherMessageType, EarliestAfterLatest}

-- a refusal's number (RULES 2)
abbrev pub refusal_number : Refusal → ℕ
refusal_number NodeNumber = 1
refusal_number QueueCapacity = 2
refusal_number WatchedNodes = 3
refusal_number UnknownNumber = 4
refusal_number TimeLimit = 5
refusal_number BeforeHeard = 6
refusal_number NotWatched = 7
refusal_number ReadyToOperate = 8
refusal_number AllWatched = 9
refusal_number AlreadyWatched = 10
refusal_number BufferTooShort = 11
refusal_number ProfileLimit = 12
refusal_number NoSingleKind = 13
refusal_number ThresholdLimit = 14
refusal_number RecipeLimits = 15
refusal_number NotPreOperational2 = 16
refusal_number NoWeight = 17
refusal_number FrameTooShort = 18
refusal_number OtherEtherType = 19
refusal_number OtherMessageType = 20
refusal_number EarliestAfterLatest = 21

-- a refusal's text, as bytes
abbrev pub refusal_text : Refusal → List ℕ
refusal_text NodeNumber = codes "the node's number is not 1 to 240, 253, 254 or 255"
refusal_text QueueCapacity = codes "the emergency queue is to hold more than 32 entries"
refusal_text WatchedNodes = codes "the run of watched nodes is not well formed"
refusal_text UnknownNumber = codes "the number names no NMT state, NMT event, command, DLL event or kind of error"
refusal_text TimeLimit = codes "the time is above 2^62 - 1 microseconds"
refusal_text BeforeHeard = codes "the time is before a watched node was last heard"
refusal_text NotWatched = codes "the node is not watched"
refusal_text ReadyToOperate = codes "the ready word can't be withdrawn at ReadyToOperate"
refusal_text AllWatched = codes "32 nodes are watched already"
refusal_text AlreadyWatched = codes "the node is watched already"
refusal_text BufferTooShort = codes "fewer than 20 bytes are left from the place on"
refusal_text ProfileLimit = codes "the profile of the entry is above 4095"
refusal_text NoSingleKind = codes "the error code names no single kind"
refusal_text ThresholdLimit = codes "a threshold is above 1,000,000"
refusal_text RecipeLimits = codes "the recipe is outside its limits"
refusal_text NotPreOperational2 = codes "a recipe is loaded in PreOperational2 alone"
refusal_text NoWeight = codes "no weight is told for the place now"
refusal_text FrameTooShort = codes "the frame is too short"
refusal_text OtherEtherType = codes "the frame's EtherType is not POWERLINK's"
refusal_text OtherMessageType = codes "the frame's message type is unknown"
refusal_text EarliestAfterLatest = codes "the earliest reading is after the latest"
