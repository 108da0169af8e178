pub mod WeighParts
pub mod PlainWeigh
pub mod WeighHeld
pub mod WeighValues
pub mod WeighMade
pub mod WeighPlayed
