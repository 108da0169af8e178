mod AnswerTells
mod RecipePlaces
mod WeighLists
mod PlaceChanges
mod Weights
pub mod ClaimHolds
