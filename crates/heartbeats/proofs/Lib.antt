pub mod LateErrors
pub mod LateWalk
