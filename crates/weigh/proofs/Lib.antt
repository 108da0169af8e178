mod Making
pub mod Refusing
