pub mod Codes
pub mod Named
pub mod Parts
pub mod Totals
pub mod Contracts
pub mod Example
mod Lines
pub mod Decimal
