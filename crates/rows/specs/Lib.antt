-- The definitions that the contracts of this crate cite beside those of `meaning`.
pub mod Rows
pub mod Rounds
pub mod Traces
pub mod Bounded
