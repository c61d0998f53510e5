-- The definitions that the contracts of this crate cite beside those of `meaning`.
pub mod Runs
pub mod Steps
