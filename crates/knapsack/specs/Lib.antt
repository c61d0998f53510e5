-- The definitions that the contracts of this crate cite beside those of `meaning`.
pub mod Tables
pub mod Traces
pub mod KnapsackDoor
