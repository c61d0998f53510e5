-- The definitions that the contracts of this crate cite beside those of `meaning`.
pub mod Searching
pub mod Asked
