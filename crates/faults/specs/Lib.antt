-- The definitions that the contracts of this crate cite beside those of `meaning`.
pub mod LowRows
pub mod Columns
