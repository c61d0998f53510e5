-- The definitions that the contracts of this crate cite beside those of `meaning`.
pub mod TwoSlices
pub mod Kept
pub mod Lists
pub mod Sections
pub mod Placed
