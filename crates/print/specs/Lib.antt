-- The definitions that the contracts of this crate cite: the lines, and how they are put into a slice.
pub mod Lines
pub mod Puts
