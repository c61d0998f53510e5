-- Laws of the definitions in specs/, for those who call this crate.
pub mod Parts
pub mod Placed
pub mod Sections
-- a list that begins as numbers and goes on in bytes
pub mod TwoSlices
-- no second choice is left by the functions that write
pub mod Unique
