-- The laws behind the proofs of this crate.
pub mod Finding
pub mod Cells
pub mod Passes
pub mod Pairs
pub mod Carrying
pub mod Within
pub mod Across
pub mod Blocks
pub mod Counts
pub mod Rule
