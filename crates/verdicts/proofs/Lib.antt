-- Laws that the proofs of this crate's functions cite, and the crates above.
pub mod Taken
pub mod PickedSums
pub mod LowRows
pub mod LowCells
pub mod Judging
