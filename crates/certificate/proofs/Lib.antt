-- The laws behind the proofs of this crate.
pub mod Refusing
pub mod Counting
pub mod Reading
pub mod Checking
pub mod Copying
