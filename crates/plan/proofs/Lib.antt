-- The laws that the proofs of this crate cite.
pub mod Room
pub mod Replies
pub mod ManyLabels
pub mod Versions
pub mod CaseA
