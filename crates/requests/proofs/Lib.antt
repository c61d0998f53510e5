-- Laws of the definitions in specs/, for those who call this crate.
pub mod Reading
pub mod Judging
-- no second choice is left but for a q that the kind hasn't, and for the parts that a job is read from
pub mod Unique
