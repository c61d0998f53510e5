-- Laws of the definitions in specs/.
pub mod Ruling
pub mod Places
-- no second choice is left by any function of this crate
pub mod Unique
