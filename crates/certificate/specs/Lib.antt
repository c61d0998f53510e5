-- The definitions that the contracts of this crate cite beside those of `meaning` and `verdicts`.
pub mod Refusing
pub mod Copying
