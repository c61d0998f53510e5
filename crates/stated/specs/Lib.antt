-- The definitions that the contracts of this crate cite beside those of `meaning` and `rows`.
pub mod LeastWeights
pub mod ReadOff
