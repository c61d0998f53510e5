-- The laws of the lines, and closed cases of them.
pub mod Decimal
pub mod Lengths
pub mod Joined
pub mod Cases
