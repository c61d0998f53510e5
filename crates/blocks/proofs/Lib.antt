-- Laws of the definitions in specs/, for those who call this crate.

-- the rows of both kinds, and the trace down the sizes
pub mod Growing
pub mod Laying
-- what the doors owe
pub mod BlocksDoor
