-- Laws of this crate: from what a request was asked to what the planner promises.
pub mod Preamble
pub mod Laying
pub mod Arms
pub mod Stating
pub mod Telling
