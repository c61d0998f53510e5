-- The definitions that a reader must believe, one file for each subject of document 01, its numbers first. The contracts of the doors (planner,
-- certificate, host) cite these and nothing else of this project; the crates below them, and the program, have definitions of their own beside
-- these, for what their functions leave.
pub mod Bounds
pub mod Lists
pub mod Counting
pub mod Cells
pub mod Slices
pub mod Job
pub mod Cuts
pub mod Lent
pub mod Refusals
pub mod Bytes
pub mod Orders
pub mod Knapsacks
pub mod Sums
pub mod Light
pub mod Behind
pub mod Stated
pub mod Blocks
pub mod Shares
pub mod Refusing
pub mod Says
pub mod Judges
pub mod Reports
pub mod Hands
pub mod Answers
pub mod Quick
pub mod Solved
pub mod SolvedIn
pub mod Agreement
pub mod Told
pub mod Certificates
pub mod Writer
pub mod Host
pub mod Demands
pub mod Trials
