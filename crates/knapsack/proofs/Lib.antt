-- Laws of the definitions in specs/.

-- what the tables hold, and what the ways through them find: kinds 1 and 2, kind 3
pub mod FullRows
pub mod FreeRow
-- from a job that is let in to what the functions ask, and from what they leave to the promise
pub mod KnapsackDoor
