-- Laws of the definitions in specs/.

-- numbers by their bits, and words of them at any place
pub mod Binary
pub mod Windows
-- eight times eight bits turned
pub mod Turns
-- some cells and their bits
pub mod Rising
-- block by block from the row's end
pub mod Blocks
-- label by label
pub mod Labels
-- what the row and the bits of all labels mean, and the trace back through the bits
pub mod Picks
-- from a job that is let in to what the functions ask, and from what they leave to the promise
pub mod LightDoor
