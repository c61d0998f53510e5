-- Laws of the definitions in specs/.

-- the starts and the shares, as a list of each
pub mod Starts
-- the order of the labels, and the border in it
pub mod Borders
-- from a job that no refusal meets to what the functions ask, and from what they leave to the promise
pub mod SharesDoor
