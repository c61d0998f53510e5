-- Laws of the definitions in specs/, from cells alone up to the door.

-- numbers that fit their types; and the loops that measure a job
pub mod Fitting
pub mod Measuring
-- the table as it is filled, and what its cells show
pub mod Lightening
pub mod Filling
pub mod Showing
-- the trace back through it, and the picks that it finds
pub mod Lightest
pub mod Tracing
-- from a job that isn't refused to what the functions ask, and from what they leave to the promise
pub mod StatedDoor
