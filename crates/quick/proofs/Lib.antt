-- Laws of the definitions in specs/, from lists of labels up to the doors.

-- labels put in order
pub mod Runs
pub mod Choosing
pub mod Laying
pub mod Merging
-- the greedy list, label by label in order
pub mod Settling
-- the single label, found label by label
pub mod Finding
-- the doors
pub mod QuickDoor
