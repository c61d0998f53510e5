-- Laws of the definitions in specs/, from cells alone up to the door.
pub mod Growing
pub mod Tracing
pub mod BehindDoor
