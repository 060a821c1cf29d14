pub mod Moved
pub mod Transfer
pub mod Streams
pub mod TextLeft
