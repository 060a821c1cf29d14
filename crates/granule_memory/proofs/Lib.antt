pub mod Granules
pub mod SameBytes
pub mod Writes
pub mod TagWords
