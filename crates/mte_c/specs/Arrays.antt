pub mod Spelled
pub mod Calls
pub mod Shown
