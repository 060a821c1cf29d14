pub mod Calls
pub mod Taken
pub mod Traces
pub mod Room
