pub mod Reached
pub mod Reading
pub mod FaultText
pub mod Kept
pub mod OnePass
pub mod Status
pub mod TraceLine
pub mod TraceText
