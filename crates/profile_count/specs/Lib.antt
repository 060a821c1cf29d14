pub mod Counts
pub mod ProfileText
pub mod Requests
pub mod FaultText
