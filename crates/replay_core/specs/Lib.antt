pub mod TotalsBounds
pub mod ReplayFields
pub mod TheoryValues
pub mod ReplayState
pub mod TwoDigits
