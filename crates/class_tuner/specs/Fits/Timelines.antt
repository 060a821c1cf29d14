pub mod Found
pub mod Results
pub mod Rounds
