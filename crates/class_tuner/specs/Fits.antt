pub mod Ends
pub mod Fitted
pub mod PlaceByPlace
pub mod Timelines
