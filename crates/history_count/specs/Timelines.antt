pub mod FaultText
pub mod LiveBlocks
pub mod Pieces
pub mod Requests
pub mod Runs
pub mod Stretches
pub mod TablePeaks
pub mod TimelineText
