pub mod BytesOfGranules
pub mod Changes
