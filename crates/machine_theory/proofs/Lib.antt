pub mod AddressLaws
pub mod TagLaws
pub mod StepLaws
pub mod SeedLaws
pub mod MemoryLaws
pub mod ChangeLaws
pub mod ByteLaws
pub mod ChangedMemories
pub mod AccessLaws
mod WorkedExamples
