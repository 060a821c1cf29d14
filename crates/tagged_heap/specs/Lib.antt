pub mod Chunks
pub mod ClassSlots
pub mod Frees
pub mod HeapAtRest
pub mod HeapFields
pub mod Representation
pub mod Slots
