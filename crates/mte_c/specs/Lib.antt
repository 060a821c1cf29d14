pub mod Arrays
pub mod Commands
pub mod Heap
