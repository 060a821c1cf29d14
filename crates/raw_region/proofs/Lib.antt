pub mod Names
pub mod Fields
pub mod Allocator
pub mod Written
pub mod Windows
