pub mod Bytes
pub mod Ownership
