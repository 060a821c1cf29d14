pub mod Bytes
pub mod Ownership
pub mod Lending
