pub mod Address
pub mod Tags
pub mod Seed
pub mod Memory
pub mod Access
pub mod Machine
pub mod Instructions
