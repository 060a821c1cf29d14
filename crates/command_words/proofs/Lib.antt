pub mod Calls
mod GivenOptions
pub mod Tables
pub mod LawLemmas
