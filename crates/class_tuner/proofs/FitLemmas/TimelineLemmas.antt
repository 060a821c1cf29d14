pub mod Ascending
pub mod OneRound
pub mod Rounds
pub mod Unions
