pub mod AcceptedWords
pub mod Calls
pub mod FaultText
pub mod Options
pub mod Words
