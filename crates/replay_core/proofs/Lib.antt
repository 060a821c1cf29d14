pub mod LawLemmas
pub mod TheoryLemmas
pub mod Accesses
mod DigitsOfBytes
mod HexLanes
pub mod Reached
pub mod StoredMore
mod TwoDigits
pub mod Written
