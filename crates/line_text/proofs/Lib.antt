pub mod LawLemmas
pub mod Cuts
pub mod Digits
mod DigitEnds
mod DigitWords
mod JoinedDigits
pub mod FirstFaults
pub mod FirstNumbers
pub mod FirstPairs
pub mod FirstRows
pub mod FullLines
pub mod HexDigits
pub mod LeadingDigits
pub mod LeadingWord
pub mod LineFaults
pub mod NearNumbers
pub mod Prefixes
pub mod SignedWord
mod Signs
mod Stops
