pub mod MaskBits
pub mod DrawnTags
pub mod Choice
pub mod Touched
pub mod BitTables
