pub mod MaskBits
pub mod Lending
pub mod Rows
