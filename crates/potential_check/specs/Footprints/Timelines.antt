pub mod MomentsLine
pub mod RefusalText
pub mod Verdicts
