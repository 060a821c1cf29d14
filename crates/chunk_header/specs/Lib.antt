pub mod HeaderView
pub mod Links
pub mod HeaderWrite
