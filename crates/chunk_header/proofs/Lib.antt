pub mod FirstWords
pub mod LinkedHeaders
pub mod Rewrites
