pub mod OptionTable
pub mod Options
