pub mod Laid
