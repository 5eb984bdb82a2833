pub mod Parts
pub mod Suffix
