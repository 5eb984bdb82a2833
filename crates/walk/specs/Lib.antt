pub mod Depths
pub mod Labels
