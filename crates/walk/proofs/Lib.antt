pub mod Climbs
pub mod Labels
pub mod Steps
