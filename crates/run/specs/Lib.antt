pub mod State
pub mod Calls
pub mod Walk
pub mod Sound
