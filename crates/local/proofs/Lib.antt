pub mod Places
pub mod Numbers
pub mod Walks
pub mod Blocks
pub mod Moves
pub mod Chains
pub mod Targets
