pub mod Batches
pub mod Collecting
pub mod Whole
