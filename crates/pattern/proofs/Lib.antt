pub mod Pass
pub mod Answers
pub mod Returns
pub mod Determined
