pub mod Bits
pub mod Refusals
pub mod Records
pub mod Examples
pub mod Packed
pub mod Parts
pub mod Answers
pub mod Determined
