pub mod Bits
pub mod Record
pub mod Calls
