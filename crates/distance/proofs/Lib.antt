pub mod Signs
pub mod Sums
pub mod Reaching
